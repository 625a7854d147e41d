-- Ranks in order, and the diagnostics that have them.
use Rattle.std.proofs.Common.{◌≡◌, Bool, ◌&&◌, ℕ, ◌+◌, ◌<◌, ◌≤◌, ◌⊎◌, ◌↔◌, zero, suc, List, [], ◌∷◌, ◌++◌, map, length, get_or, true, false, cond, refl, sym, ap, ap₂, subst, ◌∙◌, inl, inr, arith}
use Rattle.std.specs.Prelude.{nat_lt, Option, Some, None, Contains, slice_get}
use Rattle.std.specs.BTreeMap.{BTreeMap, is_at}
use Rattle.std.specs.BTreeSet.{BTreeSet, insert_key, IsOrdered}
use Rattle.std.specs.List.{AllByRecursion}
use Rattle.std.specs.List.Sorted.{IsStrictlySortedBy}
use Rattle.std.specs.Cmp.{ranks, nat_cmp_is}
use Rattle.std.specs.Cmp.Lexicographic.{slice_cmp}
use Rattle.std.specs.Option.{option_cmp}
use Rattle.std.specs.Ordering.{nat_cmp, is_eq, ordering_then, match_ordering, MatchOrdering}
use Rattle.std.specs.declared.cmp.Ordering.{Ordering}
use Rattle.std.specs.declared.cmp.Ordering.TheVariants.{Less, Equal, Greater}
use Rattle.std.proofs.lemmas.Bool.Decides.{Decides-ltb}
use Rattle.std.proofs.lemmas.Map.Lookups.{exact_bytes}
use Rattle.sigma_base.specs.Lists.{Each}
use Rattle.kif_tree.specs.declared.place.Located.{Located}
use Rattle.kif_tree.specs.declared.place.Place.{Place}
use Rattle.kif_tree.specs.Places.{PlacesDiffer}
use Rattle.taxonomy.proofs.ChainLaws.{contains_head, contains_tail, in_map, map_in}
use Rattle.taxonomy.proofs.GraphLaws.{each_in}
use Rattle.diagnose.specs.declared.diagnostic.Diagnostic.{Diagnostic}
use Rattle.diagnose.specs.declared.order.Rank.{Rank}
use Rattle.diagnose.specs.Diagnostics.{StandsBefore, OtherBefore, ComesBefore, AreAscending}
use Rattle.diagnose.specs.Order.{place_order, rank_order, find, ArePositions, position_of, place_at, place_of, rank_of, diagnostic_of, AddsRank, AreRanks, IsFormPlace, AreKnown, Appends, codes_ascend}

abbrev order : Rank → Rank → Ordering
order = rank_order

-- ---- orderings

pub then_less : (p q : Ordering) → ordering_then p q ≡ Less → (p ≡ Less) ⊎ ((p ≡ Equal) × (q ≡ Less))
then_less Less q h = inl refl
then_less Equal q h = inr (refl, h)
then_less Greater q h = absurd (cc)

pub then_equal : (p q : Ordering) → ordering_then p q ≡ Equal → (p ≡ Equal) × (q ≡ Equal)
then_equal Less q h = absurd (cc)
then_equal Equal q h = (refl, h)
then_equal Greater q h = absurd (cc)

pub nat_equal : (x y : ℕ) → nat_cmp x y ≡ Equal → x ≡ y
nat_equal x y h = subst (λ r. MatchOrdering r (x < y) (x ≡ y) (y < x)) h (ranks x y)

pub nat_less : (x y : ℕ) → nat_cmp x y ≡ Less → x < y
nat_less x y h = subst (λ r. MatchOrdering r (x < y) (x ≡ y) (y < x)) h (ranks x y)

pub option_equal : (x y : Option ℕ) → option_cmp nat_cmp x y ≡ Equal → x ≡ y
option_equal None None h = refl
option_equal None (Some y) h = absurd (cc)
option_equal (Some x) None h = absurd (cc)
option_equal (Some x) (Some y) h = ap Some (nat_equal x y h)

pub equal_places : (a b : Place) → place_order a b ≡ Equal → a ≡ b
equal_places a b h =
    let one = then_equal (nat_cmp a.constituent b.constituent) (ordering_then (nat_cmp a.form b.form) (ordering_then (nat_cmp a.line b.line) (nat_cmp a.column b.column))) h in
    let two = then_equal (nat_cmp a.form b.form) (ordering_then (nat_cmp a.line b.line) (nat_cmp a.column b.column)) one.1 in
    let three = then_equal (nat_cmp a.line b.line) (nat_cmp a.column b.column) two.1 in
    let constituents = nat_equal a.constituent b.constituent one.0 in
    let forms = nat_equal a.form b.form two.0 in
    let lines = nat_equal a.line b.line three.0 in
    let columns = nat_equal a.column b.column three.1 in
    (λ i. record { constituent = constituents i; form = forms i; line = lines i; column = columns i })

pub equal_ranks : (a b : Rank) → order a b ≡ Equal → a ≡ b
equal_ranks a b h =
    let one = then_equal (nat_cmp a.code b.code) (ordering_then (slice_cmp nat_cmp a.term b.term) (option_cmp nat_cmp a.other b.other)) h in
    let two = then_equal (slice_cmp nat_cmp a.term b.term) (option_cmp nat_cmp a.other b.other) one.1 in
    let codes = nat_equal a.code b.code one.0 in
    let terms = exact_bytes a.term b.term two.0 in
    let others = option_equal a.other b.other two.1 in
    (λ i. record { code = codes i; term = terms i; other = others i })

-- ---- a set with one more rank

one_of : {X : Type 0} (x : X) (xs : List X) (other : X) → Contains (x ∷ xs) other → (x ≡ other) ⊎ Contains xs other
one_of x xs other (zero, lt, is) = inl is
one_of x xs other (suc k, lt, is) = inr (k, omega (arith, lt), is)

at_head : {X : Type 0} (x : X) (xs : List X) (other : X) → x ≡ other → Contains (x ∷ xs) other
at_head x xs other e = subst (Contains (x ∷ xs)) e (contains_head x xs)

only_inserted : (keys : List Rank) (rank other : Rank) → Contains (insert_key order keys rank) other → Contains keys other ⊎ (rank ≡ other)
only_inserted [] rank other h = go (one_of rank [] other h)
  where
    go : ((rank ≡ other) ⊎ Contains [] other) → Contains [] other ⊎ (rank ≡ other)
    go (inl e) = inr e
    go (inr k) = inl k
only_inserted (x ∷ xs) rank other h = go (order rank x) (only_inserted xs rank other) h
  where
    first : ((rank ≡ other) ⊎ Contains (x ∷ xs) other) → Contains (x ∷ xs) other ⊎ (rank ≡ other)
    first (inl e) = inr e
    first (inr k) = inl k

    left : (Contains xs other ⊎ (rank ≡ other)) → Contains (x ∷ xs) other ⊎ (rank ≡ other)
    left (inl k) = inl (contains_tail x xs other k)
    left (inr e) = inr e

    later : (Contains (insert_key order xs rank) other → Contains xs other ⊎ (rank ≡ other)) → ((x ≡ other) ⊎ Contains (insert_key order xs rank) other) → Contains (x ∷ xs) other ⊎ (rank ≡ other)
    later ih (inl e) = inl (at_head x xs other e)
    later ih (inr k) = left (ih k)

    go : (o : Ordering) → (Contains (insert_key order xs rank) other → Contains xs other ⊎ (rank ≡ other)) → Contains (match_ordering o (rank ∷ x ∷ xs) (x ∷ xs) (x ∷ insert_key order xs rank)) other → Contains (x ∷ xs) other ⊎ (rank ≡ other)
    go Less ih h = first (one_of rank (x ∷ xs) other h)
    go Equal ih h = inl h
    go Greater ih h = later ih (one_of x (insert_key order xs rank) other h)

all_inserted : (keys : List Rank) (rank other : Rank) → (Contains keys other ⊎ (rank ≡ other)) → Contains (insert_key order keys rank) other
all_inserted [] rank other (inl k) = contains_tail rank [] other k
all_inserted [] rank other (inr e) = at_head rank [] other e
all_inserted (x ∷ xs) rank other h = go (order rank x) refl (all_inserted xs rank other) h
  where
    case : ((Contains xs other ⊎ (rank ≡ other)) → Contains (insert_key order xs rank) other) → ((x ≡ other) ⊎ Contains xs other) → Contains (x ∷ insert_key order xs rank) other
    case ih (inl e) = at_head x (insert_key order xs rank) other e
    case ih (inr k) = contains_tail x (insert_key order xs rank) other (ih (inl k))

    go : (o : Ordering) → order rank x ≡ o → ((Contains xs other ⊎ (rank ≡ other)) → Contains (insert_key order xs rank) other) → (Contains (x ∷ xs) other ⊎ (rank ≡ other))
        → Contains (match_ordering o (rank ∷ x ∷ xs) (x ∷ xs) (x ∷ insert_key order xs rank)) other
    go Less is ih (inl k) = contains_tail rank (x ∷ xs) other k
    go Less is ih (inr e) = at_head rank (x ∷ xs) other e
    go Equal is ih (inl k) = k
    go Equal is ih (inr e) = at_head x xs other (sym (equal_ranks rank x is) ∙ e)
    go Greater is ih (inl k) = case ih (one_of x xs other k)
    go Greater is ih (inr e) = contains_tail x (insert_key order xs rank) other (ih (inr e))

inserted : (keys : List Rank) (rank other : Rank) → Contains (insert_key order keys rank) other ↔ (Contains keys other ⊎ (rank ≡ other))
inserted keys rank other = (only_inserted keys rank other, all_inserted keys rank other)

pub adds_rank : (old new : BTreeSet Rank) (rank : Rank) → IsOrdered order new → new.keys ≡ insert_key order old.keys rank → AddsRank old new rank
adds_rank old new rank ordered is = record {
  ordered = ordered;
  has = λ other. subst (λ (ks : List Rank). Contains ks other ↔ (Contains old.keys other ⊎ (rank ≡ other))) (sym is) (inserted old.keys rank other);
}

-- ---- ranks of the diagnostics gone through

pub ranks_of_none : (table : BTreeMap Place ℕ) (set : BTreeSet Rank) → IsOrdered order set → set.keys ≡ [] → AreRanks table [] set
ranks_of_none table set ordered empty = record {
  ordered = ordered;
  are = λ rank. subst (λ (ks : List Rank). Contains ks rank ↔ Contains [] rank) (sym empty) (λ h. h, λ h. h);
}

in_push : {X : Type 0} (xs : List X) (y x : X) → Contains (xs ++ y ∷ []) x → Contains xs x ⊎ (y ≡ x)
in_push [] y x (zero, lt, is) = inr is
in_push [] y x (suc k, lt, is) = absurd (omega (arith, lt))
in_push (z ∷ xs) y x (zero, lt, is) = inl (0, omega arith, is)
in_push (z ∷ xs) y x (suc k, lt, is) = go (in_push xs y x (k, omega (arith, lt), is))
  where
    go : (Contains xs x ⊎ (y ≡ x)) → Contains (z ∷ xs) x ⊎ (y ≡ x)
    go (inl h) = inl (contains_tail z xs x h)
    go (inr e) = inr e

push_in : {X : Type 0} (xs : List X) (y x : X) → (Contains xs x ⊎ (y ≡ x)) → Contains (xs ++ y ∷ []) x
push_in [] y x (inl h) = contains_tail y [] x h
push_in [] y x (inr e) = subst (Contains (y ∷ [])) e (contains_head y [])
push_in (z ∷ xs) y x (inl (zero, lt, is)) = (0, omega arith, is)
push_in (z ∷ xs) y x (inl (suc k, lt, is)) = contains_tail z (xs ++ y ∷ []) x (push_in xs y x (inl (k, omega (arith, lt), is)))
push_in (z ∷ xs) y x (inr e) = contains_tail z (xs ++ y ∷ []) x (push_in xs y x (inr e))

map_push : {X Y : Type 0} (f : X → Y) (xs : List X) (x : X) → map f (xs ++ x ∷ []) ≡ map f xs ++ f x ∷ []
map_push f [] x = refl
map_push f (y ∷ xs) x = ap (λ ys. f y ∷ ys) (map_push f xs x)

pub ranks_of_more : (table : BTreeMap Place ℕ) (found : List Diagnostic) (d : Diagnostic) (old new : BTreeSet Rank) (rank : Rank) → AreRanks table found old → AddsRank old new rank → rank ≡ rank_of table d → AreRanks table (found ++ d ∷ []) new
ranks_of_more table found d old new rank are adds is = record {
  ordered = adds.ordered;
  are = λ other. subst (λ (rs : List Rank). Contains new.keys other ↔ Contains rs other) (sym (map_push (rank_of table) found d)) (there other, back other);
}
  where
    there : (other : Rank) → Contains new.keys other → Contains (map (rank_of table) found ++ rank_of table d ∷ []) other
    there other h = push_in (map (rank_of table) found) (rank_of table d) other (go ((adds.has other).0 h))
      where
        go : (Contains old.keys other ⊎ (rank ≡ other)) → Contains (map (rank_of table) found) other ⊎ (rank_of table d ≡ other)
        go (inl k) = inl ((are.are other).0 k)
        go (inr e) = inr (sym is ∙ e)

    back : (other : Rank) → Contains (map (rank_of table) found ++ rank_of table d ∷ []) other → Contains new.keys other
    back other h = (adds.has other).1 (go (in_push (map (rank_of table) found) (rank_of table d) other h))
      where
        go : (Contains (map (rank_of table) found) other ⊎ (rank_of table d ≡ other)) → Contains old.keys other ⊎ (rank ≡ other)
        go (inl k) = inl ((are.are other).1 k)
        go (inr e) = inr (is ∙ e)

-- ---- positions

pub get_of : (forms : List Located) (located : Located) → Contains forms located → (n : ℕ) × (slice_get forms n ≡ Some located)
get_of [] located (k, lt, is) = absurd (omega (arith, lt))
get_of (first ∷ forms) located (zero, lt, is) = (0, ap Some is)
get_of (first ∷ forms) located (suc k, lt, is) = let r = get_of forms located (k, omega (arith, lt), is) in (suc r.0, r.1)

record Split (forms : List Located) (located : Located) : Type 0 where
  before : List Located
  after : List Located
  stand : forms ≡ before ++ located ∷ after

split_at : (forms : List Located) (n : ℕ) (located : Located) → slice_get forms n ≡ Some located → Split forms located
split_at [] n located e = absurd (cc)
split_at (first ∷ forms) zero located e = let same : first ≡ located = cc in record { before = []; after = forms; stand = ap (λ (l : Located). l ∷ forms) same }
split_at (first ∷ forms) (suc n) located e = let s = split_at forms n located e in record { before = first ∷ s.before; after = s.after; stand = ap (λ (ls : List Located). first ∷ ls) s.stand }

pub stands_before : (forms : List Located) (n m : ℕ) (one other : Located) → slice_get forms n ≡ Some one → slice_get forms m ≡ Some other → n < m → StandsBefore forms one.place other.place
stands_before [] n m one other e k lt = absurd (cc)
stands_before (first ∷ forms) zero zero one other e k lt = absurd (omega (arith, lt))
stands_before (first ∷ forms) zero (suc m) one other e k lt =
    let same : first ≡ one = cc in
    let s = split_at forms m other k in
    record { before = []; one = one.form; between = s.before; other = other.form; after = s.after; stand = ap₂ (λ (l : Located) (ls : List Located). l ∷ ls) same s.stand }
stands_before (first ∷ forms) (suc n) zero one other e k lt = absurd (omega (arith, lt))
stands_before (first ∷ forms) (suc n) (suc m) one other e k lt =
    let s = stands_before forms n m one other e k (omega (arith, lt)) in
    record { before = first ∷ s.before; one = s.one; between = s.between; other = s.other; after = s.after; stand = ap (λ (ls : List Located). first ∷ ls) s.stand }

-- ---- diagnostics of ranks

-- a rank's position, where it has one, is that of a form
abbrev IsWithin : List Located → Option ℕ → Type 0
IsWithin forms None = Unit {0}
IsWithin forms (Some n) = (located : Located) × (slice_get forms n ≡ Some located)

other_before : (forms : List Located) (a b : Option ℕ) → IsWithin forms a → IsWithin forms b → option_cmp nat_cmp a b ≡ Less → OtherBefore forms (place_at forms a) (place_at forms b)
other_before forms None None v w h = absurd (cc)
other_before forms None (Some m) v (located, is) h = subst (λ o. OtherBefore forms None (place_of o)) (sym is) tt
other_before forms (Some n) None v w h = absurd (cc)
other_before forms (Some n) (Some m) (one, e) (other, k) h =
    subst (λ o. OtherBefore forms (place_of o) (place_of (slice_get forms m))) (sym e)
    (subst (λ o. OtherBefore forms (Some one.place) (place_of o)) (sym k) (stands_before forms n m one other e k (nat_less n m h)))

comes_before : (forms : List Located) (place : Place) (a b : Rank) → IsWithin forms a.other → IsWithin forms b.other → order a b ≡ Less → ComesBefore forms (diagnostic_of forms place a) (diagnostic_of forms place b)
comes_before forms place a b v w h = inr (refl, by_code (then_less (nat_cmp a.code b.code) (ordering_then (slice_cmp nat_cmp a.term b.term) (option_cmp nat_cmp a.other b.other)) h))
  where
    by_term : ((slice_cmp nat_cmp a.term b.term ≡ Less) ⊎ ((slice_cmp nat_cmp a.term b.term ≡ Equal) × (option_cmp nat_cmp a.other b.other ≡ Less)))
        → (slice_cmp nat_cmp a.term b.term ≡ Less) ⊎ ((a.term ≡ b.term) × OtherBefore forms (place_at forms a.other) (place_at forms b.other))
    by_term (inl e) = inl e
    by_term (inr (e, k)) = inr (exact_bytes a.term b.term e, other_before forms a.other b.other v w k)

    by_code : ((nat_cmp a.code b.code ≡ Less) ⊎ ((nat_cmp a.code b.code ≡ Equal) × (ordering_then (slice_cmp nat_cmp a.term b.term) (option_cmp nat_cmp a.other b.other) ≡ Less)))
        → (a.code < b.code) ⊎ ((a.code ≡ b.code) × ((slice_cmp nat_cmp a.term b.term ≡ Less) ⊎ ((a.term ≡ b.term) × OtherBefore forms (place_at forms a.other) (place_at forms b.other))))
    by_code (inl e) = inl (nat_less a.code b.code e)
    by_code (inr (e, k)) = inr (nat_equal a.code b.code e, by_term (then_less (slice_cmp nat_cmp a.term b.term) (option_cmp nat_cmp a.other b.other) k))

abbrev AreWithin : List Located → List Rank → Type 0
AreWithin forms keys = Each (λ (rank : Rank). IsWithin forms rank.other) keys

ascending : (forms : List Located) (place : Place) (keys : List Rank) → AreWithin forms keys → IsStrictlySortedBy order keys → AreAscending forms (map (diagnostic_of forms place) keys)
unfolding IsStrictlySortedBy
ascending forms place [] w h = tt
ascending forms place (rank ∷ keys) w h = (all keys w.1 h.0, ascending forms place keys w.1 h.1)
  where
    all : (rest : List Rank) → AreWithin forms rest → AllByRecursion (λ other. order rank other ≡ Less) rest → Each (ComesBefore forms (diagnostic_of forms place rank)) (map (diagnostic_of forms place) rest)
    all [] v k = tt
    all (other ∷ rest) v k = (comes_before forms place rank other w.0 v.0 k.0, all rest v.1 k.1)

-- ---- what is known of diagnostics found

known_within : (forms : List Located) (table : BTreeMap Place ℕ) (other : Option Place) → ArePositions forms table → IsFormPlace forms other → IsWithin forms (position_of table other) × (place_at forms (position_of table other) ≡ other)
known_within forms table None are known = (tt, refl)
known_within forms table (Some place) are (located, among, at) =
    let got = get_of forms located among in
    let is : find table place ≡ Some got.0 = ap (find table) (sym at) ∙ are.found got.0 located got.1 in
    (subst (IsWithin forms) (sym is) (located, got.1), ap (place_at forms) is ∙ ap place_of got.1 ∙ ap Some at)

same_again : (forms : List Located) (table : BTreeMap Place ℕ) (place : Place) (d : Diagnostic) → ArePositions forms table → d.place ≡ place → IsFormPlace forms d.other → diagnostic_of forms place (rank_of table d) ≡ d
same_again forms table place d are at known =
    let others = (known_within forms table d.other are known).1 in
    (λ i. record { code = d.code; place = sym at i; term = d.term; other = others i })

pub appends : (forms : List Located) (table : BTreeMap Place ℕ) (place : Place) (found old new : List Diagnostic) (set : BTreeSet Rank) → ArePositions forms table → AreKnown forms place found → AreRanks table found set
    → new ≡ old ++ map (diagnostic_of forms place) set.keys → Appends forms found old new
appends forms table place found old new set are known of is = record {
  sorted = map (diagnostic_of forms place) set.keys;
  is = is;
  ascending = ascending forms place set.keys (within set.keys (λ rank h. h)) of.ordered;
  same = λ d. (there d, back d);
}
  where
    of_found : (d : Diagnostic) → Contains found d → (d.place ≡ place) × IsFormPlace forms d.other
    of_found d h = each_in (λ (d : Diagnostic). (d.place ≡ place) × IsFormPlace forms d.other) found d h known

    within : (keys : List Rank) → ((rank : Rank) → Contains keys rank → Contains set.keys rank) → AreWithin forms keys
    within [] h = tt
    within (rank ∷ keys) h =
        let from = in_map (rank_of table) found rank ((of.are rank).0 (h rank (contains_head rank keys))) in
        (subst (λ (r : Rank). IsWithin forms r.other) from.2 (known_within forms table from.0.other are (of_found from.0 from.1).1).0, within keys (λ other k. h other (contains_tail rank keys other k)))

    there : (d : Diagnostic) → Contains (map (diagnostic_of forms place) set.keys) d → Contains found d
    there d h =
        let from = in_map (diagnostic_of forms place) set.keys d h in
        let source = in_map (rank_of table) found from.0 ((of.are from.0).0 from.1) in
        let told = of_found source.0 source.1 in
        subst (Contains found) (sym (same_again forms table place source.0 are told.0 told.1) ∙ ap (diagnostic_of forms place) source.2 ∙ from.2) source.1

    back : (d : Diagnostic) → Contains found d → Contains (map (diagnostic_of forms place) set.keys) d
    back d h =
        let told = of_found d h in
        subst (Contains (map (diagnostic_of forms place) set.keys)) (same_again forms table place d are told.0 told.1)
        (map_in (diagnostic_of forms place) set.keys (rank_of table d) ((of.are (rank_of table d)).1 (map_in (rank_of table) found d h)))

-- ---- the positions of different places

each_at : {X : Type 0} (P : X → Type 0) (xs : List X) (n : ℕ) (x : X) → Each P xs → slice_get xs n ≡ Some x → P x
each_at P [] n x h e = absurd (cc)
each_at P (y ∷ xs) zero x h e = let same : y ≡ x = cc in subst P same h.0
each_at P (y ∷ xs) (suc n) x h e = each_at P xs n x h.1 e

pub differ_at : (forms : List Located) (n m : ℕ) (one other : Located) → PlacesDiffer forms → slice_get forms n ≡ Some one → slice_get forms m ≡ Some other → n < m → one.place ≡ other.place → ⊥
differ_at [] n m one other h e k lt same = absurd (cc)
differ_at (first ∷ forms) zero zero one other h e k lt same = absurd (omega (arith, lt))
differ_at (first ∷ forms) zero (suc m) one other h e k lt same =
    let is : first ≡ one = cc in each_at (λ (l : Located). first.place ≡ l.place → ⊥) forms m other h.0 k (ap (λ (l : Located). l.place) is ∙ same)
differ_at (first ∷ forms) (suc n) zero one other h e k lt same = absurd (omega (arith, lt))
differ_at (first ∷ forms) (suc n) (suc m) one other h e k lt same = differ_at forms n m one other h.1 e k (omega (arith, lt)) same

nat_same : (x : ℕ) → nat_cmp x x ≡ Equal
nat_same x = sym (nat_cmp_is x x Equal refl)

same_place : (a : Place) → place_order a a ≡ Equal
same_place a =
    ap₂ ordering_then (nat_same a.constituent) (ap₂ ordering_then (nat_same a.form) (ap₂ ordering_then (nat_same a.line) (nat_same a.column)))

pub position_added : (forms : List Located) (old new : BTreeMap Place ℕ) (index : ℕ) (located : Located) → PlacesDiffer forms → slice_get forms index ≡ Some located
    → ((q : Place) → find new q ≡ cond (is_at (place_order located.place) q) (Some index) (find old q))
    → ((n : ℕ) (l : Located) → n < index → slice_get forms n ≡ Some l → find old l.place ≡ Some n)
    → (n : ℕ) (l : Located) → n < index + 1 → slice_get forms n ≡ Some l → find new l.place ≡ Some n
position_added forms old new index located differ at update earlier n l lt e = update l.place ∙ go (place_order located.place l.place) refl (nat_cmp n index) (ranks n index)
  where
    go : (o : Ordering) → place_order located.place l.place ≡ o → (r : Ordering) → MatchOrdering r (n < index) (n ≡ index) (index < n) → cond (is_eq o) (Some index) (find old l.place) ≡ Some n
    go o is Greater after = absurd (omega (arith, after, lt))
    go o is Equal same =
        let one : Some l ≡ Some located = sym e ∙ ap (slice_get forms) same ∙ at in
        let equal : o ≡ Equal = sym is ∙ ap (place_order located.place) (let k : l ≡ located = cc in ap (λ (x : Located). x.place) k) ∙ same_place located.place in
        ap (λ (r : Ordering). cond (is_eq r) (Some index) (find old l.place)) equal ∙ ap Some (sym same)
    go Equal is Less before = absurd (differ_at forms n index l located differ e at before (sym (equal_places located.place l.place is)))
    go Less is Less before = earlier n l before e
    go Greater is Less before = earlier n l before e

pub positions_of : (forms : List Located) (table : BTreeMap Place ℕ) (index : ℕ) → length forms ≤ index → ((n : ℕ) (l : Located) → n < index → slice_get forms n ≡ Some l → find table l.place ≡ Some n) → ArePositions forms table
positions_of forms table index end h = record { found = λ n l e. h n l (omega (arith, end, below forms n l e)) e }
  where
    below : (forms : List Located) (n : ℕ) (l : Located) → slice_get forms n ≡ Some l → n < length forms
    below [] n l e = absurd (cc)
    below (first ∷ forms) zero l e = omega arith
    below (first ∷ forms) (suc n) l e = let r = below forms n l e in omega (arith, r)

pub got : (forms : List Located) (n : ℕ) (located : Located) → n < length forms → located ≡ get_or forms n located → slice_get forms n ≡ Some located
got [] n located lt e = absurd (omega (arith, lt))
got (first ∷ forms) zero located lt e = ap Some (sym e)
got (first ∷ forms) (suc n) located lt e = got forms n located (omega (arith, lt)) e

without_more : (xs : List Diagnostic) → xs ++ [] ≡ xs
without_more [] = refl
without_more (x ∷ xs) = ap (λ ys. x ∷ ys) (without_more xs)

pub all_moved : (forms : List Located) (place : Place) (keys : List Rank) (list all : List Diagnostic) → (0 < length keys → false ≡ true) → list ++ map (diagnostic_of forms place) keys ≡ all → list ≡ all
all_moved forms place [] list all none h = sym (without_more list) ∙ h
all_moved forms place (key ∷ keys) list all none h = let no_way : false ≡ true = none (omega arith) in absurd (cc)

-- ---- diagnostics whose codes ascend

both_true : (a b : Bool) → (a && b) ≡ true → (a ≡ true) × (b ≡ true)
both_true true b h = (refl, h)
both_true false b h = absurd (cc)

pub all_above : (forms : List Located) (place : Place) (d : Diagnostic) (last : ℕ) (found : List Diagnostic) → d.place ≡ place → d.code ≤ last → AreKnown forms place found → codes_ascend last found ≡ true
    → Each (ComesBefore forms d) found
all_above forms place d last [] at low known up = tt
all_above forms place d last (other ∷ found) at low known up =
    let two = both_true (nat_lt last other.code) (codes_ascend other.code found) up in
    let above : last < other.code = (Decides-ltb last other.code).0 two.0 in
    (inr (at ∙ sym known.0.0, inl (omega (arith, low, above))), all_above forms place d other.code found at (omega (arith, low, above)) known.1 two.1)

pub codes_apart : (forms : List Located) (place : Place) (last : ℕ) (found : List Diagnostic) → AreKnown forms place found → codes_ascend last found ≡ true → AreAscending forms found
codes_apart forms place last [] known up = tt
codes_apart forms place last (d ∷ found) known up =
    let two = both_true (nat_lt last d.code) (codes_ascend d.code found) up in
    (all_above forms place d d.code found known.0.0 (omega arith) known.1 two.1, codes_apart forms place d.code found known.1 two.1)

pub appends_all : (forms : List Located) (place : Place) (found old new : List Diagnostic) → AreKnown forms place found → codes_ascend 0 found ≡ true → new ≡ old ++ found → Appends forms found old new
appends_all forms place found old new known up is = record {
  sorted = found;
  is = is;
  ascending = codes_apart forms place 0 found known up;
  same = λ d. (λ h. h, λ h. h);
}
