-- Relation names by the marks of words.
use Rattle.std.proofs.Common.{if◌then◌else◌, ◌≡◌, ◌≢◌, ℕ, suc, zero, ◌+◌, ◌<◌, ◌≤◌, ◌⊎◌, ◌||◌, ◌&&◌, List, [], ◌∷◌, ◌++◌, length, map, get_or, take, Bool, true, false, not, cond, refl, sym, ap, subst, ◌∙◌, arith, inl, inr}
use Rattle.std.specs.Prelude.{Option, Some, None, Contains, is_some}
use Rattle.std.specs.BTreeMap.{insert_entry}
use Rattle.std.specs.Cmp.Lexicographic.{slice_cmp, nat_list_cmp_total}
use Rattle.std.specs.List.Sorted.{IsStrictlySortedBy}
use Rattle.std.specs.List.{AllByRecursion, list_any}
use Rattle.std.specs.Map.{lookup, keys_of}
use Rattle.std.specs.Ordering.{nat_cmp, is_eq, ordering_reverse, match_ordering}
use Rattle.std.specs.Str.{bytes_eq}
use Rattle.std.specs.declared.cmp.Ordering.{Ordering}
use Rattle.std.specs.declared.cmp.Ordering.TheVariants.{Less, Equal, Greater}
use Rattle.std.proofs.lemmas.Map.Text.{is_eq-slice_cmp}
use Rattle.std.proofs.lemmas.Map.Lookups.{exact_bytes}
use Rattle.std.proofs.lemmas.Slice.Eq.{bytes_eq-Decides}
use Rattle.std.proofs.lemmas.List.{take_more}
use Rattle.sigma_base.specs.Lists.{Each}
use Rattle.kif_tree.specs.Shape.{is_among, logical_words, has_word}
use Rattle.kif_tree.specs.Terms.{Bytes}
use Rattle.kif_tree.specs.declared.form.Form.{Form}
use Rattle.kif_tree.specs.declared.place.Located.{Located}
use Rattle.taxonomy.specs.declared.told.ChainKind.TheVariants as kinds
use Rattle.taxonomy.specs.Chains.{IsDistance}
use Rattle.taxonomy.specs.Told.{Link, links}
use Rattle.signatures.specs.declared.inherited.Inherited.{Inherited}
use Rattle.signatures.specs.declared.told.Arity.{Arity}
use Rattle.signatures.specs.declared.told.Arity.TheVariants.{Exactly, Any, Unstated}
use Rattle.signatures.specs.Arities.{shown_heads, built_in, IsOwnArity, HasOwnArity, IsInheritedArity, IsUnstated, IsArity}
use Rattle.signatures.specs.Layers.{Among}
use Rattle.signatures.specs.Marks.{Marks, OrderedMarks, has, has_ordered, is_word, AreMarked, key_words, is_stated}
use Rattle.signatures.specs.declared.names.Found.{Found}
use Rattle.signatures.specs.Names.{AreCandidates, may_be_name, is_name, HasNames, AddsNames, AreNames, occurs_in}
use Rattle.signatures.specs.Nearest.{IsBefore, IsNearest}
use Rattle.signatures.specs.Relations.{is_shown, is_snapshot_word, heads_a_list, HasStatedArity, IsRelationName, AreAscending, AreRelationNames}
use Rattle.signatures.specs.Tables.{arity_by}
use Rattle.signatures.specs.WordTables.{Key, find, IsSet}
use Rattle.signatures.proofs.ArityLaws.{own_one}

-- ---- one arity at most

no_both : (a b : Bytes) → IsBefore a b → IsBefore b a → ⊥
no_both a b h k = let e : Less ≡ ordering_reverse Less = sym h ∙ nat_list_cmp_total.antisymm a b ∙ ap ordering_reverse k in absurd (cc)

pub nearest_one : (ls : List Link) (Has : Bytes → Type 0) (word a b : Bytes) → IsNearest ls Has word a → IsNearest ls Has word b → a ≡ b
nearest_one ls Has word a b n m = go (n.first b m.has (subst (IsDistance ls kinds.Relation word b) (sym same) m.reached)) (m.first a n.has (subst (IsDistance ls kinds.Relation word a) same n.reached))
  where
    same : n.distance ≡ m.distance
    same = let le : n.distance ≤ m.distance = n.no_nearer b m.distance m.has m.reached in let ge : m.distance ≤ n.distance = m.no_nearer a n.distance n.has n.reached in omega (arith, le, ge)

    go : ((a ≡ b) ⊎ IsBefore a b) → ((b ≡ a) ⊎ IsBefore b a) → a ≡ b
    go (inl e) k = e
    go (inr h) (inl e) = sym e
    go (inr h) (inr k) = absurd (no_both a b h k)

some_one : (a b : Arity) → Some a ≡ Some b → a ≡ b
some_one a b e = cc

pub arity_one : (forms : List Located) (word : Bytes) (a b : Arity) → IsArity forms word a → IsArity forms word b → a ≡ b
arity_one forms word a b (inl h) (inl k) = some_one a b (own_one forms word (Some a) (Some b) h k)
arity_one forms word a b (inl h) (inr k) = let e : Some a ≡ None = own_one forms word (Some a) None h k.0 in absurd (cc)
arity_one forms word a b (inr h) (inl k) = let e : Some b ≡ None = own_one forms word (Some b) None k h.0 in absurd (cc)
arity_one forms word a b (inr h) (inr k) = go h.1 k.1
  where
    go : (IsInheritedArity forms word a ⊎ IsUnstated forms word a) → (IsInheritedArity forms word b ⊎ IsUnstated forms word b) → a ≡ b
    go (inl i) (inl j) =
        let same : i.near ≡ j.near = nearest_one (links forms) (HasOwnArity forms) word i.near j.near i.nearest j.nearest in
        some_one a b (own_one forms j.near (Some a) (Some b) (subst (λ (w : Bytes). IsOwnArity forms w (Some a)) same i.own) j.own)
    go (inl i) (inr u) = absurd (u.none i.near i.nearest.has i.nearest.reached.shortest)
    go (inr u) (inl j) = absurd (u.none j.near j.nearest.has j.nearest.reached.shortest)
    go (inr u) (inr v) = u.unstated ∙ sym v.unstated

-- ---- lists of words

pub contains_among : (words : List Bytes) (word : Bytes) → Contains words word → Among words word
contains_among [] word (n, lt, is) = absurd (omega (arith, lt))
contains_among (x ∷ words) word (zero, lt, is) = ap (λ b. b || is_among words word) ((bytes_eq-Decides word x).1 (sym is))
contains_among (x ∷ words) word (suc n, lt, is) = go (bytes_eq word x) (contains_among words word (n, omega (arith, lt), is))
  where
    go : (b : Bool) → Among words word → (b || is_among words word) ≡ true
    go true h = refl
    go false h = h

pub among_contains : (words : List Bytes) (word : Bytes) → Among words word → Contains words word
among_contains [] word h = absurd (cc)
among_contains (x ∷ words) word h = go (bytes_eq word x) refl h (among_contains words word)
  where
    go : (b : Bool) → bytes_eq word x ≡ b → (b || is_among words word) ≡ true → (Among words word → Contains words word) → Contains (x ∷ words) word
    go true e h more = (zero, omega arith, sym ((bytes_eq-Decides word x).0 e))
    go false e h more = let c = more h in (suc c.0, omega (arith, c.1), c.2)

among_keys : (es : List (Key × Unit {0})) (word : Bytes) → is_some (lookup (λ (key : Key). is_eq (slice_cmp nat_cmp word key.items)) es) ≡ is_among (map (λ (key : Key). key.items) (keys_of es)) word
among_keys [] word = refl
among_keys (e ∷ es) word = go (is_eq (slice_cmp nat_cmp word e.0.items)) (is_eq-slice_cmp word e.0.items) (among_keys es word)
  where
    go : (b : Bool) → b ≡ bytes_eq word e.0.items → is_some (lookup (λ (key : Key). is_eq (slice_cmp nat_cmp word key.items)) es) ≡ is_among (map (λ (key : Key). key.items) (keys_of es)) word
        → is_some (cond b (Some e.1) (lookup (λ (key : Key). is_eq (slice_cmp nat_cmp word key.items)) es)) ≡ (bytes_eq word e.0.items || is_among (map (λ (key : Key). key.items) (keys_of es)) word)
    go true same ih = ap (λ c. c || is_among (map (λ (key : Key). key.items) (keys_of es)) word) same
    go false same ih = ih ∙ ap (λ c. c || is_among (map (λ (key : Key). key.items) (keys_of es)) word) same

abbrev order : Key → Key → Ordering
order x y = slice_cmp nat_cmp x.items y.items

all_before : (first : Key) (ks : List Key) → AllByRecursion (λ y. order first y ≡ Less) ks → Each (IsBefore first.items) (map (λ (key : Key). key.items) ks)
all_before first [] h = tt
all_before first (k ∷ ks) h = (h.0, all_before first ks h.1)

pub ascending : (ks : List Key) → IsStrictlySortedBy order ks → AreAscending (map (λ (key : Key). key.items) ks)
unfolding IsStrictlySortedBy
ascending [] h = tt
ascending (k ∷ ks) h = (all_before k ks h.0, ascending ks h.1)

-- ---- words that are set in their order

abbrev at : Bytes → Key → Bool
at word key = is_eq (slice_cmp nat_cmp word key.items)

key_same : (word : Bytes) (key : Key) → word ≡ key.items → at word key ≡ true
key_same word key e = is_eq-slice_cmp word key.items ∙ (bytes_eq-Decides word key.items).1 e

key_true : (word : Bytes) (key : Key) → at word key ≡ true → word ≡ key.items
key_true word key e = (bytes_eq-Decides word key.items).0 (sym (is_eq-slice_cmp word key.items) ∙ e)

twice : {V : Type 0} (b : Bool) (v w : V) (rest : Option V) → cond b (Some v) rest ≡ cond b (Some v) (cond b (Some w) rest)
twice true v w rest = refl
twice false v w rest = refl

swapped : {V : Type 0} (a b : Bool) (v w : V) (rest : Option V) → (a ≡ true → b ≡ true → ⊥) → cond b (Some w) (cond a (Some v) rest) ≡ cond a (Some v) (cond b (Some w) rest)
swapped true true v w rest h = absurd (h refl refl)
swapped true false v w rest h = refl
swapped false b v w rest h = refl

insert_lookup : {V : Type 0} (es : List (Key × V)) (k : Key) (v : V) (word : Bytes) → lookup (at word) (insert_entry (λ (x y : Key). slice_cmp nat_cmp x.items y.items) es k v) ≡ cond (at word k) (Some v) (lookup (at word) es)
insert_lookup [] k v word = refl
insert_lookup {V = V} (e ∷ es) k v word = go (slice_cmp nat_cmp k.items e.0.items) refl (insert_lookup es k v word)
  where
    go : (o : Ordering) → slice_cmp nat_cmp k.items e.0.items ≡ o → lookup (at word) (insert_entry (λ (x y : Key). slice_cmp nat_cmp x.items y.items) es k v) ≡ cond (at word k) (Some v) (lookup (at word) es)
        → lookup (at word) (match_ordering o ((k, v) ∷ e ∷ es) ((e.0, v) ∷ es) (e ∷ insert_entry (λ (x y : Key). slice_cmp nat_cmp x.items y.items) es k v)) ≡ cond (at word k) (Some v) (cond (at word e.0) (Some e.1) (lookup (at word) es))
    go Less is ih = refl
    go Equal is ih =
        let same : k.items ≡ e.0.items = exact_bytes k.items e.0.items is in
        subst (λ (b : Bool). cond (at word e.0) (Some v) (lookup (at word) es) ≡ cond b (Some v) (cond (at word e.0) (Some e.1) (lookup (at word) es)))
        (ap (λ (x : Bytes). is_eq (slice_cmp nat_cmp word x)) (sym same)) (twice (at word e.0) v e.1 (lookup (at word) es))
    go Greater is ih =
        ap (λ (o : Option V). cond (at word e.0) (Some e.1) o) ih
        ∙ swapped (at word k) (at word e.0) v e.1 (lookup (at word) es)
        (λ h j. let equal : at k.items e.0 ≡ true = key_same k.items e.0 (sym (key_true word k h) ∙ key_true word e.0 j) in
        let no_way : false ≡ true = ap is_eq (sym is) ∙ equal in absurd (cc))

or_true : (b : Bool) → (b || true) ≡ true
or_true true = refl
or_true false = refl

or_false : (b : Bool) → (b || false) ≡ b
or_false true = refl
or_false false = refl

some_or : {V : Type 0} (b : Bool) (v : V) (o : Option V) → is_some (cond b (Some v) o) ≡ (is_some o || b)
some_or true v o = sym (or_true (is_some o))
some_or false v o = sym (or_false (is_some o))

pub ordered_by : (old new : OrderedMarks) (key : Key) (word : Bytes) (unit : Unit {0}) → key.items ≡ word → new.entries ≡ insert_entry (λ (x y : Key). slice_cmp nat_cmp x.items y.items) old.entries key unit
    → (other : Bytes) → has_ordered new other ≡ (has_ordered old other || bytes_eq other word)
ordered_by old new key word unit same entries other =
    ap (λ (es : List (Key × Unit {0})). is_some (lookup (at other) es)) entries ∙ ap is_some (insert_lookup old.entries key unit other)
    ∙ some_or (at other key) unit (lookup (at other) old.entries) ∙ ap (λ b. has_ordered old other || b) (is_eq-slice_cmp other key.items ∙ ap (bytes_eq other) same)

-- ---- names that are found

any_append : {X : Type 0} (test : X → Bool) (xs : List X) (x : X) → list_any test (xs ++ x ∷ []) ≡ (list_any test xs || test x)
any_append test [] x = or_false (test x)
any_append test (y ∷ xs) x = ap (λ b. test y || b) (any_append test xs x) ∙ or_assoc (test y) (list_any test xs) (test x)
  where
    or_assoc : (a b c : Bool) → (a || (b || c)) ≡ ((a || b) || c)
    or_assoc true b c = refl
    or_assoc false b c = refl

any_more : {X : Type 0} (test : X → Bool) (xs : List X) (i : ℕ) (x : X) → i < length xs → x ≡ get_or xs i x → list_any test (take (i + 1) xs) ≡ (list_any test (take i xs) || test x)
any_more test xs i x lt is = ap (list_any test) (take_more xs i x lt) ∙ any_append test (take i xs) (get_or xs i x) ∙ ap (λ y. list_any test (take i xs) || test y) (sym is)

seen_now : {S : Type 0} (old new : Marks S) (word other : Bytes) → IsSet old new word tt → has new other ≡ true → (bytes_eq other word ≡ true) ⊎ (has old other ≡ true)
seen_now old new word other set h = go (bytes_eq other word) refl (sym (ap is_some (set other)) ∙ h)
  where
    go : (b : Bool) → bytes_eq other word ≡ b → is_some (if b then Some tt else find old other) ≡ true → (bytes_eq other word ≡ true) ⊎ (has old other ≡ true)
    go true e k = inl e
    go false e k = inr k

module _ {S : Type 0} (heads : Marks S) (arities : Inherited Arity) where
  abbrev name : Bytes → Bool
  name word = is_name heads arities word

  seen_before : (a n t : Bool) → (t ≡ true → n ≡ true → a ≡ true) → a ≡ (a || (n && t))
  seen_before true n t h = refl
  seen_before false true true h = h refl refl
  seen_before false true false h = refl
  seen_before false false t h = refl

  no_name : (a n t : Bool) → (t ≡ true → n ≡ false) → a ≡ (a || (n && t))
  no_name true n t h = refl
  no_name false false t h = refl
  no_name false true true h = let no_way : true ≡ false = h refl in absurd (cc)
  no_name false true false h = refl

  is_new : (a n t : Bool) → (t ≡ true → n ≡ true) → (a || t) ≡ (a || (n && t))
  is_new true n t h = refl
  is_new false true t h = refl
  is_new false false true h = let no_way : false ≡ true = h refl in absurd (cc)
  is_new false false false h = refl

  pub name_seen : (found : Found) (word : Bytes) (b : Bool) → b ≡ has found.seen word → b ≡ true → AddsNames heads arities (is_word word) found found
  name_seen found word b is known = λ names. (
    names,
    λ other. seen_before (has_ordered found.ordered other) (name other) (bytes_eq other word) (λ e n. names other (ap (has found.seen) ((bytes_eq-Decides other word).0 e) ∙ sym is ∙ known) n),
  )

  pub name_never : (candidates : Marks S) (found : Found) (word : Bytes) (b : Bool) → AreCandidates heads arities candidates → b ≡ may_be_name candidates word → b ≡ false → AddsNames heads arities (is_word word) found found
  name_never candidates found word b all is none = λ names. (names, λ other. no_name (has_ordered found.ordered other) (name other) (bytes_eq other word) (λ e. ap name ((bytes_eq-Decides other word).0 e) ∙ not_named))
    where
      not_either : (c d : Bool) → (c || d) ≡ false → (c ≡ false) × (d ≡ false)
      not_either true d h = absurd (cc)
      not_either false d h = (refl, h)

      two : (has candidates word ≡ false) × (is_some (built_in word) ≡ false)
      two = not_either (has candidates word) (is_some (built_in word)) (sym is ∙ none)

      no_arity : (o : Option Arity) → is_some o ≡ false → o ≡ None
      no_arity (Some arity) h = absurd (cc)
      no_arity None h = refl

      not_named : name word ≡ false
      not_named = go (name word) refl
        where
          go : (n : Bool) → name word ≡ n → n ≡ false
          go true e = let there : has candidates word ≡ true = all word (no_arity (built_in word) two.1) e in let gone : has candidates word ≡ false = two.0 in absurd (cc)
          go false e = refl

  pub name_not : (found new : Found) (word : Bytes) (b : Bool) → b ≡ name word → b ≡ false → IsSet found.seen new.seen word tt → new.ordered ≡ found.ordered → AddsNames heads arities (is_word word) found new
  name_not found new word b is none set same = λ names. (
    (λ other h n. go names other n (seen_now found.seen new.seen word other set h)),
    λ other. ap (λ o. has_ordered o other) same ∙ no_name (has_ordered found.ordered other) (name other) (bytes_eq other word) (λ e. not_name other e),
  )
    where
      not_name : (other : Bytes) → bytes_eq other word ≡ true → name other ≡ false
      not_name other e = ap name ((bytes_eq-Decides other word).0 e) ∙ sym is ∙ none

      go : HasNames heads arities found → (other : Bytes) → name other ≡ true → ((bytes_eq other word ≡ true) ⊎ (has found.seen other ≡ true)) → has_ordered new.ordered other ≡ true
      go names other n (inl e) = let no_way : name other ≡ false = not_name other e in absurd (cc)
      go names other n (inr k) = ap (λ o. has_ordered o other) same ∙ names other k n

  pub name_new : (old new : Found) (word : Bytes) (b : Bool) → b ≡ name word → b ≡ true → IsSet old.seen new.seen word tt → ((other : Bytes) → has_ordered new.ordered other ≡ (has_ordered old.ordered other || bytes_eq other word))
      → AddsNames heads arities (is_word word) old new
  name_new old new word b is so set ordered = λ names. (
    (λ other h n. ordered other ∙ go names other n (seen_now old.seen new.seen word other set h)),
    λ other. ordered other ∙ is_new (has_ordered old.ordered other) (name other) (bytes_eq other word) (λ e. ap name ((bytes_eq-Decides other word).0 e) ∙ sym is ∙ so),
  )
    where
      go : HasNames heads arities old → (other : Bytes) → name other ≡ true → ((bytes_eq other word ≡ true) ⊎ (has old.seen other ≡ true)) → (has_ordered old.ordered other || bytes_eq other word) ≡ true
      go names other n (inl e) = ap (λ d. has_ordered old.ordered other || d) e ∙ or_true (has_ordered old.ordered other)
      go names other n (inr k) = ap (λ d. d || bytes_eq other word) (names other k n)

  joined : (a n t u : Bool) → ((a || (n && t)) || (n && u)) ≡ (a || (n && (t || u)))
  joined true n t u = refl
  joined false true t u = refl
  joined false false t u = refl

  none_more : (a n : Bool) → a ≡ (a || (n && false))
  none_more true n = refl
  none_more false true = refl
  none_more false false = refl

  pub no_names : (test : Bytes → Bool) (found : Found) → ((word : Bytes) → test word ≡ false) → AddsNames heads arities test found found
  no_names test found none = λ paired. (paired, λ word. none_more (has_ordered found.ordered word) (name word) ∙ ap (λ t. has_ordered found.ordered word || (name word && t)) (sym (none word)))

  pub same_names : (test other : Bytes → Bool) (old new : Found) → ((word : Bytes) → test word ≡ other word) → AddsNames heads arities test old new → AddsNames heads arities other old new
  same_names test other old new same adds = λ paired. ((adds paired).0, λ word. (adds paired).1 word ∙ ap (λ t. has_ordered old.ordered word || (name word && t)) (same word))

  pub more_names : (first second both : Bytes → Bool) (old mid new : Found) → ((word : Bytes) → (first word || second word) ≡ both word) → AddsNames heads arities first old mid → AddsNames heads arities second mid new → AddsNames heads arities both old new
  more_names first second both old mid new is one two = λ paired. (
    (two (one paired).0).0,
    λ word. (two (one paired).0).1 word ∙ ap (λ a. a || (name word && second word)) ((one paired).1 word) ∙ joined (has_ordered old.ordered word) (name word) (first word) (second word)
        ∙ ap (λ t. has_ordered old.ordered word || (name word && t)) (is word),
  )

  pub part_names : (old mid new : Found) (parts : List Form) (i : ℕ) (part : Form) → i < length parts → part ≡ get_or parts i part → AddsNames heads arities (λ word. list_any (has_word word) (take i parts)) old mid
      → AddsNames heads arities (occurs_in part) mid new → AddsNames heads arities (λ word. list_any (has_word word) (take (i + 1) parts)) old new
  part_names old mid new parts i part lt is one two =
      more_names (λ word. list_any (has_word word) (take i parts)) (occurs_in part) (λ word. list_any (has_word word) (take (i + 1) parts)) old mid new (λ word. sym (any_more (has_word word) parts i part lt is)) one two

  or_and : (n t u : Bool) → ((n && t) || (n && u)) ≡ (n && (t || u))
  or_and true t u = refl
  or_and false t u = refl

  pub names_begun : (found : Found) → found.seen.entries ≡ [] → found.ordered.entries ≡ [] → HasNames heads arities found × AreNames heads arities (is_snapshot_word []) found.ordered
  names_begun found nothing none = ((λ word h n. absurd (unseen word h)), λ word. empty word ∙ sym (never (name word)))
    where
      unseen : (word : Bytes) → has found.seen word ≡ true → ⊥
      unseen word h = let e : has found.seen word ≡ false = ap (λ (es : List (Key × Unit {0})). is_some (lookup (λ (key : Key). bytes_eq word key.items) es)) nothing in absurd (cc)

      empty : (word : Bytes) → has_ordered found.ordered word ≡ false
      empty word = ap (λ (es : List (Key × Unit {0})). is_some (lookup (λ (key : Key). is_eq (slice_cmp nat_cmp word key.items)) es)) none

      never : (n : Bool) → (n && false) ≡ false
      never true = refl
      never false = refl

  pub form_shown : (found : Found) (forms : List Located) (i : ℕ) (located : Located) (b : Bool) → i < length forms → located ≡ get_or forms i located → b ≡ is_shown located.form → b ≡ true → HasNames heads arities found × AreNames heads arities (is_snapshot_word (take i forms)) found.ordered
      → HasNames heads arities found × AreNames heads arities (is_snapshot_word (take (i + 1) forms)) found.ordered
  form_shown found forms i located b lt is shown so one = (
    one.0,
    λ word. one.1 word
        ∙ ap (λ t. name word && t) (sym (any_more (λ (l : Located). not (is_shown l.form) && has_word word l.form) forms i located lt is
        ∙ ap (λ d. is_snapshot_word (take i forms) word || (not d && has_word word located.form)) (sym shown ∙ so) ∙ or_false (is_snapshot_word (take i forms) word))),
  )

  pub form_names : (mid new : Found) (forms : List Located) (i : ℕ) (located : Located) (b : Bool) → i < length forms → located ≡ get_or forms i located → b ≡ is_shown located.form → b ≡ false → HasNames heads arities mid × AreNames heads arities (is_snapshot_word (take i forms)) mid.ordered
      → AddsNames heads arities (occurs_in located.form) mid new → HasNames heads arities new × AreNames heads arities (is_snapshot_word (take (i + 1) forms)) new.ordered
  form_names mid new forms i located b lt is shown not_so one two = (
    (two one.0).0,
    λ word. (two one.0).1 word ∙ ap (λ a. a || (name word && has_word word located.form)) (one.1 word) ∙ or_and (name word) (is_snapshot_word (take i forms) word) (has_word word located.form)
        ∙ ap (λ t. name word && t) (ap (λ d. is_snapshot_word (take i forms) word || d) (sym (ap (λ d. not d && has_word word located.form) (sym shown ∙ not_so)))
        ∙ sym (any_more (λ (l : Located). not (is_shown l.form) && has_word word l.form) forms i located lt is)),
  )

-- ---- relation names

both : (a b : Bool) → (a && b) ≡ true → (a ≡ true) × (b ≡ true)
both true b h = (refl, h)
both false b h = absurd (cc)

join : (a b : Bool) → a ≡ true → b ≡ true → (a && b) ≡ true
join true b h k = k
join false b h k = absurd (cc)

denied : (b : Bool) → not b ≡ true → b ≡ false
denied true h = absurd (cc)
denied false h = refl

stated : (arity : Arity) → is_stated arity ≡ true → arity ≢ Unstated
stated (Exactly n) h = λ e. absurd (cc)
stated Any h = λ e. absurd (cc)
stated Unstated h = absurd (cc)

is_stated_by : (arity : Arity) → (arity ≢ Unstated) → is_stated arity ≡ true
is_stated_by (Exactly n) h = refl
is_stated_by Any h = refl
is_stated_by Unstated h = absurd (h refl)

pub relation_names : {S : Type 0} (forms : List Located) (words : OrderedMarks) (heads : Marks S) (arities : Inherited Arity) (found : List Bytes) → AreMarked (heads_a_list forms) heads → AreNames heads arities (is_snapshot_word forms) words
    → ((word : Bytes) → IsArity forms word (arity_by arities word)) → AreAscending (key_words words) → found ≡ key_words words → AreRelationNames forms found
relation_names forms words heads arities found in_heads in_words arity rising is = record {
  ascending = subst AreAscending (sym is) rising;
  exactly = λ word. (λ c. named word (sym (tested word) ∙ contains_among found word c), λ name. among_contains found word (tested word ∙ test word name));
}
  where
    turned : (a b : Bool) → (a && b) ≡ (b && a)
    turned true true = refl
    turned true false = refl
    turned false true = refl
    turned false false = refl

    tested : (word : Bytes) → is_among found word ≡ (is_snapshot_word forms word && is_name heads arities word)
    tested word =
        ap (λ (ws : List Bytes). is_among ws word) is ∙ sym (among_keys words.entries word) ∙ in_words word ∙ turned (is_name heads arities word) (is_snapshot_word forms word)

    used : (word : Bytes) → (has heads word || is_stated (arity_by arities word)) ≡ true → (heads_a_list forms word ≡ true) ⊎ HasStatedArity forms word
    used word h = go (has heads word) refl h
      where
        go : (b : Bool) → has heads word ≡ b → (b || is_stated (arity_by arities word)) ≡ true → (heads_a_list forms word ≡ true) ⊎ HasStatedArity forms word
        go true e h = inl (sym (in_heads word) ∙ e)
        go false e h = inr (arity_by arities word, arity word, stated (arity_by arities word) h)

    named : (word : Bytes) → (is_snapshot_word forms word && is_name heads arities word) ≡ true → IsRelationName forms word
    named word h =
        let one = both (is_snapshot_word forms word) (is_name heads arities word) h in
        let two = both (not (is_among logical_words word)) (not (is_among shown_heads word) && (has heads word || is_stated (arity_by arities word))) one.1 in
        let three = both (not (is_among shown_heads word)) (has heads word || is_stated (arity_by arities word)) two.1 in
        record { occurs = one.0; not_logical = denied (is_among logical_words word) two.0; not_shown_head = denied (is_among shown_heads word) three.0; used = used word three.1 }

    test : (word : Bytes) → IsRelationName forms word → (is_snapshot_word forms word && is_name heads arities word) ≡ true
    test word name =
        join (is_snapshot_word forms word) (is_name heads arities word) name.occurs
        (join (not (is_among logical_words word)) (not (is_among shown_heads word) && (has heads word || is_stated (arity_by arities word))) (ap not name.not_logical)
        (join (not (is_among shown_heads word)) (has heads word || is_stated (arity_by arities word)) (ap not name.not_shown_head) (by_use name.used)))
      where
        by_use : ((heads_a_list forms word ≡ true) ⊎ HasStatedArity forms word) → (has heads word || is_stated (arity_by arities word)) ≡ true
        by_use (inl e) = ap (λ b. b || is_stated (arity_by arities word)) (in_heads word ∙ e)
        by_use (inr s) = ap (λ b. has heads word || b) (is_stated_by (arity_by arities word) (λ e. s.2 (arity_one forms word s.0 (arity_by arities word) s.1 (arity word) ∙ e))) ∙ or_true (has heads word)
