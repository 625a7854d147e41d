-- Where literals stand does not depend on their order, and what placing one of them leaves.
use Rattle.std.proofs.Common.{◌≡◌, ℕ, zero, suc, ◌+◌, ◌<◌, ◌≤◌, List, [], ◌∷◌, ◌++◌, take, drop, length, get_or, Some, inl, inr, ◌⊎◌, Bor, true, false}
use Rattle.std.proofs.Common.{refl, sym, ap, ap₂, ◌∙◌, subst, arith, append_assoc}
use Rattle.std.proofs.lemmas.List.{get_or-map, length-map}
use Rattle.sigma_base.specs.Lists.{Each, each_append, each_left, each_right}
use Rattle.kif_tree.specs.declared.clause.Literal.{Literal}
use Rattle.kif_tree.specs.declared.subst.Pair.{Pair}
use Rattle.kif_tree.specs.Subst.{Filling, lookup}
use Rattle.kif_tree.specs.Clauses.{Literals, bind_literal, bind_clause}
use Rattle.calculus.specs.Rules.{after, Picked, put_first, pick, others}
use Rattle.calculus.proofs.PlaceLaws.{none_some, some_same, through, picked}
use Rattle.calculus_programs.proofs.PickLaws.{pick-some, bind-append, apart}
use Rattle.unify.specs.Bindings.{AreConsistent}
use Rattle.unify.specs.Subsumption.{StandsBeside, Stand, Sends, behind, SubsumesUnder, Placed, SendsAt}

-- ---- an item between others

picked_between : {X : Type 0} (before : List X) (x : X) (following : List X)
    → pick (before ++ x ∷ following) (length before) ≡ Some (record { before = before; chosen = x; following = following })
picked_between [] x following = refl
picked_between (y ∷ before) x following = ap (λ o. after o (λ p. Some (put_first y p))) (picked_between before x following)

-- the literal stands between those before it and those after it, and what is wanted holds of these
record Between (literal : Literal) (Rest : Literals → Type 0) (clause : Literals) : Type 0 where
  before : Literals
  following : Literals
  is : clause ≡ before ++ literal ∷ following
  rest : Rest (before ++ following)

between : (l : Literal) (Rest : Literals → Type 0) (clause : Literals) → StandsBeside l Rest clause → Between l Rest clause
between l Rest clause s = record {
  before = s.found.before;
  following = s.found.following;
  is = picked clause s.place s.found s.at ∙ ap (λ (x : Literal). s.found.before ++ x ∷ s.found.following) s.is;
  rest = s.rest;
}

stands : (l : Literal) (Rest : Literals → Type 0) (clause : Literals) → Between l Rest clause → StandsBeside l Rest clause
stands l Rest clause b = record {
  place = length b.before;
  found = record { before = b.before; chosen = l; following = b.following };
  at = ap (λ (xs : Literals). pick xs (length b.before)) b.is ∙ picked_between b.before l b.following;
  is = refl;
  rest = b.rest;
}

-- ---- two items of one list

-- the item is one of the first list or one of the second
record Within {X : Type 0} (p q u : List X) (b : X) (v : List X) : Type 0 where
  middle : List X
  first : p ≡ u ++ b ∷ middle
  second : v ≡ middle ++ q

record Beyond {X : Type 0} (p q u : List X) (b : X) (v : List X) : Type 0 where
  middle : List X
  first : u ≡ p ++ middle
  second : q ≡ middle ++ b ∷ v

same_heads : {X : Type 0} (x y : X) (xs ys : List X) → x ∷ xs ≡ y ∷ ys → (x ≡ y) × (xs ≡ ys)
same_heads x y xs ys e = (let h : x ≡ y = cc in h, let t : xs ≡ ys = cc in t)

halves : {X : Type 0} (p q u : List X) (b : X) (v : List X) → p ++ q ≡ u ++ b ∷ v → Within p q u b v ⊎ Beyond p q u b v
halves [] q u b v e = inr (record { middle = u; first = refl; second = e })
halves (x ∷ p) q [] b v e =
    let same = same_heads x b (p ++ q) v e in
    inl (record { middle = p; first = ap (λ y. y ∷ p) same.0; second = sym same.1 })
halves {X = X} (x ∷ p) q (y ∷ u) b v e =
    let same = same_heads x y (p ++ q) (u ++ b ∷ v) e in
    elim (halves p q u b v same.1) [
      | inl w ↦ inl (record { middle = w.middle; first = ap₂ ◌∷◌ same.0 w.first; second = w.second })
      | inr w ↦ inr (record { middle = w.middle; first = ap₂ ◌∷◌ (sym same.0) w.first; second = w.second })
    ]

-- ---- two literals change places

module _ (a b : Literal) (Rest : Literals → Type 0) where
  exchanged_within : (p q u v : Literals) → Within p q u b v → Rest (u ++ v) → Between b (StandsBeside a Rest) (p ++ a ∷ q)
  exchanged_within p q u v w rest = record {
    before = u;
    following = w.middle ++ a ∷ q;
    is = ap (λ (xs : Literals). xs ++ a ∷ q) w.first ∙ append_assoc u (b ∷ w.middle) (a ∷ q);
    rest = stands a Rest (u ++ (w.middle ++ a ∷ q)) (record {
      before = u ++ w.middle;
      following = q;
      is = sym (append_assoc u w.middle (a ∷ q));
      rest = subst Rest (ap (λ (xs : Literals). u ++ xs) w.second ∙ sym (append_assoc u w.middle q)) rest;
    });
  }

  exchanged_beyond : (p q u v : Literals) → Beyond p q u b v → Rest (u ++ v) → Between b (StandsBeside a Rest) (p ++ a ∷ q)
  exchanged_beyond p q u v w rest = record {
    before = p ++ a ∷ w.middle;
    following = v;
    is = ap (λ (xs : Literals). p ++ a ∷ xs) w.second ∙ sym (append_assoc p (a ∷ w.middle) (b ∷ v));
    rest = stands a Rest ((p ++ a ∷ w.middle) ++ v) (record {
      before = p;
      following = w.middle ++ v;
      is = append_assoc p (a ∷ w.middle) v;
      rest = subst Rest (ap (λ (xs : Literals). xs ++ v) w.first ∙ append_assoc p w.middle v) rest;
    });
  }

  exchanged : (clause : Literals) → StandsBeside a (StandsBeside b Rest) clause → StandsBeside b (StandsBeside a Rest) clause
  exchanged clause s =
      let outer = between a (StandsBeside b Rest) clause s in
      let inner = between b Rest (outer.before ++ outer.following) outer.rest in
      let either = halves outer.before outer.following inner.before b inner.following inner.is in
      let made : Between b (StandsBeside a Rest) (outer.before ++ a ∷ outer.following) = elim either [
        | inl w ↦ exchanged_within outer.before outer.following inner.before inner.following w inner.rest
        | inr w ↦ exchanged_beyond outer.before outer.following inner.before inner.following w inner.rest
      ] in
      subst (StandsBeside b (StandsBeside a Rest)) (sym outer.is) (stands b (StandsBeside a Rest) (outer.before ++ a ∷ outer.following) made)

beside_map : (l : Literal) (P Q : Literals → Type 0) → ((xs : Literals) → P xs → Q xs) → (clause : Literals) → StandsBeside l P clause → StandsBeside l Q clause
beside_map l P Q f clause s = record { place = s.place; found = s.found; at = s.at; is = s.is; rest = f (others s.found) s.rest }

-- a literal comes first
pub to_front : (before : Literals) (l : Literal) (following clause : Literals)
    → Stand (before ++ l ∷ following) clause → Stand (l ∷ (before ++ following)) clause
to_front [] l following clause s = s
to_front (x ∷ before) l following clause s =
    exchanged x l (Stand (before ++ following)) clause
    (beside_map x (Stand (before ++ l ∷ following)) (Stand (l ∷ (before ++ following))) (to_front before l following) clause s)

-- and goes back
pub from_front : (before : Literals) (l : Literal) (following clause : Literals)
    → Stand (l ∷ (before ++ following)) clause → Stand (before ++ l ∷ following) clause
from_front [] l following clause s = s
from_front (x ∷ before) l following clause s =
    beside_map x (Stand (l ∷ (before ++ following))) (Stand (before ++ l ∷ following)) (from_front before l following) clause
    (exchanged l x (Stand (before ++ following)) clause s)

-- ---- where literals cannot stand

length_others : (p : Picked Literal) (clause : Literals) → clause ≡ p.before ++ p.chosen ∷ p.following → length clause ≡ suc (length (others p))
length_others p clause e = ap length e ∙ go p.before
  where
    go : (xs : Literals) → length (xs ++ p.chosen ∷ p.following) ≡ suc (length (xs ++ p.following))
    go [] = refl
    go (x ∷ xs) = ap suc (go xs)

-- there are no more of them than places
pub no_more : (literals clause : Literals) → Stand literals clause → length literals ≤ length clause
no_more [] clause s = omega arith
no_more (l ∷ literals) clause s =
    let one = length_others s.found clause (picked clause s.place s.found s.at) in
    let rest = no_more literals (others s.found) s.rest in
    omega (arith, one, rest)

-- what holds of each literal of the clause holds of each of them
pub found_there : (P : Literal → Type 0) (literals clause : Literals) (n : ℕ) (l : Literal) → n < length literals → l ≡ get_or literals n l
    → Stand literals clause → Each P clause → P l
found_there P [] clause n l h is s each = absurd (omega arith)
found_there P (x ∷ literals) clause zero l h is s each =
    let whole = picked clause s.place s.found s.at in
    let there = each_right P s.found.before (s.found.chosen ∷ s.found.following) (subst (Each P) whole each) in
    subst P (s.is ∙ sym is) there.0
found_there P (x ∷ literals) clause (suc n) l h is s each =
    let whole = picked clause s.place s.found s.at in
    let split = subst (Each P) whole each in
    let left = each_left P s.found.before (s.found.chosen ∷ s.found.following) split in
    let right = each_right P s.found.before (s.found.chosen ∷ s.found.following) split in
    found_there P literals (others s.found) n l (omega arith) is s.rest (each_append P s.found.before s.found.following left right.1)

-- ---- one literal placed

pick_below : {X : Type 0} (xs : List X) (n : ℕ) (p : Picked X) → pick xs n ≡ Some p → n < length xs
pick_below [] n p e = absurd (none_some p e)
pick_below (x ∷ xs) zero p e = omega arith
pick_below (x ∷ xs) (suc n) p e =
    let t = through (pick xs n) (λ q. Some (put_first x q)) p e in
    let below = pick_below xs n t.at t.is in
    omega (arith, below)

pub length-behind : (references : List (Bor Literal)) → length (behind references) ≡ length references
length-behind references = length-map references (λ (r : Bor Literal). r.now)

pub behind_at : (references : List (Bor Literal)) (n : ℕ) (reference : Bor Literal) → n < length references → reference ≡ get_or references n reference
    → reference.now ≡ get_or (behind references) n reference.now
behind_at references n reference below is =
    ap (λ (r : Bor Literal). r.now) is ∙ sym (get_or-map (λ (r : Bor Literal). r.now) references n reference reference.now below)

pub nothing_to_place : (pairs : List Pair) (references : List (Bor Literal)) (free : Literals) → length references < 1 → AreConsistent pairs
    → SubsumesUnder pairs (behind references) free
nothing_to_place pairs [] free h consistent = record { by = lookup pairs; agrees = consistent; sends = tt }
nothing_to_place pairs (reference ∷ references) free h consistent = absurd (omega arith)

module _ (g : Filling) (literals : Literals) (n : ℕ) (l : Literal) (below : n < length literals) (is : l ≡ get_or literals n l) where
  bound_parts : bind_clause g literals ≡ bind_clause g (take n literals) ++ bind_literal g l ∷ bind_clause g (drop (n + 1) literals)
  bound_parts =
      let parts : Picked Literal = record { before = take n literals; chosen = l; following = drop (n + 1) literals } in
      ap (bind_clause g) (picked literals n parts (pick-some literals n l below is)) ∙ bind-append g (take n literals) (l ∷ drop (n + 1) literals)

  sent_first : (free : Literals) → Sends g literals free → Sends g (l ∷ apart literals n) free
  sent_first free s =
      subst (λ (rest : Literals). Stand (bind_literal g l ∷ rest) free) (sym (bind-append g (take n literals) (drop (n + 1) literals)))
      (to_front (bind_clause g (take n literals)) (bind_literal g l) (bind_clause g (drop (n + 1) literals)) free
      (subst (λ (all : Literals). Stand all free) bound_parts s))

  sent_back : (free : Literals) → Sends g (l ∷ apart literals n) free → Sends g literals free
  sent_back free s =
      subst (λ (all : Literals). Stand all free) (sym bound_parts)
      (from_front (bind_clause g (take n literals)) (bind_literal g l) (bind_clause g (drop (n + 1) literals)) free
      (subst (λ (rest : Literals). Stand (bind_literal g l ∷ rest) free) (bind-append g (take n literals) (drop (n + 1) literals)) s))

module _ (pairs : List Pair) (literals free : Literals) (n : ℕ) (l : Literal) (below : n < length literals) (is : l ≡ get_or literals n l) where
  -- the literal of any number may be placed first
  pub placed_first : SubsumesUnder pairs literals free → (k : ℕ) × ((k < length free) × SendsAt pairs l (apart literals n) free k)
  placed_first s =
      let sent = sent_first s.by literals n l below is free s.sends in (
        sent.place,
        (
          pick_below free sent.place sent.found sent.at,
          record { by = s.by; agrees = s.agrees; found = sent.found; at = sent.at; is = sym sent.is; sends = sent.rest },
        ),
      )

  -- and goes back among the others
  pub placed_back : (k : ℕ) → SendsAt pairs l (apart literals n) free k → SubsumesUnder pairs literals free
  placed_back k s = record {
    by = s.by;
    agrees = s.agrees;
    sends = sent_back s.by literals n l below is free (record { place = k; found = s.found; at = s.at; is = sym s.is; rest = s.sends });
  }

-- the literal and the free one of that number were compared
module _ (old new : List Pair) (l other : Literal) (rest free : Literals) (place : ℕ) (below : place < length free) (is : other ≡ get_or free place other) where
  pub sent_matched : Placed old new l other true → SubsumesUnder new rest (apart free place) → SendsAt old l rest free place
  sent_matched m s = record {
    by = s.by;
    agrees = m.agrees s.by s.agrees;
    found = record { before = take place free; chosen = other; following = drop (place + 1) free };
    at = pick-some free place other below is;
    is = m.gives s.by s.agrees;
    sends = s.sends;
  }

  found_it : (s : SendsAt old l rest free place) → s.found ≡ record { before = take place free; chosen = other; following = drop (place + 1) free }
  found_it s = some_same _ _ (sym s.at ∙ pick-some free place other below is)

  pub matched_sent : Placed old new l other true → SendsAt old l rest free place → SubsumesUnder new rest (apart free place)
  matched_sent m s = record {
    by = s.by;
    agrees = m.whole s.by s.agrees (s.is ∙ ap (λ (p : Picked Literal). p.chosen) (found_it s));
    sends = subst (λ (p : Picked Literal). Sends s.by rest (others p)) (found_it s) s.sends;
  }

  pub not_sent : Placed old new l other false → SendsAt old l rest free place → ⊥
  not_sent none s = none s.by s.agrees (s.is ∙ ap (λ (p : Picked Literal). p.chosen) (found_it s))

-- ---- the same of what is equal

pub sends_alike : (old new : List Pair) (l m : Literal) (rest others free : Literals) (place : ℕ) → old ≡ new → l ≡ m → rest ≡ others
    → SendsAt old l rest free place → SendsAt new m others free place
sends_alike old new l m rest others free place same_pairs same_literal same_rest s =
    subst (λ (pairs : List Pair). SendsAt pairs m others free place) same_pairs
    (subst (λ (x : Literal). SendsAt old x others free place) same_literal (subst (λ (xs : Literals). SendsAt old l xs free place) same_rest s))

pub under_alike : (old new : List Pair) (rest others free : Literals) → old ≡ new → rest ≡ others
    → SubsumesUnder old rest free → SubsumesUnder new others free
under_alike old new rest others free same_pairs same_rest s =
    subst (λ (pairs : List Pair). SubsumesUnder pairs others free) same_pairs (subst (λ (xs : Literals). SubsumesUnder old xs free) same_rest s)
