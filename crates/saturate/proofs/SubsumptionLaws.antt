-- Subsumption is a preorder, and what a tautology subsumes is one.
use Rattle.std.proofs.Common.{◌≡◌, ℕ, zero, suc, List, [], ◌∷◌, ◌++◌, map, true, not, ◌&&◌, Some, inl, inr, refl, sym, ap, ap₂, ◌∙◌, subst}
use Rattle.std.specs.List.{list_any}
use Rattle.std.proofs.lemmas.List.{map-append}
use Rattle.kif_tree.specs.declared.form.Form.TheVariants as form
use Rattle.kif_tree.specs.declared.clause.Literal.{Literal}
use Rattle.kif_tree.specs.Terms.{same}
use Rattle.kif_tree.specs.SameLaws.{same-Decides}
use Rattle.kif_tree.specs.Subst.{Filling, bind, via}
use Rattle.kif_tree.specs.Clauses.{Literals, bind_literal, bind_clause, same_sign}
use Rattle.calculus.specs.Rules.{after, Picked, put_first, pick, others}
use Rattle.calculus.specs.Answers.{Among}
use Rattle.calculus.proofs.PlaceLaws.{none_some, some_same, through, picked}
use Rattle.calculus.proofs.TruthLaws.{both}
use Rattle.calculus.proofs.MemberLaws.{among-left, among-right, among-parted, among-map, any-among, found}
use Rattle.calculus.proofs.RenamingLaws.{clause-via, bind-identity}
use Rattle.unify.specs.Subsumption.{Stand}
use Rattle.unify.proofs.StandLaws.{to_front}
use Rattle.saturate.specs.Covered.{are_opposite}
use Rattle.saturate.specs.Laws.{SubsumptionIsReflexive, SubsumptionIsTransitive, TautologiesSubsume}

-- ---- each clause subsumes itself

-- each literal stands at its own place
stand_there : (clause : Literals) → Stand clause clause
stand_there [] = tt
stand_there (literal ∷ literals) = record {
  place = 0;
  found = record { before = []; chosen = literal; following = literals };
  at = refl;
  is = refl;
  rest = stand_there literals;
}

bound_by_none : (clause : Literals) → bind_clause form.Variable clause ≡ clause
bound_by_none [] = refl
bound_by_none (literal ∷ literals) =
    ap₂ (λ atom (rest : Literals). let made : Literal = record { positive = literal.positive; atom = atom } in made ∷ rest) (bind-identity literal.atom)
    (bound_by_none literals)

pub subsumes_itself : SubsumptionIsReflexive
subsumes_itself clause = record {
  by = form.Variable;
  sends = subst (λ (sent : Literals). Stand sent clause) (sym (bound_by_none clause)) (stand_there clause);
}

-- ---- a clause subsumes what one subsumes that it subsumes

-- an item between others, where each item becomes another one
picked_map : {X Y : Type 0} (f : X → Y) (xs : List X) (n : ℕ) (p : Picked X) → pick xs n ≡ Some p
    → pick (map f xs) n ≡ Some (record { before = map f p.before; chosen = f p.chosen; following = map f p.following })
picked_map f [] n p e = absurd (none_some p e)
picked_map {X = X} {Y = Y} f (x ∷ xs) zero p e =
    ap (λ (q : Picked X). let made : Picked Y = record { before = map f q.before; chosen = f q.chosen; following = map f q.following } in Some made) (some_same _ p e)
picked_map {X = X} {Y = Y} f (x ∷ xs) (suc n) p e =
    let t = through (pick xs n) (λ q. Some (put_first x q)) p e in
    ap (λ o. after o (λ q. Some (put_first (f x) q))) (picked_map f xs n t.at t.is)
    ∙ ap (λ (q : Picked X). let made : Picked Y = record { before = map f q.before; chosen = f q.chosen; following = map f q.following } in Some made)
    (some_same (put_first x t.at) p t.gives)

-- the same literals filled in stand in the clause filled in
stand_bound : (g : Filling) (literals clause : Literals) → Stand literals clause → Stand (bind_clause g literals) (bind_clause g clause)
stand_bound g [] clause stand = tt
stand_bound g (literal ∷ literals) clause stand = record {
  place = stand.place;
  found = record { before = bind_clause g stand.found.before; chosen = bind_literal g stand.found.chosen; following = bind_clause g stand.found.following };
  at = picked_map (bind_literal g) clause stand.place stand.found stand.at;
  is = ap (bind_literal g) stand.is;
  rest = subst (Stand (bind_clause g literals)) (map-append (bind_literal g) stand.found.before stand.found.following)
      (stand_bound g literals (others stand.found) stand.rest);
}

-- literals of a clause whose literals stand in another one stand there
stand_via : (literals middle clause : Literals) → Stand literals middle → Stand middle clause → Stand literals clause
stand_via [] middle clause first second = tt
stand_via (literal ∷ literals) middle clause first second =
    let whole = picked middle first.place first.found first.at in
    let front = to_front first.found.before first.found.chosen first.found.following clause (subst (λ (xs : Literals). Stand xs clause) whole second) in
    record {
      place = front.place;
      found = front.found;
      at = front.at;
      is = front.is ∙ first.is;
      rest = stand_via literals (others first.found) (others front.found) first.rest front.rest;
    }

pub subsumes_via : SubsumptionIsTransitive
subsumes_via first second third s t = record {
  by = via s.by t.by;
  sends = subst (λ (sent : Literals). Stand sent third) (clause-via s.by t.by first)
      (stand_via (bind_clause t.by (bind_clause s.by first)) (bind_clause t.by second) third (stand_bound t.by (bind_clause s.by first) second s.sends) t.sends);
}

-- ---- tautologies

-- each of the literals is one of the clause
stand_among : (literals clause : Literals) → Stand literals clause → (literal : Literal) → Among literal literals → Among literal clause
stand_among [] clause stand literal there = absurd there
stand_among (first ∷ literals) clause stand literal (inl e) =
    subst (Among literal) (sym (picked clause stand.place stand.found stand.at))
    (among-right literal stand.found.before (stand.found.chosen ∷ stand.found.following) (inl (e ∙ sym stand.is)))
stand_among (first ∷ literals) clause stand literal (inr there) =
    let before = stand.found.before in
    let following = stand.found.following in
    let rest = stand_among literals (others stand.found) stand.rest literal there in
    let placed : Among literal (before ++ stand.found.chosen ∷ following) = elim (among-parted literal before following rest) [
      | inl h ↦ among-left literal before (stand.found.chosen ∷ following) h
      | inr h ↦ among-right literal before (stand.found.chosen ∷ following) (inr h)
    ] in
    subst (Among literal) (sym (picked clause stand.place stand.found stand.at)) placed

opposite_bound : (g : Filling) (first second : Literal) → are_opposite first second ≡ true → are_opposite (bind_literal g first) (bind_literal g second) ≡ true
opposite_bound g first second h =
    let parts = both (not (same_sign first.positive second.positive)) (same first.atom second.atom) h in
    let atoms = (same-Decides first.atom second.atom).0 parts.1 in
    ap₂ ◌&&◌ parts.0 ((same-Decides (bind g first.atom) (bind g second.atom)).1 (ap (bind g) atoms))

pub tautologies_subsume : TautologiesSubsume
tautologies_subsume first second s h =
    let one = found (λ (literal : Literal). list_any (are_opposite literal) first) first h in
    let two = found (are_opposite one.item) first one.passes in
    let left = stand_among (bind_clause s.by first) second s.sends (bind_literal s.by one.item) (among-map (bind_literal s.by) one.item first one.stands) in
    let right = stand_among (bind_clause s.by first) second s.sends (bind_literal s.by two.item) (among-map (bind_literal s.by) two.item first two.stands) in
    any-among (λ (literal : Literal). list_any (are_opposite literal) second) second (bind_literal s.by one.item) left
    (any-among (are_opposite (bind_literal s.by one.item)) second (bind_literal s.by two.item) right (opposite_bound s.by one.item two.item two.passes))
