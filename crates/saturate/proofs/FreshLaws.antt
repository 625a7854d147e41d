-- Each kept clause was neither a tautology nor subsumed when it came, and was concluded from clauses before it.
use Rattle.std.proofs.Common.{◌≡◌, ◌⊎◌, inl, inr, ◌<◌, ◌≤◌, ℕ, nat_eq, nat_le, List, [], ◌∷◌, ◌++◌, length, Bool, true, false, not, Some, refl, sym, ap, ◌∙◌, subst, arith}
use Rattle.std.proofs.lemmas.Bool.{leb-true, cases_lt}
use Rattle.std.proofs.lemmas.List.{length-append, length-map, append-nil}
use Rattle.sigma_base.specs.Lists.{Each, each_append}
use Rattle.kif_tree.specs.declared.clause.InputClause.{InputClause}
use Rattle.kif_tree.specs.Clauses.{Literals}
use Rattle.calculus.specs.declared.step.Step.{Step}
use Rattle.calculus.specs.Rules.{nth}
use Rattle.calculus.specs.Answers.{Among}
use Rattle.calculus.proofs.MemberLaws.{among-left, among-right, among-parted, each_at}
use Rattle.unify.specs.Subsumption.{Subsumes}
use Rattle.infer.specs.declared.conclusion.Conclusion.{Conclusion}
use Rattle.infer.specs.Checks.{clauses_of}
use Rattle.infer.specs.Conclusions.{clause_at}
use Rattle.saturate.specs.declared.arrival.Arrival.{Arrival}
use Rattle.saturate.specs.declared.arrival.Arrival.TheVariants as arrival
use Rattle.saturate.specs.declared.ended.Ended.{Ended}
use Rattle.saturate.specs.declared.limits.Limits.{Limits}
use Rattle.saturate.specs.declared.limits.Mode.{Mode}
use Rattle.saturate.specs.declared.reached.Reached.{Reached}
use Rattle.saturate.specs.Covered.{is_tautology}
use Rattle.saturate.specs.Runs.{clauses, known, IsCovered, is_derived, beginning, IsArrival, arrived, renumbered, without, taken, given_processed, Runs}
use Rattle.saturate.specs.Ends.{kept, IsFresh, IsConcluded}
use Rattle.saturate.proofs.ListLaws.{among_filtered, each_of_members}
use Rattle.saturate.proofs.StepLaws.{nth-append, nth-last, clauses_grown, nth_clause_at, nth_arrived, clause_at_arrived, IsNumber, Stands, stands_beginning, AreListed, Parents, parents_arrived, Invariant, always}
use Rattle.saturate.proofs.SoundLaws.{clause_at_new}

-- ---- the lists

-- processed, waiting or aside
abbrev held : Reached → List ℕ
held r = r.processed ++ (r.waiting ++ r.aside)

among_held : (n : ℕ) (processed waiting aside : List ℕ) → Among n (processed ++ (waiting ++ aside)) → Among n processed ⊎ (Among n waiting ⊎ Among n aside)
among_held n processed waiting aside there = go (among-parted n processed (waiting ++ aside) there)
  where
    go : Among n processed ⊎ Among n (waiting ++ aside) → Among n processed ⊎ (Among n waiting ⊎ Among n aside)
    go (inl first) = inl first
    go (inr rest) = inr (among-parted n waiting aside rest)

holds_of : (n : ℕ) (processed waiting aside : List ℕ) → Among n processed ⊎ (Among n waiting ⊎ Among n aside) → Among n (processed ++ (waiting ++ aside))
holds_of n processed waiting aside (inl first) = among-left n processed (waiting ++ aside) first
holds_of n processed waiting aside (inr (inl second)) = among-right n processed (waiting ++ aside) (among-left n waiting aside second)
holds_of n processed waiting aside (inr (inr third)) = among-right n processed (waiting ++ aside) (among-right n waiting aside third)

among_without : (n number : ℕ) (numbers : List ℕ) → Among n (without number numbers) → Among n numbers
among_without n number numbers there = (among_filtered (λ other. not (nat_eq number other)) numbers n there).among

held_taken : (r : Reached) (given n : ℕ) → Among n (held (taken r given)) → Among n (held r)
held_taken r given n there = holds_of n r.processed r.waiting r.aside (go (among_held n r.processed (without given r.waiting) r.aside there))
  where
    go : Among n r.processed ⊎ (Among n (without given r.waiting) ⊎ Among n r.aside) → Among n r.processed ⊎ (Among n r.waiting ⊎ Among n r.aside)
    go (inl first) = inl first
    go (inr (inl second)) = inr (inl (among_without n given r.waiting second))
    go (inr (inr third)) = inr (inr third)

held_processed : (r : Reached) (given n : ℕ) → Among given r.waiting → Among n (held (given_processed r given)) → Among n (held r)
held_processed r given n waits there =
    holds_of n r.processed r.waiting r.aside (go (among_held n (r.processed ++ given ∷ []) (without given r.waiting) r.aside there))
  where
    last : Among n r.processed ⊎ Among n (given ∷ []) → Among n r.processed ⊎ (Among n r.waiting ⊎ Among n r.aside)
    last (inl first) = inl first
    last (inr (inl e)) = inr (inl (subst (λ (m : ℕ). Among m r.waiting) (sym e) waits))
    last (inr (inr nothing)) = absurd nothing

    go : Among n (r.processed ++ given ∷ []) ⊎ (Among n (without given r.waiting) ⊎ Among n r.aside) → Among n r.processed ⊎ (Among n r.waiting ⊎ Among n r.aside)
    go (inl first) = last (among-parted n r.processed (given ∷ []) first)
    go (inr (inl second)) = inr (inl (among_without n given r.waiting second))
    go (inr (inr third)) = inr (inr third)

last_or_before : (n number : ℕ) (numbers : List ℕ) → Among n (numbers ++ number ∷ []) → Among n numbers ⊎ (n ≡ number)
last_or_before n number numbers there = go (among-parted n numbers (number ∷ []) there)
  where
    go : Among n numbers ⊎ Among n (number ∷ []) → Among n numbers ⊎ (n ≡ number)
    go (inl first) = inl first
    go (inr (inl e)) = inr e
    go (inr (inr nothing)) = absurd nothing

-- what is held after a clause came was held, or is the new one
held_waits : (r : Reached) (n number : ℕ) → Among n (r.processed ++ ((r.waiting ++ number ∷ []) ++ r.aside)) → Among n (held r) ⊎ (n ≡ number)
held_waits r n number there = go (among_held n r.processed (r.waiting ++ number ∷ []) r.aside there)
  where
    second : Among n r.waiting ⊎ (n ≡ number) → Among n (held r) ⊎ (n ≡ number)
    second (inl before) = inl (holds_of n r.processed r.waiting r.aside (inr (inl before)))
    second (inr last) = inr last

    go : Among n r.processed ⊎ (Among n (r.waiting ++ number ∷ []) ⊎ Among n r.aside) → Among n (held r) ⊎ (n ≡ number)
    go (inl first) = inl (holds_of n r.processed r.waiting r.aside (inl first))
    go (inr (inl more)) = second (last_or_before n number r.waiting more)
    go (inr (inr third)) = inl (holds_of n r.processed r.waiting r.aside (inr (inr third)))

held_aside : (r : Reached) (n number : ℕ) → Among n (r.processed ++ (r.waiting ++ (r.aside ++ number ∷ []))) → Among n (held r) ⊎ (n ≡ number)
held_aside r n number there = go (among_held n r.processed r.waiting (r.aside ++ number ∷ []) there)
  where
    third : Among n r.aside ⊎ (n ≡ number) → Among n (held r) ⊎ (n ≡ number)
    third (inl before) = inl (holds_of n r.processed r.waiting r.aside (inr (inr before)))
    third (inr last) = inr last

    go : Among n r.processed ⊎ (Among n r.waiting ⊎ Among n (r.aside ++ number ∷ [])) → Among n (held r) ⊎ (n ≡ number)
    go (inl first) = inl (holds_of n r.processed r.waiting r.aside (inl first))
    go (inr (inl second)) = inl (holds_of n r.processed r.waiting r.aside (inr (inl second)))
    go (inr (inr more)) = third (last_or_before n number r.aside more)

held_known : (r : Reached) (n : ℕ) → Among n (held r) → Among n (known r)
held_known r n there = go (among_held n r.processed r.waiting r.aside there)
  where
    go : Among n r.processed ⊎ (Among n r.waiting ⊎ Among n r.aside) → Among n (known r)
    go (inl first) = among-left n r.processed (r.waiting ++ (r.aside ++ r.found)) first
    go (inr (inl second)) = among-right n r.processed (r.waiting ++ (r.aside ++ r.found)) (among-left n r.waiting (r.aside ++ r.found) second)
    go (inr (inr third)) =
        among-right n r.processed (r.waiting ++ (r.aside ++ r.found)) (among-right n r.waiting (r.aside ++ r.found) (among-left n r.aside r.found third))

held_below : (inputs : List InputClause) (r : Reached) → Stands inputs r → (n : ℕ) → Among n (held r) → n < length (clauses r)
held_below inputs r stands n there =
    each_at (IsNumber r) (held r) n there
    (each_append (IsNumber r) r.processed (r.waiting ++ r.aside) stands.processed (each_append (IsNumber r) r.waiting r.aside stands.waiting stands.aside))

-- ---- fresh clauses

-- Of the held and derived clauses none is a tautology, and none is subsumed by an earlier held and derived one.
record IsFreshAmong (r : Reached) (n : ℕ) : Type 0 where
  asserts : is_tautology (clause_at (clauses r) n) ≡ false
  unsubsumed : (other : ℕ) → Among other (held r) → is_derived r other ≡ true → other < n → Subsumes (clause_at (clauses r) other) (clause_at (clauses r) n) → ⊥

abbrev AreFresh : Reached → Type 0
AreFresh r = (n : ℕ) → Among n (held r) → is_derived r n ≡ true → IsFreshAmong r n

tautology_or_not : (b : Bool) → (b ≡ true → ⊥) → b ≡ false
tautology_or_not true never = absurd (never refl)
tautology_or_not false never = refl

module _ (inputs : List InputClause) (r : Reached) (stands : Stands inputs r) (fresh : AreFresh r) (coming : Conclusion) (a : Arrival)
    (stay : (arrived r coming a).inputs ≡ r.inputs) where
  same : (n : ℕ) → Among n (held r) → clause_at (clauses (arrived r coming a)) n ≡ clause_at (clauses r) n
  same n there = clause_at_arrived r coming a n (held_below inputs r stands n there)

  same_derived : (n : ℕ) → is_derived (arrived r coming a) n ≡ true → is_derived r n ≡ true
  same_derived n derived = ap (λ (list : List InputClause). nat_le (length list) n) (sym stay) ∙ derived

  -- where the same ones are held as before
  fresh_kept : ((n : ℕ) → Among n (held (arrived r coming a)) → Among n (held r)) → AreFresh (arrived r coming a)
  fresh_kept back n there derived =
      let here = back n there in
      let was = fresh n here (same_derived n derived) in
      record {
        asserts = ap is_tautology (same n here) ∙ was.asserts;
        unsubsumed = λ other other_there other_derived less subsumes.
            let other_here = back other other_there in
            was.unsubsumed other other_here (same_derived other other_derived) less
            (subst (λ (clause : Literals). Subsumes (clause_at (clauses r) other) clause) (same n here)
            (subst (λ (clause : Literals). Subsumes clause (clause_at (clauses (arrived r coming a)) n)) (same other other_here) subsumes));
      }

  -- where the new one is held too
  module _ (back : (n : ℕ) → Among n (held (arrived r coming a)) → Among n (held r) ⊎ (n ≡ length r.steps)) (uncovered : IsCovered r coming.clause → ⊥)
      (at_new : clause_at (clauses (arrived r coming a)) (length r.steps) ≡ coming.clause) where
    old_one : (n : ℕ) → Among n (held r) → is_derived r n ≡ true → IsFreshAmong (arrived r coming a) n
    old_one n here derived =
        let was = fresh n here derived in
        record {
          asserts = ap is_tautology (same n here) ∙ was.asserts;
          unsubsumed = λ other other_there other_derived less subsumes.
              go other (back other other_there) was other_derived less subsumes;
        }
      where
        go : (other : ℕ) → Among other (held r) ⊎ (other ≡ length r.steps) → IsFreshAmong r n → is_derived (arrived r coming a) other ≡ true → other < n
            → Subsumes (clause_at (clauses (arrived r coming a)) other) (clause_at (clauses (arrived r coming a)) n) → ⊥
        go other (inl other_here) was other_derived less subsumes =
            was.unsubsumed other other_here (same_derived other other_derived) less
            (subst (λ (clause : Literals). Subsumes (clause_at (clauses r) other) clause) (same n here)
            (subst (λ (clause : Literals). Subsumes clause (clause_at (clauses (arrived r coming a)) n)) (same other other_here) subsumes))
        go other (inr e) was other_derived less subsumes =
            let below : n < length (clauses r) = held_below inputs r stands n here in
            let many : length r.steps ≡ length (clauses r) = stands.counted in
            absurd (omega (arith, below, many, e, less))

    new_one : IsFreshAmong (arrived r coming a) (length r.steps)
    new_one = record {
      asserts = ap is_tautology at_new ∙ tautology_or_not (is_tautology coming.clause) (λ is. uncovered (inl is));
      unsubsumed = λ other other_there other_derived less subsumes. go other (back other other_there) less subsumes;
    }
      where
        go : (other : ℕ) → Among other (held r) ⊎ (other ≡ length r.steps) → other < length r.steps
            → Subsumes (clause_at (clauses (arrived r coming a)) other) (clause_at (clauses (arrived r coming a)) (length r.steps)) → ⊥
        go other (inl other_here) less subsumes =
            uncovered (inr (record {
              number = other;
              among = held_known r other other_here;
              general = clause_at (clauses r) other;
              at = nth_clause_at (clauses r) other (held_below inputs r stands other other_here);
              subsumes = subst (λ (clause : Literals). Subsumes (clause_at (clauses r) other) clause) at_new
                  (subst (λ (clause : Literals). Subsumes clause (clause_at (clauses (arrived r coming a)) (length r.steps))) (same other other_here) subsumes);
            }))
        go other (inr e) less subsumes = absurd (omega (arith, e, less))

    fresh_grown : AreFresh (arrived r coming a)
    fresh_grown n there derived = go (back n there)
      where
        go : Among n (held r) ⊎ (n ≡ length r.steps) → IsFreshAmong (arrived r coming a) n
        go (inl here) = old_one n here (same_derived n derived)
        go (inr e) = subst (IsFreshAmong (arrived r coming a)) (sym e) new_one

fresh_arrived : (inputs : List InputClause) (r : Reached) (stands : Stands inputs r) → AreFresh r → (coming : Conclusion) (a : Arrival) → IsArrival r coming.clause a
    → AreFresh (arrived r coming a)
fresh_arrived inputs r stands fresh coming arrival.Contradiction is = fresh_kept inputs r stands fresh coming arrival.Contradiction refl (λ n there. there)
fresh_arrived inputs r stands fresh coming arrival.Dropped is = fresh
fresh_arrived inputs r stands fresh coming arrival.Found is = fresh_kept inputs r stands fresh coming arrival.Found refl (λ n there. there)
fresh_arrived inputs r stands fresh coming arrival.Aside is =
    fresh_grown inputs r stands fresh coming arrival.Aside refl (λ n there. held_aside r n (length r.steps) there) is.0.new.uncovered (clause_at_new inputs r stands coming)
fresh_arrived inputs r stands fresh coming arrival.Waits is =
    fresh_grown inputs r stands fresh coming arrival.Waits refl (λ n there. held_waits r n (length r.steps) there) is.0.new.uncovered (clause_at_new inputs r stands coming)

-- where fewer are held of the same clauses
fresh_fewer : (r next : Reached) → AreFresh r → ((n : ℕ) → Among n (held next) → Among n (held r)) → clauses next ≡ clauses r → next.inputs ≡ r.inputs → AreFresh next
fresh_fewer r next fresh back same stay n there derived =
    let was = fresh n (back n there) (ap (λ (list : List InputClause). nat_le (length list) n) (sym stay) ∙ derived) in
    record {
      asserts = ap (λ (list : List Literals). is_tautology (clause_at list n)) same ∙ was.asserts;
      unsubsumed = λ other other_there other_derived less subsumes.
          was.unsubsumed other (back other other_there) (ap (λ (list : List InputClause). nat_le (length list) other) (sym stay) ∙ other_derived) less
          (subst (λ (list : List Literals). Subsumes (clause_at list other) (clause_at list n)) same subsumes);
    }

-- no input is derived
no_input : (inputs : List InputClause) (mode : Mode) (n : ℕ) → n < length (clauses_of inputs ++ []) → nat_le (length inputs) n ≡ true → ⊥
no_input inputs mode n below derived =
    let many = ap length (append-nil (clauses_of inputs)) ∙ length-map inputs (λ (input : InputClause). input.clause) in
    let above = leb-true (length inputs) n derived in
    omega (arith, many, above, below)

are_fresh : (inputs : List InputClause) (limits : Limits) → Invariant inputs limits AreFresh
are_fresh inputs limits = record {
  begins = λ n there derived.
      absurd (no_input inputs limits.mode n (held_below inputs (beginning inputs limits.mode) (stands_beginning inputs limits.mode) n there) derived);
  takes = λ r given stands fresh waits. fresh_fewer r (taken r given) fresh (held_taken r given) refl refl;
  gives = λ r given stands fresh waits. fresh_fewer r (given_processed r given) fresh (λ n there. held_processed r given n waits there) refl refl;
  comes = λ r given partner list conclusion a stands fresh parents among is. fresh_arrived inputs r stands fresh (renumbered given partner conclusion) a is;
}

-- ---- concluded clauses

-- a conclusion listed for clauses that are there
record IsMade (r : Reached) (number : ℕ) : Type 0 where
  given : ℕ
  partner : ℕ
  list : List Conclusion
  parents : Parents r given partner list
  conclusion : Conclusion
  among : Among conclusion list
  clause : nth (clauses r) number ≡ Some conclusion.clause
  step : nth r.steps number ≡ Some (renumbered given partner conclusion).step

abbrev AreMade : Reached → Type 0
AreMade r = (n : ℕ) → length r.inputs ≤ n → n < length (clauses r) → IsMade r n

made_fewer : (r next : Reached) → AreMade r → clauses next ≡ clauses r → next.inputs ≡ r.inputs → next.steps ≡ r.steps → AreMade next
made_fewer r next made same stay steps n above below =
    let was = made n (subst (λ (list : List InputClause). length list ≤ n) stay above) (subst (λ (list : List Literals). n < length list) same below) in
    record {
      given = was.given;
      partner = was.partner;
      list = was.list;
      parents = record {
        given_below = subst (λ (list : List Literals). was.given < length list) (sym same) was.parents.given_below;
        partner_below = subst (λ (list : List Literals). was.partner < length list) (sym same) was.parents.partner_below;
        are = subst (λ (list : List Literals). AreListed (clause_at list was.given) (clause_at list was.partner) was.given was.partner was.list) (sym same) was.parents.are;
        plain = was.parents.plain;
      };
      conclusion = was.conclusion;
      among = was.among;
      clause = ap (λ (list : List Literals). nth list n) same ∙ was.clause;
      step = ap (λ (list : List Step). nth list n) steps ∙ was.step;
    }

module _ (inputs : List InputClause) (r : Reached) (stands : Stands inputs r) (made : AreMade r) (given partner : ℕ) (list : List Conclusion) (conclusion : Conclusion)
    (parents : Parents r given partner list) (among : Among conclusion list) where
  -- where its step is added
  module _ (a : Arrival) (stay : (arrived r (renumbered given partner conclusion) a).inputs ≡ r.inputs)
      (steps_are : (arrived r (renumbered given partner conclusion) a).steps ≡ r.steps ++ (renumbered given partner conclusion).step ∷ [])
      (clauses_are : clauses (arrived r (renumbered given partner conclusion) a) ≡ clauses r ++ conclusion.clause ∷ []) where
    made_before : (n : ℕ) → n < length (clauses r) → IsMade r n → IsMade (arrived r (renumbered given partner conclusion) a) n
    made_before n below was =
        let many : length r.steps ≡ length (clauses r) = stands.counted in
        let few : n < length r.steps = omega (arith, many, below) in
        record {
          given = was.given;
          partner = was.partner;
          list = was.list;
          parents = parents_arrived r (renumbered given partner conclusion) a was.given was.partner was.list was.parents;
          conclusion = was.conclusion;
          among = was.among;
          clause = nth_arrived r (renumbered given partner conclusion) a n below ∙ was.clause;
          step = ap (λ (steps : List Step). nth steps n) steps_are ∙ nth-append r.steps ((renumbered given partner conclusion).step ∷ []) n few ∙ was.step;
        }

    made_last : IsMade (arrived r (renumbered given partner conclusion) a) (length (clauses r))
    made_last = record {
      given = given;
      partner = partner;
      list = list;
      parents = parents_arrived r (renumbered given partner conclusion) a given partner list parents;
      conclusion = conclusion;
      among = among;
      clause = ap (λ (cs : List Literals). nth cs (length (clauses r))) clauses_are ∙ nth-last (clauses r) conclusion.clause;
      step = ap (λ (steps : List Step). nth steps (length (clauses r))) steps_are
          ∙ ap (nth (r.steps ++ (renumbered given partner conclusion).step ∷ [])) (sym stands.counted) ∙ nth-last r.steps (renumbered given partner conclusion).step;
    }

    made_more : AreMade (arrived r (renumbered given partner conclusion) a)
    made_more n above below = go (cases_lt n (length (clauses r)))
      where
        go : (n < length (clauses r)) ⊎ (length (clauses r) ≤ n) → IsMade (arrived r (renumbered given partner conclusion) a) n
        go (inl less) = made_before n less (made n (subst (λ (ones : List InputClause). length ones ≤ n) stay above) less)
        go (inr past) =
            let many = ap length clauses_are ∙ length-append (clauses r) (conclusion.clause ∷ []) in
            let here : length (clauses r) ≡ n = omega (arith, many, past, below) in
            subst (IsMade (arrived r (renumbered given partner conclusion) a)) here made_last

  made_arrived : (a : Arrival) → AreMade (arrived r (renumbered given partner conclusion) a)
  made_arrived arrival.Contradiction = made_more arrival.Contradiction refl refl (clauses_grown r (renumbered given partner conclusion))
  made_arrived arrival.Dropped = made
  made_arrived arrival.Found = made_more arrival.Found refl refl (clauses_grown r (renumbered given partner conclusion))
  made_arrived arrival.Aside = made_more arrival.Aside refl refl (clauses_grown r (renumbered given partner conclusion))
  made_arrived arrival.Waits = made_more arrival.Waits refl refl (clauses_grown r (renumbered given partner conclusion))

are_made : (inputs : List InputClause) (limits : Limits) → Invariant inputs limits AreMade
are_made inputs limits = record {
  begins = λ n above below.
      let many = ap length (append-nil (clauses_of inputs)) ∙ length-map inputs (λ (input : InputClause). input.clause) in
      absurd (omega (arith, many, above, below));
  takes = λ r given stands made waits. made_fewer r (taken r given) made refl refl refl;
  gives = λ r given stands made waits. made_fewer r (given_processed r given) made refl refl refl;
  comes = λ r given partner list conclusion a stands made parents among is. made_arrived inputs r stands made given partner list conclusion parents among a;
}

-- ---- kept clauses

module _ (inputs : List InputClause) (limits : Limits) (turns : ℕ) (r : Reached) (end : Ended) (runs : Runs inputs limits turns r end) where
  -- each kept clause is neither a tautology nor subsumed by an earlier kept one
  pub kept_is_fresh : Each (IsFresh r) (kept r)
  kept_is_fresh = each_of_members (IsFresh r) (kept r) (λ n there.
      let at = among_filtered (is_derived r) (held r) n there in
      let fresh = (always inputs limits AreFresh (are_fresh inputs limits) turns r end runs).holds n at.among at.passes in
      record {
        asserts = fresh.asserts;
        unsubsumed = λ other other_there less subsumes.
            let other_at = among_filtered (is_derived r) (held r) other other_there in
            fresh.unsubsumed other other_at.among other_at.passes less subsumes;
      })

  -- and is a conclusion of two clauses, or a factor of one
  pub kept_is_concluded : Each (IsConcluded r) (kept r)
  kept_is_concluded = each_of_members (IsConcluded r) (kept r) (λ n there.
      let at = among_filtered (is_derived r) (held r) n there in
      let standing = always inputs limits AreMade (are_made inputs limits) turns r end runs in
      let made = standing.holds n (leb-true (length r.inputs) n at.passes) (held_below inputs r standing.stands n at.among) in
      record {
        given = made.given;
        partner = made.partner;
        list = made.list;
        are = made.parents.are;
        conclusion = made.conclusion;
        among = made.among;
        clause = made.clause;
        step = made.step;
      })
