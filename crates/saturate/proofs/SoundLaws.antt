-- The steps of a run derive its clauses.
use Rattle.std.proofs.Common.{◌≡◌, ◌⊎◌, inl, inr, ◌<◌, ◌≤◌, ℕ, zero, suc, ◌+◌, nat_le, List, [], ◌∷◌, ◌++◌, map, length, take, true, Option, Some, refl, sym, ap, ◌∙◌, subst, arith}
use Rattle.std.proofs.lemmas.Bool.{le-leb, cases_lt}
use Rattle.std.proofs.lemmas.List.{length-append, length-map, append-nil, take_all}
use Rattle.std.proofs.Math.Seq.{take-append_seam, get_or-append_seam}
use Rattle.sigma_base.specs.Lists.{Each, each_append, each_map}
use Rattle.kif_tree.specs.declared.clause.InputClause.{InputClause}
use Rattle.kif_tree.specs.Subst.{lookup}
use Rattle.kif_tree.specs.Clauses.{Literals}
use Rattle.calculus.specs.declared.places.Replaced.{Replaced}
use Rattle.calculus.specs.declared.step.Step.{Step}
use Rattle.calculus.specs.Tidy.{tidy}
use Rattle.calculus.specs.Rules.{after, nth, resolved, factored, replaced, replacement, untidy, concluded, clause_of, Derivation}
use Rattle.calculus.specs.Answers.{Among}
use Rattle.calculus.specs.Evidence.{list_from}
use Rattle.calculus.proofs.PlaceLaws.{through, none_some}
use Rattle.calculus.proofs.MemberLaws.{each_at}
use Rattle.calculus_programs.proofs.DeriveLaws.{derivation_more}
use Rattle.calculus_programs.proofs.PickLaws.{nth-none}
use Rattle.infer.specs.declared.conclusion.Conclusion.{Conclusion}
use Rattle.infer.specs.Checks.{clauses_of}
use Rattle.infer.specs.Sites.{conclusion_sites, factor_sites}
use Rattle.infer.specs.Conclusions.{clause_at, IsConclusionAt, AreAt}
use Rattle.infer.specs.Plain.{IsPlainStep, IsPlainConclusion}
use Rattle.saturate.specs.declared.arrival.Arrival.{Arrival}
use Rattle.saturate.specs.declared.arrival.Arrival.TheVariants as arrival
use Rattle.saturate.specs.declared.limits.Limits.{Limits}
use Rattle.saturate.specs.declared.limits.Mode.{Mode}
use Rattle.saturate.specs.declared.reached.Reached.{Reached}
use Rattle.saturate.specs.Runs.{clauses, numbers_from, numbers_of, beginning, IsArrival, grown, arrived, parent_number, renumbered_step, renumbered, taken, given_processed}
use Rattle.saturate.specs.Ends.{IsFound, IsSound}
use Rattle.saturate.specs.Laws.{RunsAreSound}
use Rattle.saturate.proofs.StepLaws.{nth-last, nth_below, nth_clause_at, clauses_grown, nth_arrived, length-numbers, Stands, stands_beginning, stands_arrived, AreListed, Parents, Invariant, always}

-- ---- a conclusion at its site

pub record AtSite (clauses : List Literals) (sites : List Step) (conclusion : Conclusion) : Type 0 where
  pub site : Step
  pub among : Among site sites
  pub is : IsConclusionAt clauses site conclusion

one_further : (list : List Literals) (site : Step) (sites : List Step) (conclusion : Conclusion) → AtSite list sites conclusion → AtSite list (site ∷ sites) conclusion
one_further list site sites conclusion rest = record { site = rest.site; among = inr rest.among; is = rest.is }

pub at_site : (list : List Literals) (sites : List Step) (found : List Conclusion) → AreAt list sites found
    → (conclusion : Conclusion) → Among conclusion found → AtSite list sites conclusion
at_site list [] found none conclusion there = absurd (subst (Among conclusion) none there)
at_site list (site ∷ sites) found (inl skips) conclusion there = one_further list site sites conclusion (at_site list sites found skips.1 conclusion there)
at_site list (site ∷ sites) found (inr begins) conclusion there = go (subst (Among conclusion) begins.is there) (at_site list sites begins.rest begins.more conclusion)
  where
    go : Among conclusion (begins.first ∷ begins.rest) → (Among conclusion begins.rest → AtSite list sites conclusion) → AtSite list (site ∷ sites) conclusion
    go (inl e) rest = record { site = site; among = inl refl; is = subst (IsConclusionAt list site) (sym e) begins.concludes }
    go (inr more) rest = one_further list site sites conclusion (rest more)

-- ---- steps with other numbers

module _ (old clauses : List Literals) (given partner : ℕ)
    (moved : (k : ℕ) (clause : Literals) → nth old k ≡ Some clause → nth clauses (parent_number given partner k) ≡ Some clause) where
  untidy_moved : (step : Step) (raw : Literals) → untidy step old ≡ Some raw → untidy (renumbered_step given partner step) clauses ≡ Some raw
  untidy_moved (Step.Input i) raw e = absurd (none_some raw e)
  untidy_moved (Step.Resolve left i f right j g) raw e =
      let l = through (nth old left) (λ l. after (nth old right) (λ r. resolved l i (lookup f.pairs) r j (lookup g.pairs))) raw e in
      let r = through (nth old right) (λ r. resolved l.at i (lookup f.pairs) r j (lookup g.pairs)) raw l.gives in
      ap (λ o. after o (λ l. after (nth clauses (parent_number given partner right)) (λ r. resolved l i (lookup f.pairs) r j (lookup g.pairs)))) (moved left l.at l.is)
      ∙ ap (λ o. after o (λ r. resolved l.at i (lookup f.pairs) r j (lookup g.pairs))) (moved right r.at r.is) ∙ r.gives
  untidy_moved (Step.Factor parent i j f) raw e =
      let p = through (nth old parent) (λ p. factored p i j (lookup f.pairs)) raw e in
      ap (λ o. after o (λ p. factored p i j (lookup f.pairs))) (moved parent p.at p.is) ∙ p.gives
  untidy_moved (Step.Paramodulate source i flipped f target j path g) raw e =
      let w = through (replacement (Step.Paramodulate source i flipped f target j path g) old) (λ w. Some w.conclusion) raw e in
      let s = through (nth old source) (λ s. after (nth old target) (λ t. replaced s i flipped (lookup f.pairs) t j path (lookup g.pairs))) w.at w.is in
      let t = through (nth old target) (λ t. replaced s.at i flipped (lookup f.pairs) t j path (lookup g.pairs)) w.at s.gives in
      let same : replacement (renumbered_step given partner (Step.Paramodulate source i flipped f target j path g)) clauses ≡ Some w.at =
      ap (λ o. after o (λ s. after (nth clauses (parent_number given partner target)) (λ t. replaced s i flipped (lookup f.pairs) t j path (lookup g.pairs)))) (moved source s.at s.is)
      ∙ ap (λ o. after o (λ t. replaced s.at i flipped (lookup f.pairs) t j path (lookup g.pairs))) (moved target t.at t.is) ∙ t.gives in
      ap (λ (o : Option Replaced). after o (λ w. Some w.conclusion)) same ∙ w.gives

  concluded_moved : (step : Step) (clause : Literals) → concluded step old ≡ Some clause → concluded (renumbered_step given partner step) clauses ≡ Some clause
  concluded_moved step clause e =
      let raw = through (untidy step old) (λ c. Some (tidy c)) clause e in
      ap (λ (o : Option Literals). after o (λ c. Some (tidy c))) (untidy_moved step raw.at raw.is) ∙ raw.gives

  clause_of_moved : (inputs : List Literals) (step : Step) (clause : Literals) → concluded step old ≡ Some clause
      → clause_of inputs (renumbered_step given partner step) clauses ≡ Some clause
  clause_of_moved inputs (Step.Input i) clause e = absurd (none_some clause e)
  clause_of_moved inputs (Step.Resolve left i f right j g) clause e = concluded_moved (Step.Resolve left i f right j g) clause e
  clause_of_moved inputs (Step.Factor parent i j f) clause e = concluded_moved (Step.Factor parent i j f) clause e
  clause_of_moved inputs (Step.Paramodulate source i flipped f target j path g) clause e =
      concluded_moved (Step.Paramodulate source i flipped f target j path g) clause e

module _ (clauses : List Literals) (given : ℕ) (first : Literals) (first_at : nth clauses given ≡ Some first) where
  one_moved : (k : ℕ) (clause : Literals) → nth (first ∷ []) k ≡ Some clause → nth clauses (parent_number given given k) ≡ Some clause
  one_moved zero clause e = first_at ∙ e
  one_moved (suc k) clause e = absurd (none_some clause e)

  two_moved : (partner : ℕ) (second : Literals) → nth clauses partner ≡ Some second
      → (k : ℕ) (clause : Literals) → nth (first ∷ second ∷ []) k ≡ Some clause → nth clauses (parent_number given partner k) ≡ Some clause
  two_moved partner second second_at zero clause e = first_at ∙ e
  two_moved partner second second_at (suc zero) clause e = second_at ∙ e
  two_moved partner second second_at (suc (suc k)) clause e = absurd (none_some clause e)

-- the step of a listed conclusion concludes its clause from the clauses so far
pub parents_conclude : (inputs : List Literals) (r : Reached) (given partner : ℕ) (list : List Conclusion) (conclusion : Conclusion)
    → Parents r given partner list → Among conclusion list
    → clause_of inputs (renumbered_step given partner conclusion.step) (clauses r) ≡ Some conclusion.clause
parents_conclude inputs r given partner list conclusion parents among = go parents.are
  where
    first : Literals
    first = clause_at (clauses r) given

    second : Literals
    second = clause_at (clauses r) partner

    go : AreListed (clause_at (clauses r) given) (clause_at (clauses r) partner) given partner list
        → clause_of inputs (renumbered_step given partner conclusion.step) (clauses r) ≡ Some conclusion.clause
    go (inl conclusions) =
        let site = at_site (first ∷ second ∷ []) (conclusion_sites first second _) list conclusions conclusion among in
        clause_of_moved (first ∷ second ∷ []) (clauses r) given partner
        (two_moved (clauses r) given first (nth_clause_at (clauses r) given parents.given_below) partner second (nth_clause_at (clauses r) partner parents.partner_below))
        inputs conclusion.step conclusion.clause site.is.concludes
    go (inr factors) =
        let site = at_site (first ∷ []) (factor_sites first) list factors.0 conclusion among in
        subst (λ (n : ℕ). clause_of inputs (renumbered_step given n conclusion.step) (clauses r) ≡ Some conclusion.clause) (sym factors.1)
        (clause_of_moved (first ∷ []) (clauses r) given given (one_moved (clauses r) given first (nth_clause_at (clauses r) given parents.given_below))
        inputs conclusion.step conclusion.clause site.is.concludes)

-- ---- derivations

derivation_grown : (inputs : List Literals) (steps : List Step) (clauses : List Literals) (step : Step) (clause : Literals) → Derivation inputs steps clauses
    → clause_of inputs step clauses ≡ Some clause → Derivation inputs (steps ++ step ∷ []) (clauses ++ clause ∷ [])
derivation_grown inputs steps clauses step clause d made =
    let n = length steps in
    let many : length (steps ++ step ∷ []) ≡ n + 1 = length-append steps (step ∷ []) in
    subst (λ (s : List Step). Derivation inputs s (clauses ++ clause ∷ [])) (take_all (n + 1) (steps ++ step ∷ []) (omega (arith, many)))
    (derivation_more inputs (steps ++ step ∷ []) n step clauses clause (omega (arith, many)) (sym (get_or-append_seam steps step [] step))
    (subst (λ (s : List Step). Derivation inputs s clauses) (sym (take-append_seam steps (step ∷ []))) d) made)

nth-numbers : (first count n : ℕ) → n < count → nth (map Step.Input (numbers_from first count)) n ≡ Some (Step.Input (first + n))
nth-numbers first zero n h = absurd (omega arith)
nth-numbers first (suc count) zero h = let e : first ≡ first + 0 = omega arith in ap (λ (m : ℕ). Some (Step.Input m)) e
nth-numbers first (suc count) (suc n) h =
    let e : (first + 1) + n ≡ first + suc n = omega arith in
    nth-numbers (first + 1) count n (omega arith) ∙ ap (λ (m : ℕ). Some (Step.Input m)) e

sound_beginning : (inputs : List InputClause) (mode : Mode) → IsSound (beginning inputs mode)
sound_beginning inputs mode = record {
  derivation = record { same_length = sym (stands_beginning inputs mode).counted; each = λ n. each n (cases_lt n (length inputs)) };
  plain = each_plain (numbers_of inputs);
  found = tt;
}
  where
    each_plain : (numbers : List ℕ) → Each IsPlainStep (map Step.Input numbers)
    each_plain [] = tt
    each_plain (n ∷ numbers) = (tt, each_plain numbers)

    steps : List Step
    steps = map Step.Input (numbers_of inputs)

    all : clauses_of inputs ++ [] ≡ clauses_of inputs
    all = append-nil (clauses_of inputs)

    many : length steps ≡ length inputs
    many = length-map (numbers_of inputs) Step.Input ∙ length-numbers 0 (length inputs)

    each : (n : ℕ) → (n < length inputs) ⊎ (length inputs ≤ n)
        → nth (clauses_of inputs ++ []) n ≡ after (nth (map Step.Input (numbers_of inputs)) n) (λ step. clause_of (clauses_of inputs) step (take n (clauses_of inputs ++ [])))
    each n (inl below) =
        let e : n ≡ 0 + n = omega arith in
        ap (λ (list : List Literals). nth list n) all ∙ ap (nth (clauses_of inputs)) e
        ∙ sym (ap (λ (o : Option Step). after o (λ step. clause_of (clauses_of inputs) step (take n (clauses_of inputs ++ [])))) (nth-numbers 0 (length inputs) n below))
    each n (inr above) =
        let input_many : length (clauses_of inputs) ≡ length inputs = length-map inputs (λ (input : InputClause). input.clause) in
        let few : length (clauses_of inputs) ≤ n = omega (arith, input_many, above) in
        let few_steps : length (map Step.Input (numbers_of inputs)) ≤ n = omega (arith, many, above) in
        ap (λ (list : List Literals). nth list n) all ∙ nth-none (clauses_of inputs) n few
        ∙ sym (ap (λ (o : Option Step). after o (λ step. clause_of (clauses_of inputs) step (take n (clauses_of inputs ++ [])))) (nth-none (map Step.Input (numbers_of inputs)) n few_steps))

-- ---- found clauses

found_moved : (r new : Reached) → new.inputs ≡ r.inputs → ((n : ℕ) (clause : Literals) → nth (clauses r) n ≡ Some clause → nth (clauses new) n ≡ Some clause)
    → (numbers : List ℕ) → Each (IsFound r) numbers → Each (IsFound new) numbers
found_moved r new stay moved numbers each =
    each_map (IsFound r) (IsFound new) (λ n found. record {
      derived = ap (λ (list : List InputClause). nat_le (length list) n) stay ∙ found.derived;
      clause = found.clause;
      at = moved n found.clause found.at;
      asserts = found.asserts;
      alone = found.alone;
    }) numbers each

plain_renumbered : (given partner : ℕ) (step : Step) → IsPlainStep step → IsPlainStep (renumbered_step given partner step)
plain_renumbered given partner (Step.Input i) plain = tt
plain_renumbered given partner (Step.Resolve left i f right j g) plain = plain
plain_renumbered given partner (Step.Factor parent i j f) plain = plain
plain_renumbered given partner (Step.Paramodulate source i flipped f target j path g) plain = plain

-- the clause of the next step
pub nth_new : (inputs : List InputClause) (r : Reached) → Stands inputs r → (coming : Conclusion) → nth (clauses (grown r coming)) (length r.steps) ≡ Some coming.clause
nth_new inputs r stands coming =
    ap (λ (cs : List Literals). nth cs (length r.steps)) (clauses_grown r coming)
    ∙ ap (nth (clauses r ++ coming.clause ∷ [])) stands.counted ∙ nth-last (clauses r) coming.clause

pub clause_at_new : (inputs : List InputClause) (r : Reached) → Stands inputs r → (coming : Conclusion) → clause_at (clauses (grown r coming)) (length r.steps) ≡ coming.clause
clause_at_new inputs r stands coming = ap (λ (o : Option Literals). list_from o (λ clause. clause)) (nth_new inputs r stands coming)

-- the number of the next step is no input's
pub new_is_derived : (inputs : List InputClause) (r : Reached) → Stands inputs r → nat_le (length r.inputs) (length r.steps) ≡ true
new_is_derived inputs r stands =
    let many = length-append (clauses_of r.inputs) r.derived in
    let inputs_many = length-map r.inputs (λ (input : InputClause). input.clause) in
    let same = stands.counted in
    le-leb (length r.inputs) (length r.steps) (omega (arith, many, inputs_many, same))

module _ (inputs : List InputClause) (r : Reached) (stands : Stands inputs r) (sound : IsSound r) (given partner : ℕ) (list : List Conclusion) (conclusion : Conclusion)
    (parents : Parents r given partner list) (among : Among conclusion list) where
  derivation_new : Derivation (clauses_of r.inputs) (r.steps ++ renumbered_step given partner conclusion.step ∷ []) (clauses (grown r (renumbered given partner conclusion)))
  derivation_new =
      subst (Derivation (clauses_of r.inputs) (r.steps ++ renumbered_step given partner conclusion.step ∷ [])) (sym (clauses_grown r (renumbered given partner conclusion)))
      (derivation_grown (clauses_of r.inputs) r.steps (clauses r) (renumbered_step given partner conclusion.step) conclusion.clause sound.derivation
      (parents_conclude (clauses_of r.inputs) r given partner list conclusion parents among))

  plain_new : Each IsPlainStep (r.steps ++ renumbered_step given partner conclusion.step ∷ [])
  plain_new =
      let plain = each_at IsPlainConclusion list conclusion among parents.plain in
      each_append IsPlainStep r.steps (renumbered_step given partner conclusion.step ∷ []) sound.plain (plain_renumbered given partner conclusion.step plain.step, tt)

  found_old : (a : Arrival) → Each (IsFound (arrived r (renumbered given partner conclusion) a)) r.found
  found_old a =
      found_moved r (arrived r (renumbered given partner conclusion) a)
      ((stands_arrived inputs r stands (renumbered given partner conclusion) a).stay ∙ sym stands.stay)
      (λ n clause at. nth_arrived r (renumbered given partner conclusion) a n (nth_below (clauses r) n clause at) ∙ at) r.found sound.found

  sound_arrived : (a : Arrival) → IsArrival r conclusion.clause a → IsSound (arrived r (renumbered given partner conclusion) a)
  sound_arrived arrival.Contradiction is = record { derivation = derivation_new; plain = plain_new; found = found_old arrival.Contradiction }
  sound_arrived arrival.Dropped is = sound
  sound_arrived arrival.Found is = record {
    derivation = derivation_new;
    plain = plain_new;
    found = each_append (IsFound (arrived r (renumbered given partner conclusion) arrival.Found)) r.found (length r.steps ∷ []) (found_old arrival.Found)
        (record { derived = new_is_derived inputs r stands; clause = conclusion.clause; at = nth_new inputs r stands (renumbered given partner conclusion); asserts = is.0.asserts; alone = is.1 }, tt);
  }
  sound_arrived arrival.Aside is = record { derivation = derivation_new; plain = plain_new; found = found_old arrival.Aside }
  sound_arrived arrival.Waits is = record { derivation = derivation_new; plain = plain_new; found = found_old arrival.Waits }

is_sound : (inputs : List InputClause) (limits : Limits) → Invariant inputs limits IsSound
is_sound inputs limits = record {
  begins = sound_beginning inputs limits.mode;
  takes = λ r given stands sound waits. record {
    derivation = sound.derivation;
    plain = sound.plain;
    found = found_moved r (taken r given) refl (λ n clause at. at) r.found sound.found;
  };
  gives = λ r given stands sound waits. record {
    derivation = sound.derivation;
    plain = sound.plain;
    found = found_moved r (given_processed r given) refl (λ n clause at. at) r.found sound.found;
  };
  comes = λ r given partner list conclusion a stands sound parents among is. sound_arrived inputs r stands sound given partner list conclusion parents among a is;
}

pub runs_are_sound : RunsAreSound
runs_are_sound inputs limits turns r end runs = (always inputs limits IsSound (is_sound inputs limits) turns r end runs).holds
