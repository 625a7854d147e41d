-- An answer literal of a given clause stays in each conclusion, so a search in support mode derives no clause without literals.
use Rattle.std.proofs.Common.{◌≡◌, ◌⊎◌, inl, inr, ℕ, zero, suc, nat_eq, List, [], ◌∷◌, ◌++◌, length, take, Bool, true, false, if◌then◌else◌, Option, Some, refl, sym, subst}
use Rattle.sigma_base.specs.Lists.{Each, each_append, each_left, each_right}
use Rattle.kif_tree.specs.declared.clause.Literal.{Literal}
use Rattle.kif_tree.specs.Subst.{lookup, Filling, via}
use Rattle.kif_tree.specs.Clauses.{Literals, is_answer}
use Rattle.calculus.specs.declared.step.Step.{Step}
use Rattle.calculus.specs.Tidy.{tidy, turned_back}
use Rattle.calculus.specs.Rules.{after, nth, replacement, untidy, concluded, clause_of, Derivation}
use Rattle.calculus.specs.Evidence.{list_from, Use, step_uses, uses_within, uses}
use Rattle.calculus.specs.Answers.{Among, UseAnswers}
use Rattle.calculus.proofs.PlaceLaws.{through, none_some}
use Rattle.calculus.proofs.MemberLaws.{each_at}
use Rattle.calculus.proofs.AnswerLaws.{answers_stay}
use Rattle.infer.specs.declared.conclusion.Conclusion.{Conclusion}
use Rattle.infer.specs.Sites.{unset, site_of, each_below, resolution_sites, resolutions, paramodulations_by, paramodulations, conclusion_sites, factor_sites}
use Rattle.infer.specs.Conclusions.{clause_at}
use Rattle.infer.proofs.ListLaws.{each_below-each}
use Rattle.infer.proofs.ConclusionLaws.{each_site_by}
use Rattle.saturate.specs.declared.reached.Reached.{Reached}
use Rattle.saturate.specs.Runs.{clauses}
use Rattle.saturate.proofs.StepLaws.{AreListed, Parents}
use Rattle.saturate.proofs.SoundLaws.{at_site}

-- the clause has an answer literal
pub record IsMarked (clause : Literals) : Type 0 where
  pub literal : Literal
  pub stands : Among literal clause
  pub answers : is_answer literal.atom ≡ true

pub marked_is_not_empty : (clause : Literals) → IsMarked clause → clause ≡ [] → ⊥
marked_is_not_empty clause marked empty = subst (Among marked.literal) empty marked.stands

-- ---- the given clause takes part in each conclusion

-- the first clause is a parent
abbrev TakesFirst : Step → Type 0
TakesFirst (Step.Input i) = ⊥
TakesFirst (Step.Resolve left i f right j g) = (left ≡ 0) ⊎ (right ≡ 0)
TakesFirst (Step.Factor parent i j f) = parent ≡ 0
TakesFirst (Step.Paramodulate source i flipped f target j path g) = (source ≡ 0) ⊎ (target ≡ 0)

site_takes : (step : Step) → TakesFirst (site_of step) → TakesFirst step
site_takes (Step.Input i) takes = takes
site_takes (Step.Resolve left i f right j g) takes = takes
site_takes (Step.Factor parent i j f) takes = takes
site_takes (Step.Paramodulate source i flipped f target j path g) takes = takes

paramodulations_take : (source : ℕ) (from : Literals) (target : ℕ) (into : Literals) → (source ≡ 0) ⊎ (target ≡ 0) → Each TakesFirst (paramodulations source from target into)
paramodulations_take source from target into one =
    each_below-each TakesFirst (length from) (λ i. paramodulations_by source i false target into ++ paramodulations_by source i true target into) (λ i less.
    each_append TakesFirst (paramodulations_by source i false target into) (paramodulations_by source i true target into)
    (each_site_by TakesFirst source i false target into (λ j path. one))
    (each_site_by TakesFirst source i true target into (λ j path. one)))

conclusions_take : (first second : Literals) (same : Bool) → Each TakesFirst (conclusion_sites first second same)
conclusions_take first second same =
    each_append TakesFirst (resolutions first second) (paramodulations 0 first 1 second ++ (if same then [] else paramodulations 1 second 0 first))
    (each_below-each TakesFirst (length first) (λ i. each_below (length second) (resolution_sites i)) (λ i less.
    each_below-each TakesFirst (length second) (resolution_sites i) (λ j other. (inl refl, (inr refl, tt)))))
    (each_append TakesFirst (paramodulations 0 first 1 second) (if same then [] else paramodulations 1 second 0 first)
    (paramodulations_take 0 first 1 second (inl refl)) (back same))
  where
    back : (b : Bool) → Each TakesFirst (if b then [] else paramodulations 1 second 0 first)
    back true = tt
    back false = paramodulations_take 1 second 0 first (inr refl)

factors_take : (first : Literals) → Each TakesFirst (factor_sites first)
factors_take first =
    each_below-each TakesFirst (length first) (λ i. each_below (length first) (λ j. Step.Factor 0 i j unset ∷ [])) (λ i less.
    each_below-each TakesFirst (length first) (λ j. Step.Factor 0 i j unset ∷ []) (λ j other. (refl, tt)))

-- ---- the answer literals of a parent stay

each_of_some : {A B : Type 0} (P : B → Type 0) (o : Option A) (f : A → List B) (a : A) → o ≡ Some a → Each P (list_from o f) → Each P (f a)
each_of_some P o f a is each = subst (λ q. Each P (list_from q f)) is each

module _ (inputs : List Literals) (first clause : Literals) (first_at : nth inputs 0 ≡ Some first) (marked : IsMarked first) (g : Filling)
    (earlier : ℕ → Filling → List Use) (earlier_is : (h : Filling) → earlier 0 h ≡ (let one : Use = record { input = 0; filling = h } in one) ∷ []) where
  from_first : (number : ℕ) (h : Filling) → number ≡ 0 → Each (UseAnswers inputs clause g) (earlier number h) → IsMarked clause
  from_first number h zeroth each =
      let here : Each (UseAnswers inputs clause g) (earlier 0 h) = subst (λ (n : ℕ). Each (UseAnswers inputs clause g) (earlier n h)) zeroth each in
      let one = subst (Each (UseAnswers inputs clause g)) (earlier_is h) here in
      let answers = one.0 first first_at marked.literal marked.stands marked.answers in
      record { literal = answers.literal; stands = answers.stands; answers = answers.answers }

  from_two : (left : ℕ) (f : Filling) (right : ℕ) (h : Filling) → (left ≡ 0) ⊎ (right ≡ 0) → Each (UseAnswers inputs clause g) (earlier left f ++ earlier right h) → IsMarked clause
  from_two left f right h (inl e) each = from_first left f e (each_left (UseAnswers inputs clause g) (earlier left f) (earlier right h) each)
  from_two left f right h (inr e) each = from_first right h e (each_right (UseAnswers inputs clause g) (earlier left f) (earlier right h) each)

  from_step : (old : List Literals) (step : Step) (raw : Literals) → untidy step old ≡ Some raw → TakesFirst step
      → Each (UseAnswers inputs clause g) (step_uses old earlier step g) → IsMarked clause
  from_step old (Step.Input i) raw is takes each = absurd takes
  from_step old (Step.Resolve left i f right j h) raw is takes each =
      from_two left (via (lookup f.pairs) (turned_back raw g)) right (via (lookup h.pairs) (turned_back raw g)) takes
      (each_of_some (UseAnswers inputs clause g) (untidy (Step.Resolve left i f right j h) old)
      (λ c. earlier left (via (lookup f.pairs) (turned_back c g)) ++ earlier right (via (lookup h.pairs) (turned_back c g))) raw is each)
  from_step old (Step.Factor parent i j f) raw is takes each =
      from_first parent (via (lookup f.pairs) (turned_back raw g)) takes
      (each_of_some (UseAnswers inputs clause g) (untidy (Step.Factor parent i j f) old) (λ c. earlier parent (via (lookup f.pairs) (turned_back c g))) raw is each)
  from_step old (Step.Paramodulate source i flipped f target j path h) raw is takes each =
      let w = through (replacement (Step.Paramodulate source i flipped f target j path h) old) (λ w. Some w.conclusion) raw is in
      from_two source (via (lookup f.pairs) (turned_back w.at.conclusion g)) target (via (lookup h.pairs) (turned_back w.at.conclusion g)) takes
      (each_of_some (UseAnswers inputs clause g) (replacement (Step.Paramodulate source i flipped f target j path h) old)
      (λ v. earlier source (via (lookup f.pairs) (turned_back v.conclusion g)) ++ earlier target (via (lookup h.pairs) (turned_back v.conclusion g))) w.at w.is each)

clause_of_concluded : (inputs old : List Literals) (step : Step) (clause : Literals) → concluded step old ≡ Some clause → clause_of inputs step old ≡ Some clause
clause_of_concluded inputs old (Step.Input i) clause e = absurd (none_some clause e)
clause_of_concluded inputs old (Step.Resolve left i f right j g) clause e = e
clause_of_concluded inputs old (Step.Factor parent i j f) clause e = e
clause_of_concluded inputs old (Step.Paramodulate source i flipped f target j path g) clause e = e

-- a derivation of one step from two inputs, or from one
two_and_one : (first second clause : Literals) (step : Step) → concluded step (first ∷ second ∷ []) ≡ Some clause
    → Derivation (first ∷ second ∷ []) (Step.Input 0 ∷ Step.Input 1 ∷ step ∷ []) (first ∷ second ∷ clause ∷ [])
two_and_one first second clause step e = record { same_length = refl; each = each }
  where
    each : (n : ℕ) → nth (first ∷ second ∷ clause ∷ []) n
        ≡ after (nth (Step.Input 0 ∷ Step.Input 1 ∷ step ∷ []) n) (λ s. clause_of (first ∷ second ∷ []) s (take n (first ∷ second ∷ clause ∷ [])))
    each zero = refl
    each (suc zero) = refl
    each (suc (suc zero)) = sym (clause_of_concluded (first ∷ second ∷ []) (first ∷ second ∷ []) step clause e)
    each (suc (suc (suc n))) = refl

one_and_one : (first clause : Literals) (step : Step) → concluded step (first ∷ []) ≡ Some clause
    → Derivation (first ∷ []) (Step.Input 0 ∷ step ∷ []) (first ∷ clause ∷ [])
one_and_one first clause step e = record { same_length = refl; each = each }
  where
    each : (n : ℕ) → nth (first ∷ clause ∷ []) n
        ≡ after (nth (Step.Input 0 ∷ step ∷ []) n) (λ s. clause_of (first ∷ []) s (take n (first ∷ clause ∷ [])))
    each zero = refl
    each (suc zero) = sym (clause_of_concluded (first ∷ []) (first ∷ []) step clause e)
    each (suc (suc n)) = refl

two_marked : (first second clause : Literals) (step : Step) → concluded step (first ∷ second ∷ []) ≡ Some clause → TakesFirst step → IsMarked first → IsMarked clause
unfolding uses
two_marked first second clause step e takes marked =
    let raw = through (untidy step (first ∷ second ∷ [])) (λ c. Some (tidy c)) clause e in
    let inputs = first ∷ second ∷ [] in
    let steps = Step.Input 0 ∷ Step.Input 1 ∷ step ∷ [] in
    let all = first ∷ second ∷ clause ∷ [] in
    from_step inputs first clause refl marked (lookup []) (uses_within steps all 2) (λ h. refl) (first ∷ second ∷ []) step raw.at raw.is takes
    (answers_stay inputs steps all (two_and_one first second clause step e) 2 clause refl (lookup []))

one_marked : (first clause : Literals) (step : Step) → concluded step (first ∷ []) ≡ Some clause → TakesFirst step → IsMarked first → IsMarked clause
unfolding uses
one_marked first clause step e takes marked =
    let raw = through (untidy step (first ∷ [])) (λ c. Some (tidy c)) clause e in
    let inputs = first ∷ [] in
    let steps = Step.Input 0 ∷ step ∷ [] in
    let all = first ∷ clause ∷ [] in
    from_step inputs first clause refl marked (lookup []) (uses_within steps all 1) (λ h. refl) (first ∷ []) step raw.at raw.is takes
    (answers_stay inputs steps all (one_and_one first clause step e) 1 clause refl (lookup []))

-- where the given clause has an answer literal, so has each conclusion
pub conclusion_marked : (r : Reached) (given partner : ℕ) (list : List Conclusion) (conclusion : Conclusion) → Parents r given partner list → Among conclusion list
    → IsMarked (clause_at (clauses r) given) → IsMarked conclusion.clause
conclusion_marked r given partner list conclusion parents among marked = go parents.are
  where
    first : Literals
    first = clause_at (clauses r) given

    second : Literals
    second = clause_at (clauses r) partner

    go : AreListed (clause_at (clauses r) given) (clause_at (clauses r) partner) given partner list → IsMarked conclusion.clause
    go (inl conclusions) =
        let at = at_site (first ∷ second ∷ []) (conclusion_sites first second (nat_eq given partner)) list conclusions conclusion among in
        let takes = each_at TakesFirst (conclusion_sites first second (nat_eq given partner)) at.site at.among (conclusions_take first second (nat_eq given partner)) in
        two_marked first second conclusion.clause conclusion.step at.is.concludes (site_takes conclusion.step (subst TakesFirst (sym at.is.at) takes)) marked
    go (inr factors) =
        let at = at_site (first ∷ []) (factor_sites first) list factors.0 conclusion among in
        let takes = each_at TakesFirst (factor_sites first) at.site at.among (factors_take first) in
        one_marked first conclusion.clause conclusion.step at.is.concludes (site_takes conclusion.step (subst TakesFirst (sym at.is.at) takes)) marked
