-- Whatever the run: each answer that is shown is proved, and so is a contradiction.
use Rattle.std.proofs.Common.{◌≡◌, ◌≢◌, ℕ, ◌+◌, List, [], ◌∷◌, ◌++◌, map, length, take, true, Option, Some, None, refl, sym, ap, ap₂, ◌∙◌, subst, arith, append_assoc}
use Rattle.std.proofs.lemmas.List.{length-append}
use Rattle.std.specs.List.{list_all}
use Rattle.sigma_base.specs.Lists.{Each}
use Rattle.kif_tree.specs.declared.form.Form.{Form}
use Rattle.kif_tree.specs.declared.subst.Pair.{Pair}
use Rattle.kif_tree.specs.declared.clause.InputClause.{InputClause}
use Rattle.kif_tree.specs.declared.place.Place.{Place}
use Rattle.kif_tree.specs.Terms.{Bytes, has_no_row}
use Rattle.kif_tree.specs.Subst.{value_of}
use Rattle.kif_tree.specs.Clauses.{Literals, is_answer}
use Rattle.calculus.specs.declared.step.Step.{Step}
use Rattle.calculus.specs.Rules.{after, nth, clause_of, Derivation}
use Rattle.calculus.specs.Closed.{clean_pairs, clean_in, rowless_clause}
use Rattle.calculus.specs.Evidence.{evidence}
use Rattle.calculus.specs.Answers.{IsSearchInput, HasAnswer, IsEvidenceFor}
use Rattle.calculus.specs.Proper.{has_word_heads}
use Rattle.calculus.proofs.TruthLaws.{both}
use Rattle.calculus.proofs.PlaceLaws.{none_some, some_same, through}
use Rattle.calculus.proofs.ClosedLaws.{joined_true}
use Rattle.calculus.proofs.MemberLaws.{each_at}
use Rattle.calculus.proofs.InstanceLaws.{nth-among}
use Rattle.calculus.proofs.VariableLaws.{ground_pairs_close}
use Rattle.calculus.proofs.QueryLaws.{query_evidence, contradiction_evidence}
use Rattle.clause_form.specs.declared.query.QueryClauses.{QueryClauses}
use Rattle.unify.specs.Unifiers.{ArePlain}
use Rattle.unify.specs.ClauseSets.{IsClauseSet}
use Rattle.infer.specs.Checks.{clauses_of}
use Rattle.infer.specs.Conclusions.{clause_at}
use Rattle.infer.specs.Plain.{IsPlainStep}
use Rattle.saturate.specs.declared.ended.Ended.{Ended}
use Rattle.saturate.specs.declared.ended.Ended.TheVariants as ended
use Rattle.saturate.specs.declared.limits.Limits.{Limits}
use Rattle.saturate.specs.declared.reached.Reached.{Reached}
use Rattle.saturate.specs.Inputs.{search_inputs}
use Rattle.saturate.specs.Runs.{clauses}
use Rattle.saturate.specs.Ends.{EndHolds, IsFound, IsSound}
use Rattle.saturate.specs.Laws.{RunsAreSound, EndsHold}
use Rattle.saturate.proofs.StepLaws.{nth-last}
use Rattle.answers.specs.declared.outcome.Answer.{Answer}
use Rattle.answers.specs.declared.outcome.Outcome.{Outcome}
use Rattle.answers.specs.declared.proof.ProofLine.{ProofLine}
use Rattle.answers.specs.declared.proof.Proof.{Proof}
use Rattle.answers.specs.Proofs.{place_among, renumbered, place_of, line_of, IsProofOf, clauses_in, AreClosed}
use Rattle.answers.specs.Outcomes.{bindings_of, Correspond, IsAnswerOf, IsContradictionOf}
use Rattle.answers.specs.Questions.{IsAsked, IsCited, AreCited, AreShown, IsDerivation, EndsIn, names_of, answer_literal, IsProvedAnswer, IsProvedContradiction, IsProvedIfThere, IsProved, HasEnd}
use Rattle.answers.specs.Laws.{OutcomesAreProved, OutcomesEnd}
use Rattle.answers.proofs.RestLaws.{HasItem, rests_there, rests_itself, rests_last, rests_closed, follows}
use Rattle.answers.proofs.DerivationLaws.{nth_map, nth_made, length_made, clause_there, steps_there, chosen_derivation, parent_chosen, lines_show, plain_steps}
use Rattle.answers.proofs.ShownLaws.{derived_shaped, clause_shown, names_shown, some_shown, filled_shown, all_shown}
use Rattle.answers.proofs.SearchLaws.{IsInputOf, inputs_of, have_answers, each_clause, all_clauses, run_inputs}
use Rattle.answers.proofs.QuestionLaws.{asked_clauses, checked_some}

-- ---- plain steps have no row variable

clean_plain : (pairs : List Pair) → ArePlain pairs → clean_pairs pairs ≡ true
clean_plain [] plain = refl
clean_plain (pair ∷ pairs) plain =
    joined_true (has_no_row pair.term) (clean_pairs pairs) (both (has_no_row pair.term) (has_word_heads pair.term) plain.0).0 (clean_plain pairs plain.1)

clean_step : (step : Step) → IsPlainStep step → clean_in step ≡ true
clean_step (Step.Input i) plain = refl
clean_step (Step.Resolve left i f right j g) plain = joined_true (clean_pairs f.pairs) (clean_pairs g.pairs) (clean_plain f.pairs plain.0) (clean_plain g.pairs plain.1)
clean_step (Step.Factor parent i j f) plain = clean_plain f.pairs plain
clean_step (Step.Paramodulate source i flipped f target j path g) plain = joined_true (clean_pairs f.pairs) (clean_pairs g.pairs) (clean_plain f.pairs plain.0) (clean_plain g.pairs plain.1)

clean_steps : (steps : List Step) → Each IsPlainStep steps → list_all clean_in steps ≡ true
clean_steps [] plain = refl
clean_steps (step ∷ steps) plain = joined_true (clean_in step) (list_all clean_in steps) (clean_step step plain.0) (clean_steps steps plain.1)

-- ---- one proof

module _ (set : List InputClause) (query : QueryClauses) (inputs : List InputClause) (are : Each (IsInputOf set query.clauses (length query.asked)) inputs)
    (asks : Each HasAnswer query.clauses) (steps : List Step) (clauses : List Literals) (derivation : Derivation (clauses_of inputs) steps clauses) (plain : Each IsPlainStep steps) where
  -- a step that shows a place is the input of an axiom
  cited_step : (numbers : List ℕ) (step : Step) (before : List Literals) (clause shown : Literals) (place : Place) → clause_of (clauses_of inputs) step before ≡ Some clause → shown ≡ clause
      → place_of inputs (renumbered numbers step) ≡ Some place → IsCited set inputs (renumbered numbers step) (line_of inputs (renumbered numbers step) shown) place
  cited_step numbers (Step.Input i) before clause shown place concludes same placed =
      let input = through (nth inputs i) (λ (input : InputClause). input.place) place placed in
      let there : nth (clauses_of inputs) i ≡ Some input.at.clause =
      nth_map (λ (input : InputClause). input.clause) inputs i ∙ ap (λ (o : Option InputClause). after o (λ (input : InputClause). Some input.clause)) input.is in
      record {
        number = i;
        is_input = refl;
        input = input.at;
        among = (each_at (IsInputOf set query.clauses (length query.asked)) inputs input.at (nth-among inputs i input.at input.is) are).cited place input.gives;
        stands = input.is;
        placed = input.gives;
        clause = same ∙ some_same clause input.at.clause (sym concludes ∙ there);
      }
  cited_step numbers (Step.Resolve left i f right j g) before clause shown place concludes same placed = absurd (none_some place placed)
  cited_step numbers (Step.Factor parent i j f) before clause shown place concludes same placed = absurd (none_some place placed)
  cited_step numbers (Step.Paramodulate source i flipped f target j path g) before clause shown place concludes same placed = absurd (none_some place placed)

  module _ (number : ℕ) (clause : Literals) (is : nth clauses number ≡ Some clause) (shown : Proof) (proves : IsProofOf inputs steps clauses number shown) where
    has : HasItem clauses number
    has = record { item = clause; at = is }

    there : Each (HasItem clauses) proves.numbers
    there = rests_there (clauses_of inputs) steps clauses derivation number has proves.numbers proves.rests

    closed : AreClosed steps proves.numbers
    closed = rests_closed steps number proves.numbers proves.rests

    stand : Each (HasItem steps) proves.numbers
    stand = steps_there inputs steps clauses derivation proves.numbers closed there

    shows : clauses_in shown ≡ map (clause_at clauses) proves.numbers
    shows = ap (λ (lines : List ProofLine). map (λ (line : ProofLine). line.clause) lines) proves.lines_are ∙ lines_show inputs steps clauses proves.numbers proves.numbers stand

    derives : Derivation (clauses_of inputs) shown.steps (clauses_in shown)
    derives = subst (λ (list : List Literals). Derivation (clauses_of inputs) shown.steps list) (sym shows)
        (subst (λ (list : List Step). Derivation (clauses_of inputs) list (map (clause_at clauses) proves.numbers)) (sym proves.steps_are)
        (chosen_derivation inputs steps clauses derivation proves.numbers closed there))

    plain_shown : Each IsPlainStep shown.steps
    plain_shown = subst (Each IsPlainStep) (sym proves.steps_are) (plain_steps steps proves.numbers plain)

    -- the number of a step, with the step and the line that come of it
    record IsMade (step : Step) (line : ProofLine) : Type 0 where
      from : ℕ
      item : Literals
      stands : nth clauses from ≡ Some item
      before : Step
      concludes : clause_of (clauses_of inputs) before (take from clauses) ≡ Some item
      step_is : renumbered proves.numbers before ≡ step
      line_is : line_of inputs (renumbered proves.numbers before) (clause_at clauses from) ≡ line

    made_from : (n : ℕ) (step : Step) (line : ProofLine) → nth shown.steps n ≡ Some step → nth shown.lines n ≡ Some line → IsMade step line
    made_from n step line at_step at_line =
        let steps_at_n = sym (nth_made steps (λ number step. renumbered proves.numbers step) proves.numbers stand n) ∙ ap (λ (list : List Step). nth list n) (sym proves.steps_are) ∙ at_step in
        let lines_at_n = sym (nth_made steps (λ number step. line_of inputs (renumbered proves.numbers step) (clause_at clauses number)) proves.numbers stand n)
        ∙ ap (λ (list : List ProofLine). nth list n) (sym proves.lines_are) ∙ at_line in
        let m = through (nth proves.numbers n) (λ number. after (nth steps number) (λ step. Some (renumbered proves.numbers step))) step steps_at_n in
        let item = each_at (HasItem clauses) proves.numbers m.at (nth-among proves.numbers n m.at m.is) there in
        let f = follows (clauses_of inputs) steps clauses derivation m.at item.item item.at in
        record {
          from = m.at;
          item = item.item;
          stands = item.at;
          before = f.step;
          concludes = f.concludes;
          step_is = some_same (renumbered proves.numbers f.step) step (sym (ap (λ (o : Option Step). after o (λ step. Some (renumbered proves.numbers step))) f.at) ∙ m.gives);
          line_is = some_same (line_of inputs (renumbered proves.numbers f.step) (clause_at clauses m.at)) line
              (sym (ap (λ (o : Option Step). after o (λ step. Some (line_of inputs (renumbered proves.numbers step) (clause_at clauses m.at)))) f.at)
              ∙ sym (ap (λ (o : Option ℕ). after o (λ number. after (nth steps number) (λ step. Some (line_of inputs (renumbered proves.numbers step) (clause_at clauses number))))) m.is) ∙ lines_at_n);
        }

    shows_steps : AreShown inputs shown
    shows_steps n step line at_step at_line =
        let a = made_from n step line at_step at_line in
        sym a.line_is ∙ ap₂ (λ (s : Step) (clause : Literals). line_of inputs s clause) a.step_is (ap (λ (l : ProofLine). l.clause) a.line_is)

    cited : AreCited set inputs shown
    cited n step line place at_step at_line placed =
        let a = made_from n step line at_step at_line in
        subst (λ (s : Step). IsCited set inputs s line place) a.step_is
        (subst (λ (l : ProofLine). IsCited set inputs (renumbered proves.numbers a.before) l place) a.line_is
        (cited_step proves.numbers a.before (take a.from clauses) a.item (clause_at clauses a.from) place a.concludes (clause_there clauses a.from a.item a.stands)
        (ap (λ (l : ProofLine). l.place) a.line_is ∙ placed)))

    pub derivation_of : IsDerivation set inputs shown
    derivation_of = record { derives = derives; plain = plain_shown; shown = shows_steps; cited = cited }

    pub ends_in : EndsIn shown clause
    ends_in = record {
      number = place_among proves.numbers number;
      last = ap length proves.lines_are ∙ length_made steps (λ number step. line_of inputs (renumbered proves.numbers step) (clause_at clauses number)) proves.numbers stand
          ∙ rests_last (clauses_of inputs) steps clauses derivation number has proves.numbers proves.rests;
      concludes = ap (λ (list : List Literals). nth list (place_among proves.numbers number)) shows
          ∙ parent_chosen inputs steps clauses derivation proves.numbers closed there number clause
          (rests_itself (clauses_of inputs) steps clauses derivation number has proves.numbers proves.rests) is;
    }

  searched : Each (IsSearchInput (clauses_of set) query.clauses) (clauses_of inputs)
  searched = each_clause (IsSearchInput (clauses_of set) query.clauses) (IsInputOf set query.clauses (length query.asked)) (λ input i. i.searched) inputs are

  rowless : list_all rowless_clause (clauses_of inputs) ≡ true
  rowless = all_clauses rowless_clause (IsInputOf set query.clauses (length query.asked)) (λ input i. i.rowless) inputs are

  -- ---- answers

  pub proved_answer : (number : ℕ) (clause : Literals) → nth clauses number ≡ Some clause → clause ≢ [] → list_all (λ literal. is_answer literal.atom) clause ≡ true
      → (answer : Answer) → answer.bindings ≡ bindings_of query.asked (clause_at clauses number) → IsProofOf inputs steps clauses number answer.proof
      → IsProvedAnswer set inputs query answer
  proved_answer number clause is some alone answer bindings proves =
      let shaped = derived_shaped (length query.asked) (clauses_of inputs)
      (each_clause _ (IsInputOf set query.clauses (length query.asked)) (λ input i. i.shaped) inputs are) steps clauses derivation number clause is in
      let bindings_are : answer.bindings ≡ bindings_of query.asked clause = bindings ∙ ap (bindings_of query.asked) (clause_there clauses number clause is) in
      let whole : map answer_literal answer.bindings ≡ clause = ap (λ bs. map answer_literal bs) bindings_are ∙ clause_shown query.asked clause shaped alone in
      let at : nth clauses number ≡ Some (map answer_literal answer.bindings) = is ∙ ap Some (sym whole) in
      let shown = derivation_of number (map answer_literal answer.bindings) at answer.proof proves in
      let end = ends_in number (map answer_literal answer.bindings) at answer.proof proves in
      record {
        some = λ none. some_shown query.asked clause some (sym bindings_are ∙ none);
        asked = subst (λ bs. Each (λ binding. names_of binding ≡ query.asked) bs) (sym bindings_are) (names_shown query.asked clause shaped alone);
        derivation = shown;
        ends = end;
        proves = λ pairs ground.
            subst (λ (values : List (List Form)). IsEvidenceFor (clauses_of set) query.clauses values (evidence (clauses_of inputs) answer.proof.steps (clauses_in answer.proof) end.number (value_of pairs)))
            (filled_shown (value_of pairs) answer.bindings)
            (query_evidence (clauses_of set) query.clauses (clauses_of inputs) answer.proof.steps (clauses_in answer.proof) shown.derives searched asks rowless
            (clean_steps answer.proof.steps shown.plain) end.number (map answer_literal answer.bindings) end.concludes (all_shown answer.bindings)
            (value_of pairs) (ground_pairs_close pairs ground));
      }

  pub proved_contradiction : (number : ℕ) → nth clauses number ≡ Some [] → (shown : Proof) → IsProofOf inputs steps clauses number shown → IsProvedContradiction set inputs shown
  proved_contradiction number is shown proves =
      let d = derivation_of number [] is shown proves in
      let end = ends_in number [] is shown proves in
      record {
        derivation = d;
        ends = end;
        proves = λ pairs ground.
            contradiction_evidence (clauses_of set) query.clauses (clauses_of inputs) shown.steps (clauses_in shown) d.derives searched asks rowless
            (clean_steps shown.steps d.plain) end.number end.concludes (value_of pairs) (ground_pairs_close pairs ground);
      }

-- ---- an outcome

nth_last : {X : Type 0} (xs : List X) (x : X) (n : ℕ) → length (xs ++ x ∷ []) ≡ n + 1 → nth (xs ++ x ∷ []) n ≡ Some x
nth_last xs x n e =
    let many = length-append xs (x ∷ []) in
    subst (λ k. nth (xs ++ x ∷ []) k ≡ Some x) (let same : length xs ≡ n = omega (arith, e, many) in same) (nth-last xs x)

each_answer : (P : ℕ → Type 0) (R : ℕ → Answer → Type 0) (Q : Answer → Type 0) → ((number : ℕ) (answer : Answer) → P number → R number answer → Q answer)
    → (numbers : List ℕ) (answers : List Answer) → Each P numbers → Correspond R numbers answers → Each Q answers
each_answer P R Q h [] [] each both = tt
each_answer P R Q h [] (answer ∷ answers) each both = absurd both
each_answer P R Q h (number ∷ numbers) [] each both = absurd both
each_answer P R Q h (number ∷ numbers) (answer ∷ answers) each both = (h number answer each.0 both.0, each_answer P R Q h numbers answers each.1 both.1)

module _ (set : List InputClause) (query : QueryClauses) (r : Reached) (are : Each (IsInputOf set query.clauses (length query.asked)) r.inputs)
    (asks : Each HasAnswer query.clauses) (sound : IsSound r) where
  proved_found : (number : ℕ) (answer : Answer) → IsFound r number → IsAnswerOf query.asked r number answer → IsProvedAnswer set r.inputs query answer
  proved_found number answer found shows =
      proved_answer set query r.inputs are asks r.steps (clauses r) sound.derivation sound.plain number found.clause found.at found.asserts found.alone answer shows.bindings shows.proof

  proved_answers : (answers : List Answer) → Correspond (IsAnswerOf query.asked r) r.found answers → Each (IsProvedAnswer set r.inputs query) answers
  proved_answers answers both = each_answer (IsFound r) (IsAnswerOf query.asked r) (IsProvedAnswer set r.inputs query) proved_found r.found answers sound.found both

  no_contradiction : (found : Option Proof) → found ≡ None → IsProvedIfThere set r.inputs found
  no_contradiction found none = subst (IsProvedIfThere set r.inputs) (sym none) tt

  proved_end : (limits : Limits) (turns : ℕ) (end : Ended) (found : Option Proof) → EndHolds limits turns r end → IsContradictionOf r end found → IsProvedIfThere set r.inputs found
  proved_end limits turns ended.Contradiction found holds shows =
      let earlier = clauses_of r.inputs ++ holds.earlier in
      let whole : clauses r ≡ earlier ++ [] ∷ [] = ap (λ (list : List Literals). clauses_of r.inputs ++ list) holds.last ∙ sym (append_assoc (clauses_of r.inputs) holds.earlier ([] ∷ [])) in
      let many : length (earlier ++ [] ∷ []) ≡ shows.number + 1 = ap length (sym whole) ∙ sound.derivation.same_length ∙ shows.last in
      let last : nth (clauses r) shows.number ≡ Some [] = ap (λ (list : List Literals). nth list shows.number) whole ∙ nth_last earlier [] shows.number many in
      subst (IsProvedIfThere set r.inputs) (sym shows.is)
      (proved_contradiction set query r.inputs are asks r.steps (clauses r) sound.derivation sound.plain shows.number last shows.proof shows.proves)
  proved_end limits turns ended.Enough found holds shows = no_contradiction found shows
  proved_end limits turns ended.Saturated found holds shows = no_contradiction found shows
  proved_end limits turns ended.Deep found holds shows = no_contradiction found shows
  proved_end limits turns ended.Spent found holds shows = no_contradiction found shows
  proved_end limits turns ended.Crowded found holds shows = no_contradiction found shows

module _ (set : List InputClause) (text : Bytes) (limits : Limits) (outcome : Outcome) (is_set : IsClauseSet set) (asked : IsAsked set text limits outcome) where
  end_holds : EndsHold → EndHolds limits asked.turns asked.reached asked.end
  end_holds ends_hold =
      let some = checked_some limits asked.within in
      ends_hold (search_inputs set asked.query.clauses) limits asked.turns asked.reached asked.end
      (record { set = set; is_set = is_set; asked = length asked.query.asked; query = asked.query.clauses; are_query = asked_clauses text asked.query asked.is_query; are = refl })
      some.answers some.kept asked.runs

  outcome_ends : EndsHold → HasEnd set text limits outcome
  outcome_ends ends_hold = record {
    asked = asked;
    means = subst (λ (end : Ended). EndHolds limits outcome.turns asked.reached end) (sym asked.shows.ends)
        (subst (λ (turns : ℕ). EndHolds limits turns asked.reached asked.end) (sym asked.shows.counted) (end_holds ends_hold));
  }

  outcome_proved : RunsAreSound → EndsHold → IsProved set text outcome
  outcome_proved runs_sound ends_hold =
      let query = asked.query in
      let r = asked.reached in
      let count = length query.asked in
      let clauses_are = asked_clauses text query asked.is_query in
      let inputs = search_inputs set query.clauses in
      let stay = run_inputs inputs limits asked.turns r asked.end asked.runs in
      let are = subst (Each (IsInputOf set query.clauses count)) (sym stay) (inputs_of set is_set query.clauses count clauses_are) in
      let asks = have_answers count query.clauses clauses_are in
      let sound = runs_sound inputs limits asked.turns r asked.end asked.runs in
      record {
        query = query;
        is_query = asked.is_query;
        answers = subst (λ (list : List InputClause). Each (IsProvedAnswer set list query) outcome.answers) (sym asked.shows.inputs)
            (proved_answers set query r are asks sound outcome.answers asked.shows.answers);
        contradiction = subst (λ (list : List InputClause). IsProvedIfThere set list outcome.contradiction) (sym asked.shows.inputs)
            (proved_end set query r are asks sound limits asked.turns asked.end outcome.contradiction (end_holds ends_hold) asked.shows.contradiction);
      }

pub outcomes_are_proved : RunsAreSound → EndsHold → OutcomesAreProved
outcomes_are_proved runs_sound ends_hold set text limits outcome is_set asked = outcome_proved set text limits outcome is_set asked runs_sound ends_hold

pub outcomes_end : EndsHold → OutcomesEnd
outcomes_end ends_hold set text limits outcome is_set asked = outcome_ends set text limits outcome is_set asked ends_hold
