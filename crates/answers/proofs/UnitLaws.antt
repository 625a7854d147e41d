-- A query of one atom is answered where an axiom of one positive literal unifies with it, if runs find something there.
use Rattle.std.proofs.Common.{◌≡◌, ◌≢◌, ◌⊎◌, inl, inr, ℕ, List, [], ◌∷◌, length, refl, ap, ◌∙◌, subst}
use Rattle.sigma_base.specs.Lists.{Each}
use Rattle.calculus.specs.Equality.{yes, no}
use Rattle.calculus.specs.Answers.{answer_atom}
use Rattle.clause_form.specs.declared.query.QueryClauses.{QueryClauses}
use Rattle.clause_form.specs.Sentences.{IsQueryClause}
use Rattle.saturate.specs.declared.ended.Ended.TheVariants as ended
use Rattle.saturate.specs.Inputs.{search_inputs}
use Rattle.saturate.specs.Runs.{Runs}
use Rattle.saturate.specs.Laws as searches
use Rattle.answers.specs.declared.outcome.Answer.{Answer}
use Rattle.answers.specs.Outcomes.{Correspond}
use Rattle.answers.specs.Laws.{UnitsAnswer}
use Rattle.answers.proofs.QuestionLaws.{asked_clauses, checked_some}
use Rattle.answers.proofs.RefusalLaws.{one_query}

none_found : (R : ℕ → Answer → Type 0) (numbers : List ℕ) (answers : List Answer) → Correspond R numbers answers → answers ≡ [] → numbers ≡ []
none_found R [] answers both none = refl
none_found R (number ∷ numbers) [] both none = absurd both
none_found R (number ∷ numbers) (answer ∷ answers) both none = absurd (let e : answer ∷ answers ≡ [] = none in cc)

pub units_answer : searches.UnitsAnswer → UnitsAnswer
units_answer find set text limits outcome query atom arguments unit is_set is_query clauses support among apart asked =
    let clause = no atom ∷ yes (answer_atom arguments) ∷ [] in
    let same : asked.query ≡ query = one_query text asked.query query asked.is_query is_query in
    let runs : Runs (search_inputs set query.clauses) limits asked.turns asked.reached asked.end =
    subst (λ (q : QueryClauses). Runs (search_inputs set q.clauses) limits asked.turns asked.reached asked.end) same asked.runs in
    let each : Each (IsQueryClause (length query.asked)) (clause ∷ []) = subst (Each (IsQueryClause (length query.asked))) clauses (asked_clauses text query is_query) in
    let some = checked_some limits asked.within in
    go (find (search_inputs set query.clauses) limits asked.turns asked.reached asked.end set (length query.asked) atom arguments unit
    is_set each.0 (ap (search_inputs set) clauses) support some.turns among apart runs)
  where
    go : (asked.reached.found ≢ []) ⊎ (asked.end ≡ ended.Crowded) → (outcome.answers ≢ []) ⊎ (outcome.ended ≡ ended.Crowded)
    go (inl some) = inl (λ none. some (none_found _ asked.reached.found outcome.answers asked.shows.answers none))
    go (inr crowded) = inr (asked.shows.ends ∙ crowded)
