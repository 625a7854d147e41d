-- Laws of outcomes and refusals.
use Rattle.std.specs.Prelude.{◌≡◌, ◌≢◌, ◌⊎◌, ℕ, List, [], ◌∷◌, Option, Some, None, Result, Ok, Err}
use Rattle.kif_tree.specs.declared.form.Form.{Form}
use Rattle.kif_tree.specs.declared.place.LoadName.{LoadName}
use Rattle.kif_tree.specs.declared.clause.InputClause.{InputClause}
use Rattle.kif_tree.specs.Terms.{Bytes}
use Rattle.calculus.specs.Answers.{Among, answer_atom}
use Rattle.calculus.specs.Equality.{yes, no}
use Rattle.unify.specs.ClauseSets.{IsClauseSet}
use Rattle.infer.specs.Checks.{clauses_of}
use Rattle.infer.specs.Laws.{EachTwo}
use Rattle.clause_form.specs.declared.query.QueryClauses.{QueryClauses}
use Rattle.clause_form.specs.declared.query.QueryError.{QueryError}
use Rattle.clause_form.specs.declared.query.QueryError.TheVariants as no_query
use Rattle.clause_form.specs.Queries.{IsQueryAnswer}
use Rattle.saturate.specs.declared.ended.Ended.{Ended}
use Rattle.saturate.specs.declared.ended.Ended.TheVariants as ended
use Rattle.saturate.specs.declared.limits.Limits.{Limits}
use Rattle.saturate.specs.declared.limits.Mode.TheVariants.{Support}
use Rattle.saturate.specs.Alike.{AreSameSteps}
use Rattle.saturate.specs.Laws.{UnifiesApart}
use Rattle.saturate.specs.declared.reached.Reached.{Reached}
use Rattle.saturate.specs.Inputs.{search_inputs}
use Rattle.saturate.specs.Limits.{checked}
use Rattle.saturate.specs.Runs.{Runs}
use Rattle.answers.specs.declared.outcome.Answer.{Answer}
use Rattle.answers.specs.declared.outcome.Outcome.{Outcome}
use Rattle.answers.specs.declared.proof.Proof.{Proof}
use Rattle.answers.specs.declared.question.AskError.{AskError}
use Rattle.answers.specs.declared.question.AskError.TheVariants as errors
use Rattle.answers.specs.Pages.{page}
use Rattle.answers.specs.Proofs.{clauses_in}
use Rattle.answers.specs.Outcomes.{IsOutcomeOf}
use Rattle.answers.specs.Questions.{IsAsked, IsRefused, IsProved, HasEnd}

-- the same lines, by steps that differ in the names of variables inside substitutions alone
pub record AreAlikeProofs (first second : Proof) : Type 0 where
  pub lines : first.lines ≡ second.lines
  pub steps : EachTwo (AreSameSteps (clauses_in first)) first.steps second.steps

pub record AreAlikeAnswers (first second : Answer) : Type 0 where
  pub bindings : first.bindings ≡ second.bindings
  pub proofs : AreAlikeProofs first.proof second.proof

abbrev pub AreAlikeIfThere : Option Proof → Option Proof → Type 0
AreAlikeIfThere None None = Unit {0}
AreAlikeIfThere (Some first) (Some second) = AreAlikeProofs first second
AreAlikeIfThere _ _ = ⊥

pub record AreAlikeOutcomes (first second : Outcome) : Type 0 where
  pub inputs : first.inputs ≡ second.inputs
  pub asked : first.asked ≡ second.asked
  pub answers : EachTwo AreAlikeAnswers first.answers second.answers
  pub contradiction : AreAlikeIfThere first.contradiction second.contradiction
  pub ended : first.ended ≡ second.ended
  pub turns : first.turns ≡ second.turns

-- the outcome is a function of set, query and limits, but for the names of variables inside substitutions
abbrev pub OneOutcome : Type 0
OneOutcome = (set : List InputClause) (text : Bytes) (limits : Limits) (first second : Outcome)
    → IsAsked set text limits first → IsAsked set text limits second → AreAlikeOutcomes first second

-- and so is its page
abbrev pub OnePage : Type 0
OnePage = (names : List LoadName) (first second : Outcome) → AreAlikeOutcomes first second → page names first ≡ page names second

-- each run of the search has an outcome, and it is alike
abbrev pub EveryRunAnswers : Type 0
EveryRunAnswers = (set : List InputClause) (text : Bytes) (limits : Limits) (outcome : Outcome) (query : QueryClauses) (turns : ℕ) (r : Reached) (end : Ended)
    → IsAsked set text limits outcome → IsQueryAnswer text (Ok query) → Runs (search_inputs set query.clauses) limits turns r end
    → (other : Outcome) × IsOutcomeOf query.asked turns r end other × AreAlikeOutcomes outcome other

-- the end that is told means what is said of it
abbrev pub OutcomesEnd : Type 0
OutcomesEnd = (set : List InputClause) (text : Bytes) (limits : Limits) (outcome : Outcome)
    → IsClauseSet set → IsAsked set text limits outcome → HasEnd set text limits outcome

-- whatever the run, what is shown is proved
abbrev pub OutcomesAreProved : Type 0
OutcomesAreProved = (set : List InputClause) (text : Bytes) (limits : Limits) (outcome : Outcome)
    → IsClauseSet set → IsAsked set text limits outcome → IsProved set text outcome

-- A query of one atom, in support mode: where one clause of the set, or reflexivity where it takes part, is one positive literal that
-- unifies with the atom, an answer is shown, or the search ends crowded.
abbrev pub UnitsAnswer : Type 0
UnitsAnswer = (set : List InputClause) (text : Bytes) (limits : Limits) (outcome : Outcome)
    (query : QueryClauses) (atom : Form) (arguments : List Form) (unit : Form)
    → IsClauseSet set → IsQueryAnswer text (Ok query) → query.clauses ≡ (no atom ∷ yes (answer_atom arguments) ∷ []) ∷ []
    → limits.mode ≡ Support → Among (yes unit ∷ []) (clauses_of (search_inputs set query.clauses)) → UnifiesApart atom unit
    → IsAsked set text limits outcome → (outcome.answers ≢ []) ⊎ (outcome.ended ≡ ended.Crowded)

-- ---- what refuses a question

-- a text is one query at most, with its clauses and the variables that it asks for, or is none for one reason at most, and not both
abbrev pub OneQueryAnswer : Type 0
OneQueryAnswer = (text : Bytes) (first second : Result QueryClauses QueryError) → IsQueryAnswer text first → IsQueryAnswer text second → first ≡ second

-- want of memory is no such reason
abbrev pub MemoryIsNoQueryAnswer : Type 0
MemoryIsNoQueryAnswer = (text : Bytes) → IsQueryAnswer text (Err no_query.NoMemory) → ⊥

-- a good query within the limits is refused for want of memory alone
abbrev pub GoodIsRefusedForMemory : Type 0
GoodIsRefusedForMemory = (text : Bytes) (limits : Limits) (query : QueryClauses) (error : AskError)
    → checked limits ≡ Ok tt → IsQueryAnswer text (Ok query) → IsRefused text limits error → error ≡ errors.NoMemory

-- and so is a question that has an outcome
abbrev pub AskedIsRefusedForMemory : Type 0
AskedIsRefusedForMemory = (set : List InputClause) (text : Bytes) (limits : Limits) (outcome : Outcome) (error : AskError)
    → IsAsked set text limits outcome → IsRefused text limits error → error ≡ errors.NoMemory
