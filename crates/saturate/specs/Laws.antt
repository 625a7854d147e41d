-- Laws of runs.
use Rattle.std.specs.Prelude.{◌≡◌, ◌≢◌, ◌⊎◌, ◌≤◌, ℕ, List, [], ◌∷◌, true}
use Rattle.sigma_base.specs.Lists.{Each}
use Rattle.kif_tree.specs.declared.form.Form.{Form}
use Rattle.kif_tree.specs.declared.clause.InputClause.{InputClause}
use Rattle.kif_tree.specs.Clauses.{Literals}
use Rattle.kif_tree.specs.Subst.{Filling, bind}
use Rattle.calculus.specs.Equality.{yes, no}
use Rattle.calculus.specs.Answers.{Among, answer_atom}
use Rattle.clause_form.specs.Sentences.{IsQueryClause}
use Rattle.unify.specs.ClauseSets.{IsClauseSet}
use Rattle.unify.specs.Subsumption.{Subsumes}
use Rattle.infer.specs.Checks.{clauses_of}
use Rattle.saturate.specs.declared.ended.Ended.{Ended}
use Rattle.saturate.specs.declared.ended.Ended.TheVariants as ended
use Rattle.saturate.specs.declared.limits.Limits.{Limits}
use Rattle.saturate.specs.declared.limits.Mode.TheVariants.{Support}
use Rattle.saturate.specs.declared.reached.Reached.{Reached}
use Rattle.saturate.specs.Covered.{is_tautology}
use Rattle.saturate.specs.Inputs.{search_inputs}
use Rattle.saturate.specs.Runs.{Runs}
use Rattle.saturate.specs.Alike.{AreAlike}
use Rattle.saturate.specs.Ends.{EndHolds, IsSound}

-- clauses of a query as a search takes them
abbrev pub AreQueryClauses : ℕ → List Literals → Type 0
AreQueryClauses asked query = Each (IsQueryClause asked) query

-- what a search begins with: a set of axioms and the clauses of a query
pub record AreSearchInputs (inputs : List InputClause) : Type 0 where
  pub set : List InputClause
  pub is_set : IsClauseSet set
  pub asked : ℕ
  pub query : List Literals
  pub are_query : AreQueryClauses asked query
  pub are : inputs ≡ search_inputs set query

-- two runs from the same inputs within the same limits take the same turns, end alike, and differ in the names of variables inside
-- substitutions alone
abbrev pub OneRun : Type 0
OneRun = (inputs : List InputClause) (limits : Limits) (first_turns second_turns : ℕ) (first second : Reached) (first_end second_end : Ended)
    → Runs inputs limits first_turns first first_end → Runs inputs limits second_turns second second_end
    → AreAlike first second × (first_turns ≡ second_turns) × (first_end ≡ second_end)

-- the steps of a run derive its clauses
abbrev pub RunsAreSound : Type 0
RunsAreSound = (inputs : List InputClause) (limits : Limits) (turns : ℕ) (r : Reached) (end : Ended) → Runs inputs limits turns r end → IsSound r

-- the end of a run means what is said of it
abbrev pub EndsHold : Type 0
EndsHold = (inputs : List InputClause) (limits : Limits) (turns : ℕ) (r : Reached) (end : Ended)
    → AreSearchInputs inputs → 1 ≤ limits.answers → 1 ≤ limits.kept → Runs inputs limits turns r end → EndHolds limits turns r end

-- the atom and what the clause asserts become equal, each by a filling of its own
pub record UnifiesApart (first second : Form) : Type 0 where
  pub left : Filling
  pub right : Filling
  pub equal : bind left first ≡ bind right second

-- A query of one atom, in support mode: where a clause with which the search begins is one positive literal that unifies with the
-- atom, something is found, or the search ends crowded.
abbrev pub UnitsAnswer : Type 0
UnitsAnswer = (inputs : List InputClause) (limits : Limits) (turns : ℕ) (r : Reached) (end : Ended)
    (set : List InputClause) (asked : ℕ) (atom : Form) (arguments : List Form) (unit : Form)
    → IsClauseSet set → IsQueryClause asked (no atom ∷ yes (answer_atom arguments) ∷ [])
    → inputs ≡ search_inputs set ((no atom ∷ yes (answer_atom arguments) ∷ []) ∷ [])
    → limits.mode ≡ Support → 1 ≤ limits.turns
    → Among (yes unit ∷ []) (clauses_of inputs) → UnifiesApart atom unit
    → Runs inputs limits turns r end → (r.found ≢ []) ⊎ (end ≡ ended.Crowded)

-- ---- subsumption

abbrev pub SubsumptionIsReflexive : Type 0
SubsumptionIsReflexive = (clause : Literals) → Subsumes clause clause

abbrev pub SubsumptionIsTransitive : Type 0
SubsumptionIsTransitive = (first second third : Literals) → Subsumes first second → Subsumes second third → Subsumes first third

-- a tautology subsumes tautologies alone
abbrev pub TautologiesSubsume : Type 0
TautologiesSubsume = (first second : Literals) → Subsumes first second → is_tautology first ≡ true → is_tautology second ≡ true
