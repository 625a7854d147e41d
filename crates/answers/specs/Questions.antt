-- What a question gets: an outcome, or why it is refused; and what an outcome promises.
use Rattle.std.specs.Prelude.{◌≡◌, ◌≢◌, ℕ, ◌+◌, List, [], map, length, Option, Some, None, Ok, Err}
use Rattle.sigma_base.specs.Lists.{Each}
use Rattle.kif_tree.specs.declared.form.Form.{Form}
use Rattle.kif_tree.specs.declared.subst.Pair.{Pair}
use Rattle.kif_tree.specs.declared.place.Place.{Place}
use Rattle.kif_tree.specs.declared.clause.InputClause.{InputClause}
use Rattle.kif_tree.specs.declared.clause.Literal.{Literal}
use Rattle.kif_tree.specs.Terms.{Bytes}
use Rattle.kif_tree.specs.Subst.{Filling, bind, value_of}
use Rattle.kif_tree.specs.Clauses.{Literals}
use Rattle.calculus.specs.declared.step.Step.{Step}
use Rattle.calculus.specs.Rules.{nth, Derivation}
use Rattle.calculus.specs.Evidence.{evidence}
use Rattle.calculus.specs.Equality.{yes}
use Rattle.calculus.specs.Answers.{Among, answer_atom, IsEvidenceFor, IsContradiction}
use Rattle.infer.specs.Checks.{clauses_of, IsGroundSubst}
use Rattle.infer.specs.Plain.{IsPlainStep}
use Rattle.clause_form.specs.declared.query.QueryClauses.{QueryClauses}
use Rattle.clause_form.specs.declared.query.QueryError.{QueryError}
use Rattle.clause_form.specs.Queries.{IsQueryAnswer}
use Rattle.saturate.specs.declared.ended.Ended.{Ended}
use Rattle.saturate.specs.declared.limits.Limits.{Limits}
use Rattle.saturate.specs.declared.reached.Reached.{Reached}
use Rattle.saturate.specs.Inputs.{search_inputs}
use Rattle.saturate.specs.Limits.{checked}
use Rattle.saturate.specs.Runs.{Runs}
use Rattle.saturate.specs.Ends.{EndHolds}
use Rattle.answers.specs.declared.question.AskError.{AskError}
use Rattle.answers.specs.declared.question.AskError.TheVariants as errors
use Rattle.answers.specs.declared.outcome.Binding.{Binding}
use Rattle.answers.specs.declared.outcome.Answer.{Answer}
use Rattle.answers.specs.declared.outcome.Outcome.{Outcome}
use Rattle.answers.specs.declared.proof.ProofLine.{ProofLine}
use Rattle.answers.specs.declared.proof.Proof.{Proof}
use Rattle.answers.specs.Outcomes.{IsOutcomeOf}
use Rattle.answers.specs.Proofs.{clauses_in, line_of}

-- ---- what is answered

-- The limits are in their ranges, the text is a query, and the outcome is that of a run of the search from the set and the query within
-- these limits.
pub record IsAsked (set : List InputClause) (text : Bytes) (limits : Limits) (outcome : Outcome) : Type 0 where
  pub within : checked limits ≡ Ok tt
  pub query : QueryClauses
  pub is_query : IsQueryAnswer text (Ok query)
  pub turns : ℕ
  pub reached : Reached
  pub end : Ended
  pub runs : Runs (search_inputs set query.clauses) limits turns reached end
  pub shows : IsOutcomeOf query.asked turns reached end outcome

-- and its end means what is said of it
pub record HasEnd (set : List InputClause) (text : Bytes) (limits : Limits) (outcome : Outcome) : Type 0 where
  pub asked : IsAsked set text limits outcome
  pub means : EndHolds limits outcome.turns asked.reached outcome.ended

-- the limits are in their ranges, and the text is no query for that reason
pub record IsRefusedQuery (text : Bytes) (limits : Limits) (error : QueryError) : Type 0 where
  pub within : checked limits ≡ Ok tt
  pub refused : IsQueryAnswer text (Err error)

-- the first cause in this order; want of memory has no other
abbrev pub IsRefused : Bytes → Limits → AskError → Type 0
IsRefused text limits (errors.Limits error) = checked limits ≡ Err error
IsRefused text limits (errors.Query error) = IsRefusedQuery text limits error
IsRefused text limits errors.NoMemory = Unit {0}

-- ---- what an answer promises

abbrev pub terms_of : Binding → List Form
terms_of binding = map (λ (pair : Pair). pair.term) binding.values

abbrev pub names_of : Binding → List Bytes
names_of binding = map (λ (pair : Pair). pair.variable) binding.values

-- (!answer b1 .. bn) of one binding
abbrev pub answer_literal : Binding → Literal
answer_literal binding = yes (answer_atom (terms_of binding))

-- its place, variant and clause are those of one axiom
pub record IsCited (set : List InputClause) (inputs : List InputClause) (step : Step) (line : ProofLine) (place : Place) : Type 0 where
  pub number : ℕ
  pub is_input : step ≡ Step.Input number
  pub input : InputClause
  pub among : Among input set
  pub stands : nth inputs number ≡ Some input
  pub placed : input.place ≡ Some place
  pub clause : line.clause ≡ input.clause

-- each line that shows a place cites an axiom
abbrev pub AreCited : List InputClause → List InputClause → Proof → Type 0
AreCited set inputs proof = (n : ℕ) (step : Step) (line : ProofLine) (place : Place) → nth proof.steps n ≡ Some step → nth proof.lines n ≡ Some line
    → line.place ≡ Some place → IsCited set inputs step line place

-- each line is that of its step: its rule, its parents and its place
abbrev pub AreShown : List InputClause → Proof → Type 0
AreShown inputs proof = (n : ℕ) (step : Step) (line : ProofLine) → nth proof.steps n ≡ Some step → nth proof.lines n ≡ Some line → line ≡ line_of inputs step line.clause

-- the steps derive the clauses of the lines, by plain steps, the lines show them, and what they cite stands in the set
pub record IsDerivation (set inputs : List InputClause) (proof : Proof) : Type 0 where
  pub derives : Derivation (clauses_of inputs) proof.steps (clauses_in proof)
  pub plain : Each IsPlainStep proof.steps
  pub shown : AreShown inputs proof
  pub cited : AreCited set inputs proof

-- the last clause of the proof
pub record EndsIn (proof : Proof) (clause : Literals) : Type 0 where
  pub number : ℕ
  pub last : length proof.lines ≡ number + 1
  pub concludes : nth (clauses_in proof) number ≡ Some clause

-- the terms of each binding under the filling
abbrev pub filled : Filling → List Binding → List (List Form)
filled g bindings = map (λ (binding : Binding). map (bind g) (terms_of binding)) bindings

-- The proof is a derivation that ends in just what is shown: one answer literal for each binding, in order. Each binding is of the asked
-- variables. Under each ground substitution of what is left variable, the evidence of the last clause refutes: it consists of ground
-- instances of the set's clauses, of equality, and of the negated query under the bindings, and no truth assignment satisfies it.
pub record IsProvedAnswer (set inputs : List InputClause) (query : QueryClauses) (answer : Answer) : Type 0 where
  pub some : answer.bindings ≢ []
  pub asked : Each (λ (binding : Binding). names_of binding ≡ query.asked) answer.bindings
  pub derivation : IsDerivation set inputs answer.proof
  pub ends : EndsIn answer.proof (map answer_literal answer.bindings)
  pub proves : (pairs : List Pair) → IsGroundSubst pairs
      → IsEvidenceFor (clauses_of set) query.clauses (filled (value_of pairs) answer.bindings)
      (evidence (clauses_of inputs) answer.proof.steps (clauses_in answer.proof) ends.number (value_of pairs))

-- the proof is a derivation that ends in no literal, and its evidence, of instances of the set's clauses and of equality alone, refutes
pub record IsProvedContradiction (set inputs : List InputClause) (proof : Proof) : Type 0 where
  pub derivation : IsDerivation set inputs proof
  pub ends : EndsIn proof []
  pub proves : (pairs : List Pair) → IsGroundSubst pairs
      → IsContradiction (clauses_of set) (evidence (clauses_of inputs) proof.steps (clauses_in proof) ends.number (value_of pairs))

abbrev pub IsProvedIfThere : List InputClause → List InputClause → Option Proof → Type 0
IsProvedIfThere set inputs None = Unit {0}
IsProvedIfThere set inputs (Some proof) = IsProvedContradiction set inputs proof

-- each answer that is shown is proved, and so is a contradiction
pub record IsProved (set : List InputClause) (text : Bytes) (outcome : Outcome) : Type 0 where
  pub query : QueryClauses
  pub is_query : IsQueryAnswer text (Ok query)
  pub answers : Each (IsProvedAnswer set outcome.inputs query) outcome.answers
  pub contradiction : IsProvedIfThere set outcome.inputs outcome.contradiction
