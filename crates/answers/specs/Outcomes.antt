-- What is answered: the answers and the contradiction of a search, with their proofs.
use Rattle.std.specs.Prelude.{◌≡◌, ℕ, ◌+◌, List, [], ◌∷◌, map, length, Option, Some, None}
use Rattle.kif_tree.specs.declared.form.Form.{Form}
use Rattle.kif_tree.specs.declared.subst.Pair.{Pair}
use Rattle.kif_tree.specs.Terms.{Bytes}
use Rattle.kif_tree.specs.Clauses.{Literals}
use Rattle.calculus.specs.Answers.{arguments}
use Rattle.infer.specs.Conclusions.{clause_at}
use Rattle.saturate.specs.declared.ended.Ended.{Ended}
use Rattle.saturate.specs.declared.ended.Ended.TheVariants as ended
use Rattle.saturate.specs.declared.reached.Reached.{Reached}
use Rattle.saturate.specs.Runs.{clauses}
use Rattle.answers.specs.declared.outcome.Binding.{Binding}
use Rattle.answers.specs.declared.outcome.Answer.{Answer}
use Rattle.answers.specs.declared.outcome.Outcome.{Outcome}
use Rattle.answers.specs.declared.proof.Proof.{Proof}
use Rattle.answers.specs.Proofs.{IsProofOf}

-- ---- bindings

-- each asked variable with what it becomes, as long as both lists go
abbrev pub bound : List Bytes → List Form → List Pair
bound (name ∷ names) (form ∷ forms) = record { variable = name; term = form } ∷ bound names forms
bound _ _ = []

-- the binding that an answer literal shows
abbrev pub binding_of : List Bytes → Form → Binding
binding_of asked atom = record { values = bound asked (arguments atom) }

-- one for each literal, in order
abbrev pub bindings_of : List Bytes → Literals → List Binding
bindings_of asked clause = map (λ literal. binding_of asked literal.atom) clause

-- ---- answers

-- the items of two lists stand in the relation, one by one and in number
abbrev pub Correspond : {X Y : Type 0} → (X → Y → Type 0) → List X → List Y → Type 0
Correspond P [] [] = Unit {0}
Correspond P (x ∷ xs) (y ∷ ys) = P x y × Correspond P xs ys
Correspond P _ _ = ⊥

-- the clause of that number shows the bindings, and the proof is its proof
pub record IsAnswerOf (asked : List Bytes) (r : Reached) (number : ℕ) (answer : Answer) : Type 0 where
  pub bindings : answer.bindings ≡ bindings_of asked (clause_at (clauses r) number)
  pub proof : IsProofOf r.inputs r.steps (clauses r) number answer.proof

-- the last clause, which has no literals, with its proof
pub record HasContradiction (r : Reached) (contradiction : Option Proof) : Type 0 where
  pub proof : Proof
  pub is : contradiction ≡ Some proof
  pub number : ℕ
  pub last : length r.steps ≡ number + 1
  pub proves : IsProofOf r.inputs r.steps (clauses r) number proof

-- just where the search ended with one
abbrev pub IsContradictionOf : Reached → Ended → Option Proof → Type 0
IsContradictionOf r ended.Contradiction contradiction = HasContradiction r contradiction
IsContradictionOf r _ contradiction = contradiction ≡ None

-- ---- outcomes

-- the answers are those of the found clauses, in order
pub record IsOutcomeOf (asked : List Bytes) (turns : ℕ) (r : Reached) (end : Ended) (outcome : Outcome) : Type 0 where
  pub inputs : outcome.inputs ≡ r.inputs
  pub asks : outcome.asked ≡ asked
  pub answers : Correspond (IsAnswerOf asked r) r.found outcome.answers
  pub contradiction : IsContradictionOf r end outcome.contradiction
  pub ends : outcome.ended ≡ end
  pub counted : outcome.turns ≡ turns
