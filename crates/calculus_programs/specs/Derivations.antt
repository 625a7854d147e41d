-- The first step that isn't allowed.
use Rattle.std.specs.Prelude.{◌≡◌, ℕ, List, take, Some, None}
use Rattle.kif_tree.specs.Clauses.{Literals}
use Rattle.calculus.specs.declared.step.Step.{Step}
use Rattle.calculus.specs.Rules.{nth, clause_of, Derivation}

-- the steps before it derive clauses, from which it concludes nothing
pub record HasBadStep (inputs : List Literals) (steps : List Step) : Type 0 where
  pub number : ℕ
  pub step : Step
  pub at : nth steps number ≡ Some step
  pub clauses : List Literals
  pub derived : Derivation inputs (take number steps) clauses
  pub refused : clause_of inputs step clauses ≡ None
