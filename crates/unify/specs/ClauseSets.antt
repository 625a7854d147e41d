-- The axioms of searches.
use Rattle.std.specs.Prelude.{◌≡◌, ◌<◌, ◌^◌, List, length, Option, Some, None, true, not}
use Rattle.std.specs.List.{list_all}
use Rattle.sigma_base.specs.Lists.{Each}
use Rattle.kif_tree.specs.declared.clause.InputClause.{InputClause}
use Rattle.kif_tree.specs.Clauses.{is_answer}
use Rattle.calculus.specs.Proper.{IsProper}

abbrev pub IsThere : {X : Type 0} → Option X → Type 0
IsThere None = ⊥
IsThere (Some x) = Unit {0}

-- a proper clause without answer literals, with the place that it comes from
pub record IsSetInput (input : InputClause) : Type 0 where
  pub proper : IsProper input.clause
  pub answerless : list_all (λ literal. not (is_answer literal.atom)) input.clause ≡ true
  pub placed : IsThere input.place

pub record IsClauseSet (inputs : List InputClause) : Type 0 where
  pub each : Each IsSetInput inputs
  pub few : length inputs < 2 ^ 31
