-- Pairs whose forms are filled in, and what a step's conclusion turns back to.
use Rattle.std.specs.Prelude.{◌≡◌, List, Some}
use Rattle.kif_tree.specs.declared.subst.Pair.{Pair}
use Rattle.kif_tree.specs.Subst.{Filling, bind, value_of}
use Rattle.kif_tree.specs.Clauses.{Literals}
use Rattle.calculus.specs.declared.step.Step.{Step}
use Rattle.calculus.specs.Tidy.{turned_back}
use Rattle.calculus.specs.Rules.{untidy}

abbrev pub fill_pair : Filling → Pair → Pair
fill_pair g pair = record { variable = pair.variable; term = bind g pair.term }

-- the pairs are what the step's conclusion before tidying is under
pub record Turned (step : Step) (earlier : List Literals) (g : Filling) (pairs : List Pair) : Type 0 where
  pub raw : Literals
  pub is : untidy step earlier ≡ Some raw
  pub back : value_of pairs ≡ turned_back raw g
