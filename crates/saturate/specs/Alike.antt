-- Runs that differ in the names of variables inside the substitutions of their steps alone.
use Rattle.std.specs.Prelude.{◌≡◌, ◌⊎◌, List}
use Rattle.kif_tree.specs.Clauses.{Literals}
use Rattle.calculus.specs.declared.step.Step.{Step}
use Rattle.infer.specs.Laws.{AreVariants, EachTwo}
use Rattle.saturate.specs.declared.reached.Reached.{Reached}
use Rattle.saturate.specs.Runs.{clauses}

-- one step, or two at one site, each of which is the other one followed by a filling
abbrev pub AreSameSteps : List Literals → Step → Step → Type 0
AreSameSteps list first second = (first ≡ second) ⊎ AreVariants list first second

pub record AreAlike (first second : Reached) : Type 0 where
  pub inputs : first.inputs ≡ second.inputs
  pub derived : first.derived ≡ second.derived
  pub processed : first.processed ≡ second.processed
  pub waiting : first.waiting ≡ second.waiting
  pub aside : first.aside ≡ second.aside
  pub found : first.found ≡ second.found
  pub steps : EachTwo (AreSameSteps (clauses first)) first.steps second.steps
