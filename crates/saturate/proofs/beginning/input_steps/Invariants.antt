use Rattle.std.proofs.Common.{◌≡◌, map}
use Rattle.calculus.specs.declared.step.Step.TheVariants as steps
use Rattle.saturate.specs.Runs as spec
use Rattle.saturate.proofs.beginning.input_steps.Given as goal

abbrev pub invariant-loop-number : goal.invariant-loop-number
invariant-loop-number l = l.list ≡ map steps.Input (spec.numbers_from 0 l.number)
