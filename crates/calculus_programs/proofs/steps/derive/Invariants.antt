use Rattle.std.proofs.Common.{take}
use Rattle.calculus.specs.Rules.{Derivation}
use Rattle.calculus_programs.proofs.steps.derive.Given as goal

abbrev pub invariant-loop-step : goal.invariant-loop-step
invariant-loop-step l = Derivation l.inputs (take l.step-index l.steps) l.clauses
