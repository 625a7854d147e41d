use Rattle.std.proofs.Common.{take}
use Rattle.calculus.specs.Rules.{Derivation}
use Rattle.infer.specs.Checks.{clauses_of}
use Rattle.infer.proofs.check.check_derivation.Given as goal

abbrev pub invariant-loop-number : goal.invariant-loop-number
invariant-loop-number l = Derivation (clauses_of l.inputs) (take l.number l.steps) l.clauses
