use Rattle.std.proofs.Common.{◌≡◌, [], take}
use Rattle.calculus_programs.specs.Choices as spec
use Rattle.calculus_programs.proofs.refute.refutes.Given as goal

abbrev pub invariant-loop-clause : goal.invariant-loop-clause
invariant-loop-clause l = l.atoms ≡ spec.gathered_all [] (take l.clause-index l.clauses)
