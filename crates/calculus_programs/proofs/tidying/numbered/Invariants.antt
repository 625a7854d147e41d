use Rattle.std.proofs.Common.{◌≡◌, take}
use Rattle.calculus.specs.Tidy as spec
use Rattle.calculus_programs.proofs.tidying.numbered.Given as goal

abbrev pub invariant-loop-at : goal.invariant-loop-at
invariant-loop-at l = l.pairs ≡ spec.numbered 1 (take l.at l.names)
