use Rattle.std.proofs.Common.{◌≡◌, take}
use Rattle.calculus.specs.Tidy as spec
use Rattle.calculus_programs.proofs.quick.has_repeats.Given as goal

abbrev pub invariant-loop-at : goal.invariant-loop-at
invariant-loop-at l = spec.without_repeats (take l.at l.literals) ≡ take l.at l.literals
