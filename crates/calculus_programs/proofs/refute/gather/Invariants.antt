use Rattle.std.proofs.Common.{◌≡◌, take}
use Rattle.calculus_programs.specs.Choices as spec
use Rattle.calculus_programs.proofs.refute.gather.Given as goal

abbrev pub invariant-loop-literal : goal.invariant-loop-literal
invariant-loop-literal l = l.atoms ≡ spec.gathered l.initial.atoms (take l.literal-index l.literal-items)
