use Rattle.std.proofs.Common.{◌≡◌, take}
use Rattle.calculus.specs.Tidy as spec
use Rattle.calculus_programs.proofs.tidying.without_repeats.Given as goal

abbrev pub invariant-loop-literal : goal.invariant-loop-literal
invariant-loop-literal l = l.kept ≡ spec.without_repeats (take l.literal-index l.literals)
