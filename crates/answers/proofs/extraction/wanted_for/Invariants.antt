use Rattle.std.proofs.Common.{◌+◌, ◌-◌}
use Rattle.answers.specs.Proofs as spec
use Rattle.answers.proofs.extraction.wanted_for.Given as goal

abbrev pub invariant-loop-back : goal.invariant-loop-back
invariant-loop-back l = spec.AreWanted l.steps l.number (l.number + 1 - l.back) l.wanted.items
