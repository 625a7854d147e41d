use Rattle.std.proofs.Common.{◌≡◌, take}
use Rattle.saturate.specs.Runs as spec
use Rattle.saturate.proofs.choice.without.Given as goal

abbrev pub invariant-loop-other : goal.invariant-loop-other
invariant-loop-other l = l.others ≡ spec.without l.number (take l.other-index l.numbers)
