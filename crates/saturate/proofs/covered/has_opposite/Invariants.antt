use Rattle.std.proofs.Common.{◌≡◌, false, take}
use Rattle.std.specs.List.{list_any}
use Rattle.saturate.specs.Covered as spec
use Rattle.saturate.proofs.covered.has_opposite.Given as goal

abbrev pub invariant-loop-other : goal.invariant-loop-other
invariant-loop-other l = list_any (spec.are_opposite l.literal) (take l.other-index l.literals) ≡ false
