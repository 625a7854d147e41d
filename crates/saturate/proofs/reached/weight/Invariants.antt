use Rattle.std.proofs.Common.{◌≡◌, take}
use Rattle.saturate.specs.Runs as spec
use Rattle.saturate.proofs.reached.weight.Given as goal

abbrev pub invariant-loop-literal : goal.invariant-loop-literal
invariant-loop-literal l = l.count ≡ spec.weight (take l.literal-index l.literal-items)
