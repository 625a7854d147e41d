use Rattle.std.proofs.Common.{◌≡◌, min, take}
use Rattle.saturate.specs.Runs as spec
use Rattle.saturate.proofs.arrival.clause_depth.Given as goal

abbrev pub invariant-loop-literal : goal.invariant-loop-literal
invariant-loop-literal l = l.deepest ≡ min (spec.clause_depth (take l.literal-index l.literal-items)) 18446744073709551615
