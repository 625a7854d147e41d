use Rattle.std.proofs.Common.{take}
use Rattle.taxonomy.specs.Graph as spec
use Rattle.taxonomy.proofs.closure.round.Given as goal

abbrev pub invariant-loop-edge : goal.invariant-loop-edge
invariant-loop-edge l = spec.IsRound l.edges (take l.edge-index l.edges) l.fn.sets.items l.sets.items l.changed
