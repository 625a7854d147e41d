use Rattle.std.proofs.Common.{take}
use Rattle.taxonomy.specs.Tables.{AreEdges}
use Rattle.taxonomy.proofs.tables.edges_of.Given as goal

abbrev pub invariant-loop-link : goal.invariant-loop-link
invariant-loop-link l = AreEdges l.kind (take l.link-index l.links) l.edges.items
