use Rattle.std.proofs.Common.{take}
use Rattle.taxonomy.specs.Starts.{ArePieces}
use Rattle.taxonomy.proofs.starts.pieces_of.Given as goal

abbrev pub invariant-loop-label : goal.invariant-loop-label
invariant-loop-label l = ArePieces l.sets (take l.label-index l.group) l.pieces.items
