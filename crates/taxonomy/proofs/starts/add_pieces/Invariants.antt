use Rattle.std.proofs.Common.{◌≡◌, ◌++◌, take, map}
use Rattle.taxonomy.specs.Starts.{as_piece}
use Rattle.taxonomy.proofs.starts.add_pieces.Given as goal

abbrev pub invariant-loop-run : goal.invariant-loop-run
invariant-loop-run l = l.pieces.items ≡ l.fn.pieces.items ++ map (as_piece l.label) (take l.run-index l.runs)
