use Rattle.std.proofs.Common.{◌+◌, ◌≤◌, length}
use Rattle.signatures.specs.Layers.{AreLayers}
use Rattle.signatures.specs.Lowers.{lows_of}
use Rattle.signatures.specs.Search.{left_over}
use Rattle.signatures.proofs.nearest.nearest_words.Given as goal

abbrev pub invariant-loop-alloc : goal.invariant-loop-alloc
invariant-loop-alloc g l = AreLayers (lows_of l.lowers) l.own l.notes l.layer l.distance × (l.distance + left_over l.forms l.notes l.layer ≤ length l.forms + 1)

abbrev pub decreases-loop-alloc : goal.decreases-loop-alloc
decreases-loop-alloc g l = left_over l.forms l.notes l.layer
