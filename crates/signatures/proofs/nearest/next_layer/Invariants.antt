use Rattle.std.proofs.Common.{[], take}
use Rattle.signatures.specs.Layers.{PassesNotes}
use Rattle.signatures.specs.Lowers.{lows_of}
use Rattle.signatures.proofs.nearest.next_layer.Given as goal

abbrev pub invariant-loop-word : goal.invariant-loop-word
invariant-loop-word g l = PassesNotes (lows_of l.lowers) l.own l.fn.notes l.notes [] l.next l.distance (take l.word-index l.layer)
