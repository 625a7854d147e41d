use Rattle.translate.proofs.PieceLaws.{IsLeft}
use Rattle.translate.proofs.piece.have_room.Given as goal

abbrev pub invariant-loop-variant : goal.invariant-loop-variant
invariant-loop-variant l = IsLeft l.variants l.variant-index l.left l.fn.room
