use Rattle.translate.proofs.PieceLaws.{no_room}
use Rattle.translate.proofs.piece.have_room.Goals as goal

pub returns-then-count-left : goal.returns-then-count-left
returns-then-count-left c = no_room c.args.variants.now c.loop-variant.variant-index c.variant-item.result c.count_clauses-count.result c.loop-variant.left c.args.room c.loop-variant-test.true c.variant-item.is c.count_clauses-count.ensures c.if-count-left.true c.loop-variant.invariant
