use Rattle.std.proofs.Common.{take}
use Rattle.taxonomy.proofs.StartLaws.{sweep_step}
use Rattle.taxonomy.proofs.starts.sweep.Goals as goal

pub loop-piece-preserved : goal.loop-piece-preserved
loop-piece-preserved c =
    let before = take c.loop-piece.piece-index c.args.pieces.now in
    sweep_step c.args.pieces.now c.loop-piece.piece-index c.args.starts.now.items c.loop-piece.starts.items c.lower_all.new.starts.items c.args.group c.reach_of_others-end.result c.min.result c.reach_with-reach.result
    c.loop-piece-test.true (c.reach_of_others-end.ensures before c.loop-piece.invariant.0) c.min.ensures (c.reach_with-reach.ensures before c.loop-piece.invariant.0) c.loop-piece.invariant.1 c.lower_all.ensures.lowered
    c.lower_all.ensures.all c.loop-piece.invariant.2
