use Rattle.taxonomy.proofs.StartLaws.{pieces_step}
use Rattle.taxonomy.proofs.starts.pieces_of.Goals as goal

pub loop-label-preserved : goal.loop-label-preserved
loop-label-preserved c =
    pieces_step c.args.sets.now c.args.group.now c.loop-label.label-index c.index-sets-label.result c.items-runs.result.now c.loop-label.pieces.items c.push.new.self.items c.add_pieces.new.pieces.items c.loop-label-test.true c.requires
    c.index-sets-label.is c.items-runs.ensures c.in_ok-push.ensures.items c.in_ok-add_pieces.ensures c.loop-label.invariant
