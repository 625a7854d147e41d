use Rattle.signatures.proofs.LayerLaws.{passes_none, passes_more}
use Rattle.signatures.proofs.nearest.pass_on.Goals as goal

pub loop-low-init : goal.loop-low-init
loop-low-init g c = passes_none c.args.own.now c.args.notes.now c.args.next.now c.args.distance c.args.near.now

pub loop-low-preserved : goal.loop-low-preserved
loop-low-preserved g c =
    passes_more c.args.own.now c.args.notes.now c.loop-low.notes c.pass.new.notes c.args.next.now c.loop-low.next c.pass.new.next c.args.distance c.args.near.now c.args.lows.now c.loop-low.low-index c.low-item.result c.loop-low-test.true c.low-item.is
    c.loop-low.invariant c.in_ok-pass.ensures
