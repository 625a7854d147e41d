use Rattle.taxonomy.proofs.StartLaws.{lowered_twice, lowered_more}
use Rattle.taxonomy.proofs.starts.lower_all.Goals as goal

pub loop-number-preserved : goal.loop-number-preserved
loop-number-preserved c = (
  lowered_twice c.args.starts.now.items c.loop-number.starts.items c.lower.new.starts.items c.loop-number.invariant.0 c.lower.ensures.lowered,
  lowered_more c.args.from c.loop-number.number c.args.group c.loop-number.starts.items c.lower.new.starts.items c.loop-number.invariant.1 c.lower.ensures.lowered c.lower.ensures.here,
)
