use Rattle.diagnose.proofs.OrderLaws.{adds_rank}
use Rattle.diagnose.proofs.order.add_rank.Goals as goal

pub returns : goal.returns
returns c = adds_rank c.args.ranks.now c.insert.new.self c.args.rank c.in_ok-insert.ensures.ordered c.in_ok-insert.ensures.keys
