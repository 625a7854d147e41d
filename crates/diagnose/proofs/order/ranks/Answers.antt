use Rattle.diagnose.proofs.OrderLaws.{ranks_of_more}
use Rattle.diagnose.proofs.order.ranks.Goals as goal

pub loop-diagnostic-preserved : goal.loop-diagnostic-preserved
loop-diagnostic-preserved c =
    ranks_of_more c.args.positions.now c.loop-diagnostic.yielded c.in-Some.diagnostic c.loop-diagnostic.ranks c.add_rank.new.ranks
    (record { code = c.in-Some.diagnostic.code; term = c.in-Some.diagnostic.term; other = c.position_of-other.result })
    c.loop-diagnostic.invariant c.in_ok-add_rank.ensures (λ i. record { code = c.in-Some.diagnostic.code; term = c.in-Some.diagnostic.term; other = c.position_of-other.ensures i })
