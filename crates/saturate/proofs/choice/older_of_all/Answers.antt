use Rattle.std.proofs.Common.{◌≤◌, ◌∷◌, take, get_or}
use Rattle.saturate.proofs.ChoiceLaws.{one_more, least_more}
use Rattle.saturate.proofs.choice.older_of_all.Goals as goal

pub loop-other-preserved : goal.loop-other-preserved
loop-other-preserved c =
    let others = c.args.others.now in
    let i = c.loop-other.other-index in
    one_more ◌≤◌ c.args.first others i c.min-best.result c.loop-other-test.true
    (least_more (c.args.first ∷ take i others) c.loop-other.best (get_or others i 0) c.min-best.result c.min-best.ensures c.loop-other.invariant)
