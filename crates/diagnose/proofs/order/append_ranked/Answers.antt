use Rattle.std.proofs.Common.{◌++◌, map}
use Rattle.diagnose.specs.Order.{diagnostic_of}
use Rattle.diagnose.proofs.OrderLaws.{appends, all_moved}
use Rattle.diagnose.proofs.order.append_ranked.Goals as goal

pub returns : goal.returns
returns c = λ positions known.
    appends c.args.forms.now c.args.positions.now c.args.place c.args.found.items c.args.list.now.items c.loop-rank.list.items c.in_ok-ranks.ranks positions known c.in_ok-ranks.ensures
    (all_moved c.args.forms.now c.args.place c.loop-rank.ranks.keys c.loop-rank.list.items (c.args.list.now.items ++ map (diagnostic_of c.args.forms.now c.args.place) c.in_ok-ranks.ranks.keys) c.in_default.ensures.variant.1 c.loop-rank.invariant)
