use Rattle.std.proofs.Common.{◌≡◌, ◌++◌, map, length}
use Rattle.diagnose.specs.Order.{diagnostic_of}
use Rattle.diagnose.proofs.order.append_ranked.Given as goal

abbrev pub invariant-loop-rank : goal.invariant-loop-rank
invariant-loop-rank l = l.list.items ++ map (diagnostic_of l.forms l.place) l.ranks.keys ≡ l.initial.list.items ++ map (diagnostic_of l.forms l.place) l.initial.ranks.keys

abbrev pub decreases-loop-rank : goal.decreases-loop-rank
decreases-loop-rank l = length l.ranks.keys
