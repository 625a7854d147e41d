use Rattle.diagnose.specs.Order.{AreRanks}
use Rattle.diagnose.proofs.order.ranks.Given as goal

abbrev pub invariant-loop-diagnostic : goal.invariant-loop-diagnostic
invariant-loop-diagnostic l = AreRanks l.positions l.yielded l.ranks
