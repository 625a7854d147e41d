use Rattle.std.proofs.Common.{length}
use Rattle.diagnose.proofs.order.+codes_ascend.Given as goal

abbrev pub decreases-codes_ascend : goal.decreases-codes_ascend
decreases-codes_ascend l = length l.found.now
