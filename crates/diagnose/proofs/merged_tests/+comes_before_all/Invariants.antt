use Rattle.std.proofs.Common.{length}
use Rattle.diagnose.proofs.merged_tests.+comes_before_all.Given as goal

abbrev pub decreases-comes_before_all : goal.decreases-comes_before_all
decreases-comes_before_all l = length l.list.now
