use Rattle.std.proofs.Common.{length}
use Rattle.diagnose.proofs.list_tests.+is_free.Given as goal

abbrev pub decreases-is_free : goal.decreases-is_free
decreases-is_free l = length l.forms.now
