use Rattle.std.proofs.Common.{length}
use Rattle.diagnose.proofs.list_tests.+places_differ.Given as goal

abbrev pub decreases-places_differ : goal.decreases-places_differ
decreases-places_differ l = length l.forms.now
