use Rattle.std.proofs.Common.{length}
use Rattle.calculus_programs.proofs.refute.+some_choice.Given as goal

abbrev pub decreases-some_choice : goal.decreases-some_choice
decreases-some_choice l = length l.further.now
