use Rattle.std.proofs.Common.{length}
use Rattle.calculus_programs.proofs.opening.+open.Given as goal

abbrev pub decreases-open : goal.decreases-open
decreases-open l = length l.path.now
