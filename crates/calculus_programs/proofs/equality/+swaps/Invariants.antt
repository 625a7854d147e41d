use Rattle.std.proofs.Common.{length}
use Rattle.calculus_programs.proofs.equality.+swaps.Given as goal

abbrev pub decreases-swaps : goal.decreases-swaps
decreases-swaps l = length l.first.now
