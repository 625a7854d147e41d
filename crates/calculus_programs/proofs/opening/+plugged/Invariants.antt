use Rattle.std.proofs.Common.{length}
use Rattle.calculus_programs.proofs.opening.+plugged.Given as goal

abbrev pub decreases-plugged : goal.decreases-plugged
decreases-plugged l = length l.frames.now
