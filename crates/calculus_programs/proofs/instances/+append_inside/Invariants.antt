use Rattle.std.proofs.Common.{length}
use Rattle.calculus_programs.proofs.instances.+append_inside.Given as goal

abbrev pub decreases-append_inside : goal.decreases-append_inside
decreases-append_inside l = length l.frames.now
