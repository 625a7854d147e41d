use Rattle.std.proofs.Common.{length}
use Rattle.calculus_programs.proofs.equality.+has_ground_atoms.Given as goal

abbrev pub decreases-has_ground_atoms : goal.decreases-has_ground_atoms
decreases-has_ground_atoms l = length l.literals.now
