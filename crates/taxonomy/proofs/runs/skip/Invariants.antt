use Rattle.std.proofs.Common.{length, ◌-◌}
use Rattle.taxonomy.proofs.runs.skip.Given as goal

abbrev pub decreases-loop-at : goal.decreases-loop-at
decreases-loop-at l = length l.runs - l.at
