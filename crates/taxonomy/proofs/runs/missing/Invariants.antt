use Rattle.std.proofs.Common.{take}
use Rattle.taxonomy.specs.Runs as spec
use Rattle.taxonomy.proofs.runs.missing.Given as goal

abbrev pub invariant-loop-run : goal.invariant-loop-run
invariant-loop-run l = spec.HasAll l.first (take l.run-index l.second)
