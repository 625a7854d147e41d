use Rattle.std.proofs.Common.{take}
use Rattle.taxonomy.specs.Runs as spec
use Rattle.taxonomy.proofs.runs.append.Given as goal

abbrev pub invariant-loop-run : goal.invariant-loop-run
invariant-loop-run l = spec.IsUnion l.runs.items l.fn.runs.items (take l.run-index l.more)
