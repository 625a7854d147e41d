use Rattle.std.proofs.Common.{◌≡◌, false, take}
use Rattle.taxonomy.specs.Runs as spec
use Rattle.taxonomy.proofs.runs.has.Given as goal

abbrev pub invariant-loop-run : goal.invariant-loop-run
invariant-loop-run l = spec.has (take l.run-index l.runs) l.number ≡ false
