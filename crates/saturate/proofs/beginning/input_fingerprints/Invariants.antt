use Rattle.std.proofs.Common.{◌≡◌, take}
use Rattle.infer.specs.Checks.{clauses_of}
use Rattle.saturate.specs.Marks.{tabled}
use Rattle.saturate.proofs.beginning.input_fingerprints.Given as goal

abbrev pub invariant-loop-number : goal.invariant-loop-number
invariant-loop-number l = l.table ≡ tabled (clauses_of (take l.number l.inputs))
