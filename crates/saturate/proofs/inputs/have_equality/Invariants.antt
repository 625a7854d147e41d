use Rattle.std.proofs.Common.{◌≡◌, false, take}
use Rattle.std.specs.List.{list_any}
use Rattle.saturate.specs.Inputs as spec
use Rattle.saturate.proofs.inputs.have_equality.Given as goal

abbrev pub invariant-loop-clause : goal.invariant-loop-clause
invariant-loop-clause l = list_any spec.has_equality (take l.clause-index l.clauses) ≡ false
