use Rattle.std.proofs.Common.{◌≡◌, false, take}
use Rattle.std.specs.List.{list_any}
use Rattle.infer.specs.Checks.{clauses_of}
use Rattle.saturate.specs.Inputs as spec
use Rattle.saturate.proofs.inputs.inputs_have_equality.Given as goal

abbrev pub invariant-loop-input : goal.invariant-loop-input
invariant-loop-input l = list_any spec.has_equality (clauses_of (take l.input-index l.inputs)) ≡ false
