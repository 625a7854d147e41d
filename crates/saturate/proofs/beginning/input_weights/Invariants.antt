use Rattle.std.proofs.Common.{◌≡◌, map, take}
use Rattle.infer.specs.Checks.{clauses_of}
use Rattle.saturate.specs.Runs as spec
use Rattle.saturate.proofs.beginning.input_weights.Given as goal

abbrev pub invariant-loop-number : goal.invariant-loop-number
invariant-loop-number l = l.weights ≡ map spec.weight (clauses_of (take l.number l.inputs))
