use Rattle.std.proofs.Common.{◌≡◌, true, take}
use Rattle.saturate.specs.Runs as spec
use Rattle.saturate.proofs.arrival.has_answers_alone.Given as goal

abbrev pub invariant-loop-literal : goal.invariant-loop-literal
invariant-loop-literal l = spec.has_answers_alone (take l.literal-index l.literal-items) ≡ true
