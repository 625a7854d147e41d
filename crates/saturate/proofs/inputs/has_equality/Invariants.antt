use Rattle.std.proofs.Common.{◌≡◌, false, take}
use Rattle.std.specs.List.{list_any}
use Rattle.saturate.specs.Inputs as spec
use Rattle.saturate.proofs.inputs.has_equality.Given as goal

abbrev pub invariant-loop-literal : goal.invariant-loop-literal
invariant-loop-literal l = list_any (λ literal. spec.is_equality literal.atom) (take l.literal-index l.literal-items) ≡ false
