use Rattle.std.proofs.Common.{◌≡◌, false, take}
use Rattle.std.specs.List.{list_any}
use Rattle.saturate.specs.Covered as spec
use Rattle.saturate.proofs.covered.is_tautology.Given as goal

abbrev pub invariant-loop-literal : goal.invariant-loop-literal
invariant-loop-literal l = list_any (λ first. list_any (spec.are_opposite first) l.literals) (take l.literal-index l.literals) ≡ false
