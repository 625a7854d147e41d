use Rattle.std.proofs.Common.{◌≡◌, false, take}
use Rattle.std.specs.List.{list_any}
use Rattle.calculus.specs.Truth.{holds}
use Rattle.calculus.proofs.truth.satisfies.Given as goal

abbrev pub invariant-loop-literal : goal.invariant-loop-literal
invariant-loop-literal l = list_any (holds l.atoms) (take l.literal-index l.literal-items) ≡ false
