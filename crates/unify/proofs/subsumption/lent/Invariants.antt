use Rattle.std.proofs.Common.{◌≡◌, take}
use Rattle.unify.specs.Subsumption.{behind}
use Rattle.unify.proofs.subsumption.lent.Given as goal

abbrev pub invariant-loop-literal : goal.invariant-loop-literal
invariant-loop-literal l = behind l.references.items ≡ take l.literal-index l.literals
