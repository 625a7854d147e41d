use Rattle.std.proofs.Common.{◌≡◌, map, take}
use Rattle.answers.specs.Outcomes as spec
use Rattle.answers.proofs.outcome.bindings_of.Given as goal

abbrev pub invariant-loop-literal : goal.invariant-loop-literal
invariant-loop-literal l = l.bindings ≡ map (λ literal. spec.binding_of l.asked literal.atom) (take l.literal-index l.literal-items)
