use Rattle.std.proofs.Common.{◌≡◌}
use Rattle.unify.proofs.subsumption.places_left.Given as goal

abbrev pub invariant-loop-number : goal.invariant-loop-number
invariant-loop-number l = l.bindings ≡ l.initial.bindings
