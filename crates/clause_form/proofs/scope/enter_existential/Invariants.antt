use Rattle.std.proofs.Common.{◌≡◌, ◌+◌, take}
use Rattle.clause_form.specs.Readings.{skolemized}
use Rattle.clause_form.proofs.scope.enter_existential.Given as goal

abbrev pub invariant-loop-name : goal.invariant-loop-name
invariant-loop-name l =
    (l.pairs ≡ skolemized l.prefix l.scope.universals (l.initial.counts.skolems + 1) (take l.name-index l.names))
    × (l.counts.skolems ≡ l.initial.counts.skolems + l.name-index)
    × (l.counts.variables ≡ l.initial.counts.variables)
