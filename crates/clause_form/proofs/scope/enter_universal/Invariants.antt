use Rattle.std.proofs.Common.{◌≡◌, ◌+◌, ◌++◌, take}
use Rattle.calculus.specs.Tidy.{numbered}
use Rattle.clause_form.specs.Readings.{terms_of}
use Rattle.clause_form.proofs.scope.enter_universal.Given as goal

abbrev pub invariant-loop-name : goal.invariant-loop-name
invariant-loop-name l =
    (l.pairs ≡ numbered (l.initial.counts.variables + 1) (take l.name-index l.names))
    × (l.universals ≡ l.scope.universals ++ terms_of (numbered (l.initial.counts.variables + 1) (take l.name-index l.names)))
    × (l.counts.variables ≡ l.initial.counts.variables + l.name-index)
    × (l.counts.skolems ≡ l.initial.counts.skolems)
