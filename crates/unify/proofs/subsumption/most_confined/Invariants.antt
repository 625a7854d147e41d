use Rattle.std.proofs.Common.{◌≡◌, ◌<◌, length}
use Rattle.unify.proofs.subsumption.most_confined.Given as goal

abbrev pub invariant-loop-at : goal.invariant-loop-at
invariant-loop-at l = record {
  best : l.best < length l.unplaced;
  same : l.bindings ≡ l.initial.bindings;
}
