use Rattle.std.proofs.Common.{◌≡◌, take}
use Rattle.unify.specs.Subsumption.{behind}
use Rattle.unify.proofs.PlaceLaws.{skipping}
use Rattle.unify.proofs.subsumption.without.Given as goal

abbrev pub invariant-loop-at : goal.invariant-loop-at
invariant-loop-at l = behind l.others.items ≡ skipping (take l.at (behind l.literals)) l.number
