use Rattle.std.proofs.Common.{◌≡◌, true, take}
use Rattle.std.specs.List.{list_all}
use Rattle.calculus.specs.Truth.{satisfies}
use Rattle.calculus.proofs.truth.satisfies_all.Given as goal

abbrev pub invariant-loop-clause : goal.invariant-loop-clause
invariant-loop-clause l = list_all (satisfies l.atoms) (take l.clause-index l.clauses) ≡ true
