use Rattle.std.proofs.Common.{◌≡◌, ◌++◌, take}
use Rattle.clause_form.proofs.scope.append_pairs.Given as goal

abbrev pub invariant-loop-pair : goal.invariant-loop-pair
invariant-loop-pair l = l.out ≡ l.initial.out ++ take l.pair-index l.pairs
