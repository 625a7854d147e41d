use Rattle.std.proofs.Common.{◌≡◌, false, take}
use Rattle.std.specs.List.{list_any}
use Rattle.kif_tree.specs.Terms.{same}
use Rattle.calculus.proofs.truth.is_true.Given as goal

abbrev pub invariant-loop-other : goal.invariant-loop-other
invariant-loop-other l = list_any (same l.atom) (take l.other-index l.atoms) ≡ false
