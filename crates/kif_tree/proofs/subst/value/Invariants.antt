use Rattle.std.proofs.Common.{◌≡◌, length}
use Rattle.kif_tree.specs.Subst.{filling_of}
use Rattle.kif_tree.proofs.subst.value.Given as goal

abbrev pub invariant-loop-pairs : goal.invariant-loop-pairs
invariant-loop-pairs l = filling_of l.unnamed l.pairs l.name ≡ filling_of l.unnamed l.fn.pairs l.name

abbrev pub decreases-loop-pairs : goal.decreases-loop-pairs
decreases-loop-pairs l = length l.pairs
