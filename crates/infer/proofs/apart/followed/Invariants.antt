use Rattle.std.proofs.Common.{◌≡◌, map, take}
use Rattle.kif_tree.specs.Subst.{apply_pair}
use Rattle.infer.proofs.apart.followed.Given as goal

abbrev pub invariant-loop-pair : goal.invariant-loop-pair
invariant-loop-pair l = l.pairs ≡ map (apply_pair l.second.pairs) (take l.pair-index l.pair-items)
