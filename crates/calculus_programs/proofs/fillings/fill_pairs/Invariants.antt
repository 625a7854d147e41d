use Rattle.std.proofs.Common.{◌≡◌, map, take}
use Rattle.kif_tree.specs.Subst.{value_of}
use Rattle.calculus_programs.specs.Pairs.{fill_pair}
use Rattle.calculus_programs.proofs.fillings.fill_pairs.Given as goal

abbrev pub invariant-loop-pair : goal.invariant-loop-pair
invariant-loop-pair l = l.filled ≡ map (fill_pair (value_of l.filling)) (take l.pair-index l.pairs)
