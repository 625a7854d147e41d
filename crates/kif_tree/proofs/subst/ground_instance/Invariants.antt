use Rattle.std.proofs.Common.{◌≡◌, take}
use Rattle.kif_tree.specs.Clauses.{bare}
use Rattle.kif_tree.specs.Subst.{value_of}
use Rattle.kif_tree.proofs.subst.ground_instance.Given as goal

abbrev pub invariant-loop-literal : goal.invariant-loop-literal
invariant-loop-literal l = l.literals ≡ bare (take l.literal-index l.literal-items) (value_of l.pairs)
