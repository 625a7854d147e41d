use Rattle.std.proofs.Common.{◌++◌}
use Rattle.kif_tree.specs.Terms.{variables}
use Rattle.unify.proofs.Measures.{Reached, left_over}
use Rattle.unify.proofs.unifier.unify.Given as goal

abbrev pub invariant-solve : goal.invariant-solve
invariant-solve l = Reached l.fn.first l.fn.second l.left l.right l.subst.pairs

abbrev pub decreases-solve : goal.decreases-solve
decreases-solve l = left_over (variables l.fn.first ++ variables l.fn.second) l.left l.right
