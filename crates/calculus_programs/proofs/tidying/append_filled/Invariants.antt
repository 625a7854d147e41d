use Rattle.std.proofs.Common.{◌≡◌, ◌++◌, take}
use Rattle.kif_tree.specs.Subst.{filling_of}
use Rattle.kif_tree.specs.Clauses.{bind_clause}
use Rattle.calculus_programs.proofs.tidying.append_filled.Given as goal

abbrev pub invariant-loop-literal : goal.invariant-loop-literal
invariant-loop-literal l = l.out ≡ l.initial.out ++ bind_clause (filling_of l.unnamed l.pairs) (take l.literal-index l.literals)
