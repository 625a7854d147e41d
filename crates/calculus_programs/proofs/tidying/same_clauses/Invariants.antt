use Rattle.std.proofs.Common.{◌≡◌, ℕ, ◌<◌, get_or}
use Rattle.kif_tree.specs.declared.clause.Literal.{Literal}
use Rattle.calculus_programs.proofs.tidying.same_clauses.Given as goal

abbrev pub invariant-loop-at : goal.invariant-loop-at
invariant-loop-at l = (k : ℕ) (d : Literal) → k < l.at → get_or l.first k d ≡ get_or l.second k d
