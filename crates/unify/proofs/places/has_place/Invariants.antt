use Rattle.std.proofs.Common.{◌≡◌, ℕ, ◌<◌, get_or}
use Rattle.kif_tree.specs.declared.clause.Literal.{Literal}
use Rattle.kif_tree.specs.Clauses.{bind_literal}
use Rattle.kif_tree.specs.Subst.{Filling}
use Rattle.unify.proofs.places.has_place.Given as goal

abbrev pub invariant-loop-other : goal.invariant-loop-other
invariant-loop-other l =
    (k : ℕ) → k < l.other-index → (g : Filling) (other : Literal) → other ≡ get_or l.others k other → bind_literal g l.literal ≡ other → ⊥
