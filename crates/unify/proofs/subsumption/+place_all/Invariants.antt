use Rattle.std.proofs.Common.{◌≡◌, ℕ, ◌*◌, ◌+◌, ◌<◌, length, get_or}
use Rattle.kif_tree.specs.declared.clause.Literal.{Literal}
use Rattle.calculus_programs.proofs.PickLaws.{apart}
use Rattle.unify.specs.Bindings.{AreConsistent}
use Rattle.unify.specs.Subsumption.{behind, SendsAt}
use Rattle.unify.proofs.subsumption.+place_all.Given as goal

abbrev pub decreases-place_all : goal.decreases-place_all
decreases-place_all l = 2 * length l.unplaced.now

abbrev pub decreases-place_at : goal.decreases-place_at
decreases-place_at l = 2 * length l.rest.now + 1

-- the literal can become none of the free ones so far
abbrev pub invariant-place_all-loop-place : goal.invariant-place_all-loop-place
invariant-place_all-loop-place l = record {
  same : l.bindings ≡ l.initial.bindings;
  none : AreConsistent l.initial.bindings → (literal : Literal) → literal ≡ get_or (behind l.unplaced) l.next literal
      → (k : ℕ) → k < l.place → SendsAt l.initial.bindings literal (apart (behind l.unplaced) l.next) (behind l.free) k → ⊥;
}
