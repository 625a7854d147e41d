use Rattle.std.proofs.Common.{◌≡◌, ◌<◌, ℕ}
use Rattle.std.specs.Prelude.{Some, slice_get}
use Rattle.kif_tree.specs.declared.place.Located.{Located}
use Rattle.diagnose.specs.Order.{find}
use Rattle.diagnose.proofs.order.positions.Given as goal

abbrev pub invariant-loop-located : goal.invariant-loop-located
invariant-loop-located l = (l.position ≡ l.located-index) × ((n : ℕ) (located : Located) → n < l.located-index → slice_get l.forms n ≡ Some located → find l.table located.place ≡ Some n)
