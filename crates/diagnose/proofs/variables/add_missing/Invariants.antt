use Rattle.std.proofs.Common.{◌≡◌, ◌||◌, length}
use Rattle.kif_tree.specs.Shape.{is_among}
use Rattle.kif_tree.specs.Terms.{Bytes}
use Rattle.diagnose.specs.Found.{Adds}
use Rattle.diagnose.specs.VariableWalk.{IsOnlyIn}
use Rattle.diagnose.proofs.variables.add_missing.Given as goal

abbrev pub invariant-loop-name : goal.invariant-loop-name
invariant-loop-name l = record {
  names : (name : Bytes) → (is_among l.kept name || is_among l.left name) ≡ is_among l.fn.names name;
  found : Adds (IsOnlyIn 6 l.place (is_among l.kept) (is_among l.other)) l.initial.found.items l.found.items;
}

abbrev pub decreases-loop-name : goal.decreases-loop-name
decreases-loop-name l = length l.left
