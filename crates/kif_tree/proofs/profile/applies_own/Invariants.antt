use Rattle.std.proofs.Common.{◌≡◌, false, take}
use Rattle.std.specs.List.{list_any}
use Rattle.kif_tree.specs.Profile as spec
use Rattle.kif_tree.proofs.profile.applies_own.Given as goal

abbrev pub invariant-loop-part : goal.invariant-loop-part
invariant-loop-part l = list_any (λ f. list_any (spec.begins_with_one l.names) (spec.compounds f)) (take l.part-index l.part-items) ≡ false
