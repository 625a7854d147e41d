use Rattle.std.proofs.Common.{◌≡◌, false, take}
use Rattle.std.specs.List.{list_any}
use Rattle.kif_tree.specs.Shape as spec
use Rattle.kif_tree.proofs.shape.+has_word.Given as goal

abbrev pub invariant-loop-part : goal.invariant-loop-part
invariant-loop-part l = list_any (spec.has_word l.name) (take l.part-index l.part-items) ≡ false
