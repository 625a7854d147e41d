use Rattle.std.proofs.Common.{◌≡◌, true, take}
use Rattle.kif_tree.specs.Shape as spec
use Rattle.kif_tree.proofs.shape.lists_names.Given as goal

abbrev pub invariant-loop-part : goal.invariant-loop-part
invariant-loop-part l = spec.lists_names (take l.part-index l.parts) ≡ true
