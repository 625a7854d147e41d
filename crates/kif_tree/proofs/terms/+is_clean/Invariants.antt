use Rattle.std.proofs.Common.{◌≡◌, true, take}
use Rattle.std.specs.List.{list_all}
use Rattle.kif_tree.specs.Terms as spec
use Rattle.kif_tree.proofs.terms.+is_clean.Given as goal

abbrev pub invariant-loop-part : goal.invariant-loop-part
invariant-loop-part l = list_all (spec.clean l.variables) (take l.part-index l.part-items) ≡ true
