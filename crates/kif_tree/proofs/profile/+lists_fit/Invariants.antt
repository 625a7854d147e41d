use Rattle.std.proofs.Common.{◌≡◌, true, take}
use Rattle.std.specs.List.{list_all}
use Rattle.kif_tree.specs.Profile as spec
use Rattle.kif_tree.proofs.profile.+lists_fit.Given as goal

abbrev pub invariant-loop-part : goal.invariant-loop-part
invariant-loop-part l = list_all (λ f. list_all spec.fits (spec.compounds f)) (take l.part-index l.part-items) ≡ true
