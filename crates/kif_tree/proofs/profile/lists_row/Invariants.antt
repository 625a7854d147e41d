use Rattle.std.proofs.Common.{◌≡◌, false, take}
use Rattle.std.specs.List.{list_any}
use Rattle.kif_tree.specs.declared.form.Form.{out-Form}
use Rattle.kif_tree.specs.Profile as spec
use Rattle.kif_tree.proofs.profile.lists_row.Given as goal

abbrev pub invariant-loop-name : goal.invariant-loop-name
invariant-loop-name l = list_any (λ name. spec.is_row_layer (out-Form name)) (take l.name-index l.name-items) ≡ false
