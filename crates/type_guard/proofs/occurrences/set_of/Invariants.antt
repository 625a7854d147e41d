use Rattle.std.proofs.Common.{◌≡◌, ◌&&◌, take}
use Rattle.std.specs.List.{list_any}
use Rattle.kif_tree.specs.Shape.{is_name}
use Rattle.kif_tree.specs.Terms.{same}
use Rattle.kif_tree.specs.declared.form.Form.{Form}
use Rattle.type_guard.proofs.occurrences.set_of.Given as goal

abbrev pub invariant-loop-name : goal.invariant-loop-name
invariant-loop-name l = (f : Form) → list_any (same f) l.set ≡ (is_name f && list_any (same f) (take l.name-index l.names))
