use Rattle.std.proofs.Common.{◌≡◌, ◌||◌, ◌&&◌, map, take}
use Rattle.std.specs.List.{list_any}
use Rattle.kif_tree.specs.Shape.{is_name}
use Rattle.kif_tree.specs.Terms.{same}
use Rattle.kif_tree.specs.declared.form.Form.{Form}
use Rattle.type_guard.proofs.occurrences.add_names.Given as goal

abbrev pub invariant-loop-name : goal.invariant-loop-name
invariant-loop-name l = (f : Form) → list_any (same f) l.set ≡ (list_any (same f) l.fn.set || (is_name f && list_any (same f) (map (λ name. name.now) (take l.name-index l.names))))
