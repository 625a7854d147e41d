use Rattle.std.proofs.Common.{◌≡◌, ◌&&◌, map, take}
use Rattle.std.specs.List.{list_any}
use Rattle.kif_tree.specs.Names.{is_other}
use Rattle.kif_tree.specs.Terms.{same}
use Rattle.kif_tree.specs.declared.form.Form.{Form}
use Rattle.kif_tree.proofs.free.show.Given as goal

abbrev pub invariant-loop-name : goal.invariant-loop-name
invariant-loop-name l = (f : Form) → list_any (same f) l.hidden ≡ (list_any (same f) l.fn.hidden && is_other (map (λ name. name.now) (take l.name-index l.names)) f)
