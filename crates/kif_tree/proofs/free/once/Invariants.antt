use Rattle.std.proofs.Common.{◌≡◌, ◌&&◌, map, take, true}
use Rattle.std.specs.List.{list_any}
use Rattle.kif_tree.specs.Names.{each_once}
use Rattle.kif_tree.specs.Shape.{is_name, lists_names}
use Rattle.kif_tree.specs.Terms.{same}
use Rattle.kif_tree.specs.declared.form.Form.{Form}
use Rattle.kif_tree.proofs.free.once.Given as goal

abbrev pub invariant-loop-name : goal.invariant-loop-name
invariant-loop-name l = record {
  seen : (f : Form) → list_any (same f) l.seen ≡ (is_name f && list_any (same f) (map (λ name. name.now) (take l.name-index l.names)));
  kept : lists_names (map (λ name. name.now) l.names) ≡ true → l.kept ≡ each_once (map (λ name. name.now) (take l.name-index l.names));
}
