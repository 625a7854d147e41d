use Rattle.std.proofs.Common.{◌≡◌, ◌||◌, ◌&&◌, map, take, true}
use Rattle.std.specs.List.{list_any}
use Rattle.kif_tree.specs.Names.{is_other}
use Rattle.kif_tree.specs.Shape.{lists_names}
use Rattle.kif_tree.specs.Terms.{same}
use Rattle.kif_tree.specs.declared.form.Form.{Form}
use Rattle.type_guard.proofs.occurrences.mask.Given as goal

abbrev pub invariant-loop-name : goal.invariant-loop-name
invariant-loop-name l = record {
  set : (f : Form) → list_any (same f) l.set ≡ (list_any (same f) l.fn.set && is_other (take l.name-index l.names) f);
  masked : (f : Form) → list_any (same f) l.fn.set ≡ (list_any (same f) l.set || list_any (same f) (map (λ name. name.now) l.masked.items));
  names : lists_names l.names ≡ true → lists_names (map (λ name. name.now) l.masked.items) ≡ true;
}
