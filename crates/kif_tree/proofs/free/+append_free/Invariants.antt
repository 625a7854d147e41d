use Rattle.std.proofs.Common.{◌≡◌, ◌++◌, map, take, filter}
use Rattle.std.specs.List.{flat_map, list_any}
use Rattle.kif_tree.specs.Names.{free, is_other}
use Rattle.kif_tree.specs.Terms.{same}
use Rattle.kif_tree.specs.declared.form.Form.{Form}
use Rattle.kif_tree.proofs.free.+append_free.Given as goal

abbrev pub invariant-append_of_parts-loop-part : goal.invariant-append_of_parts-loop-part
invariant-append_of_parts-loop-part l = record {
  found : map (λ name. name.now) l.found.items ≡ map (λ name. name.now) l.initial.found.items ++ filter (is_other l.initial.hidden) (flat_map free (take l.part-index l.parts));
  hidden : (f : Form) → list_any (same f) l.hidden ≡ list_any (same f) l.initial.hidden;
}
