use Rattle.std.proofs.Common.{◌≡◌, ◌++◌, take, filter}
use Rattle.std.specs.List.{flat_map, list_any}
use Rattle.kif_tree.specs.Terms.{same}
use Rattle.kif_tree.specs.declared.form.Form.{Form}
use Rattle.type_guard.specs.Guards.{is_of}
use Rattle.type_guard.specs.Occurrences.{occurrences}
use Rattle.type_guard.specs.Reads as reads
use Rattle.type_guard.proofs.occurrences.+append_in.Given as goal

abbrev pub invariant-append_in_all-loop-form : goal.invariant-append_in_all-loop-form
invariant-append_in_all-loop-form l = record {
  found : reads.all l.found.items ≡ reads.all l.initial.found.items ++ filter (is_of l.initial.wanted) (flat_map occurrences (take l.form-index l.forms));
  wanted : (f : Form) → list_any (same f) l.wanted ≡ list_any (same f) l.initial.wanted;
}

abbrev pub invariant-append_of_word-loop-at : goal.invariant-append_of_word-loop-at
invariant-append_of_word-loop-at l = record {
  found : reads.all l.found.items ≡ reads.all l.initial.found.items ++ filter (is_of l.initial.wanted) (reads.of_arguments l.head 1 (take l.at l.arguments));
  wanted : (f : Form) → list_any (same f) l.wanted ≡ list_any (same f) l.initial.wanted;
}
