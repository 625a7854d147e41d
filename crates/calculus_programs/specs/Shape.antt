-- The shape of the atoms of proper clauses.
use Rattle.std.specs.Prelude.{List, [], ◌∷◌, Bool, false, ◌&&◌}
use Rattle.kif_tree.specs.declared.form.Form.{Form, out-Form}
use Rattle.kif_tree.specs.Terms.{has_no_row}
use Rattle.kif_tree.specs.Shape.{is_list}
use Rattle.calculus.specs.Proper.{is_word_layer, has_word_heads}

abbrev pub is_any_word : Form → Bool
is_any_word f = is_word_layer (out-Form f)

abbrev pub begins_with_any_word : List Form → Bool
begins_with_any_word [] = false
begins_with_any_word (head ∷ parts) = is_any_word head

-- a list, with a word at the head of each list in it, and without row variables
abbrev pub fits : Form → Bool
fits atom = (is_list atom && has_word_heads atom) && has_no_row atom
