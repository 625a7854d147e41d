-- Literals and clauses under a filling, and words at the head of a list.
use Rattle.std.specs.Prelude.{List, [], ◌∷◌, ◌++◌, map, filter, Bool, true, false, not, ◌&&◌, codes}
use Rattle.std.specs.Str.{bytes_eq}
use Rattle.kif_tree.specs.declared.form.Form.{Form, out-Form}
use Rattle.kif_tree.specs.declared.form.Form.TheOpen.{Form-F}
use Rattle.kif_tree.specs.declared.clause.Literal.{Literal}
use Rattle.kif_tree.specs.Terms.{Bytes, same, variables}
use Rattle.kif_tree.specs.Subst.{Filling, bind}

-- a clause as contracts see it
abbrev pub Literals : Type 0
Literals = List Literal

abbrev pub bind_literal : Filling → Literal → Literal
bind_literal g literal = record { positive = literal.positive; atom = bind g literal.atom }

abbrev pub bind_clause : Filling → Literals → Literals
bind_clause g clause = map (bind_literal g) clause

-- the variables in order, each as often as it occurs
abbrev pub clause_variables : Literals → List Bytes
clause_variables [] = []
clause_variables (literal ∷ clause) = variables literal.atom ++ clause_variables clause

abbrev pub is_word : Bytes → Form-F Form → Bool
is_word name (Form-F.Word text) = bytes_eq name text
is_word name (Form-F.Variable text) = false
is_word name (Form-F.Row text) = false
is_word name (Form-F.Numeral text) = false
is_word name (Form-F.Quoted text) = false
is_word name (Form-F.List parts) = false

abbrev pub begins_with : Bytes → List Form → Bool
begins_with name [] = false
begins_with name (head ∷ parts) = is_word name (out-Form head)

abbrev pub heads_layer : Bytes → Form-F Form → Bool
heads_layer name (Form-F.Word text) = false
heads_layer name (Form-F.Variable text) = false
heads_layer name (Form-F.Row text) = false
heads_layer name (Form-F.Numeral text) = false
heads_layer name (Form-F.Quoted text) = false
heads_layer name (Form-F.List parts) = begins_with name parts

-- the form is a list with this word at its head
unfoldable pub is_headed : Bytes → Form → Bool
is_headed name f = heads_layer name (out-Form f)

-- the atom of an answer literal
abbrev pub is_answer : Form → Bool
is_answer atom = is_headed (codes "!answer") atom

abbrev pub without_answers : Literals → Literals
without_answers clause = filter (λ literal. not (is_answer literal.atom)) clause

-- the clause under the filling, without its answer literals
abbrev pub bare : Literals → Filling → Literals
bare clause g = without_answers (bind_clause g clause)

abbrev pub same_sign : Bool → Bool → Bool
same_sign true b = b
same_sign false b = not b

-- the two literals are equal
abbrev pub same_literal : Literal → Literal → Bool
same_literal a b = same_sign a.positive b.positive && same a.atom b.atom
