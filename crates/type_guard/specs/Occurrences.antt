-- Where variables stand as arguments.
use Rattle.std.specs.Prelude.{ℕ, ◌+◌, List, [], ◌∷◌, ◌++◌, map, filter, Bool, if◌then◌else◌}
use Rattle.std.specs.List.{flat_map}
use Rattle.kif_tree.specs.declared.form.Form.{Form, para-Form, out-Form}
use Rattle.kif_tree.specs.declared.form.Form.TheOpen.{Form-F}
use Rattle.kif_tree.specs.Terms.{Bytes}
use Rattle.kif_tree.specs.Names.{bound, is_other}
use Rattle.kif_tree.specs.Profile.{is_variable_layer, lists_variables, without_first}

-- a variable that stands as an argument of a list with this word at its head, counted from 1
pub record Occurrence : Type 0 where
  pub variable : Form
  pub head : Bytes
  pub argument : ℕ

abbrev pub is_variable : Form → Bool
is_variable f = is_variable_layer (out-Form f)

-- a part beside the occurrences in it
abbrev pub Part : Type 0
Part = Form × List Occurrence

abbrev pub of_argument : Bytes → ℕ → Part → List Occurrence
of_argument head argument part = if is_variable part.0 then record { variable = part.0; head = head; argument = argument } ∷ [] else part.1

-- the occurrences at and in arguments of a list with this head, the first of which has the number
abbrev pub of_arguments : Bytes → ℕ → List Part → List Occurrence
of_arguments head argument [] = []
of_arguments head argument (part ∷ parts) = of_argument head argument part ++ of_arguments head (argument + 1) parts

abbrev pub in_parts : List Part → List Occurrence
in_parts parts = flat_map (λ (part : Part). part.1) parts

-- a head that is no word gives no occurrence of its own
abbrev pub of_parts : Form-F Form → List Part → List Occurrence
of_parts (Form-F.Word text) parts = of_arguments text 1 parts
of_parts (Form-F.Variable text) parts = in_parts parts
of_parts (Form-F.Row text) parts = in_parts parts
of_parts (Form-F.Numeral text) parts = in_parts parts
of_parts (Form-F.Quoted text) parts = in_parts parts
of_parts (Form-F.List fs) parts = in_parts parts

abbrev pub forms_of : List Part → List Form
forms_of parts = map (λ (part : Part). part.0) parts

-- the arguments of a list, without the variable list of a quantifier, whose body counts as the first
abbrev pub of_list : List Part → List Occurrence
of_list [] = []
of_list (head ∷ arguments) = of_parts (out-Form head.0) (without_first (lists_variables (forms_of (head ∷ arguments))) arguments)

abbrev pub occurrences_step : Form-F Part → List Occurrence
occurrences_step (Form-F.Word text) = []
occurrences_step (Form-F.Variable text) = []
occurrences_step (Form-F.Row text) = []
occurrences_step (Form-F.Numeral text) = []
occurrences_step (Form-F.Quoted text) = []
occurrences_step (Form-F.List parts) = filter (λ (occurrence : Occurrence). is_other (bound (forms_of parts)) occurrence.variable) (of_list parts)

-- the free occurrences of variables as arguments, from left to right
unfoldable pub occurrences : Form → List Occurrence
occurrences = para-Form (List Occurrence) occurrences_step
