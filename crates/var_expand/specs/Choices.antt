-- The choices for a form: what its predicate variables and row variables may become.
use Rattle.std.specs.Prelude.{List, [], ◌∷◌, ◌++◌, map, filter, Bool, false, ◌&&◌, if◌then◌else◌, codes}
use Rattle.std.specs.List.{list_any, flat_map}
use Rattle.kif_tree.specs.declared.form.Form.{Form, out-Form}
use Rattle.kif_tree.specs.declared.form.Form.TheOpen.{Form-F}
use Rattle.kif_tree.specs.declared.form.Form.TheVariants as form
use Rattle.kif_tree.specs.Terms.{Bytes, same}
use Rattle.kif_tree.specs.Names.{free_names}
use Rattle.kif_tree.specs.Profile.{compounds, is_variable_layer, is_row_layer}

abbrev pub is_variable : Form → Bool
is_variable f = is_variable_layer (out-Form f)

abbrev pub is_row : Form → Bool
is_row f = is_row_layer (out-Form f)

-- ---- what is chosen for

abbrev pub begins_with : Form → List Form → Bool
begins_with head [] = false
begins_with head (first ∷ arguments) = same head first

-- the form stands at the head of a list of f
abbrev pub heads_a_list : Form → Form → Bool
heads_a_list f head = list_any (begins_with head) (compounds f)

-- the variables that head a list, in order of their first free occurrence, as an argument or at a head
abbrev pub predicate_variables : Form → List Form
predicate_variables f = filter (λ name. is_variable name && heads_a_list f name) (free_names f)

-- the row variables in order of their first free occurrence
abbrev pub row_variables : Form → List Form
row_variables f = filter is_row (free_names f)

abbrev pub chosen_for : Form → List Form
chosen_for f = predicate_variables f ++ row_variables f

-- ---- what may be chosen

-- the texts of the places in the longest row
abbrev pub row_numbers : List Bytes
row_numbers = codes "1" ∷ codes "2" ∷ codes "3" ∷ codes "4" ∷ codes "5" ∷ []

-- the variable at a place of the row: `?ROW!2` of `@ROW`
abbrev pub row_part : Bytes → Bytes → Form
row_part row number = form.Variable (row ++ codes "!" ++ number)

-- the beginnings of a list that aren't empty, shortest first
abbrev pub beginnings : {X : Type 0} → List X → List (List X)
beginnings [] = []
beginnings (x ∷ xs) = (x ∷ []) ∷ map (λ ys. x ∷ ys) (beginnings xs)

-- a row variable becomes one to five variables
abbrev pub row_options : Bytes → List (List Form)
row_options row = beginnings (map (row_part row) row_numbers)

-- a predicate variable becomes a relation name
abbrev pub relation_options : List Bytes → List (List Form)
relation_options relations = map (λ relation. form.Word relation ∷ []) relations

abbrev pub options_layer : List Bytes → Form-F Form → List (List Form)
options_layer relations (Form-F.Word text) = []
options_layer relations (Form-F.Variable text) = relation_options relations
options_layer relations (Form-F.Row text) = row_options text
options_layer relations (Form-F.Numeral text) = []
options_layer relations (Form-F.Quoted text) = []
options_layer relations (Form-F.List parts) = []

-- what a variable may become, by the relation names
abbrev pub options : List Bytes → Form → List (List Form)
options relations variable = options_layer relations (out-Form variable)

-- what one variable becomes
pub record Setting : Type 0 where
  pub variable : Form
  pub becomes : List Form

abbrev pub Choice : Type 0
Choice = List Setting

abbrev pub sets : Form → List Form → Setting
sets variable becomes = record { variable = variable; becomes = becomes }

-- all choices for the variables: in order of what the first becomes, then of what the second becomes, and so on
abbrev pub choices : List Bytes → List Form → List Choice
choices relations [] = [] ∷ []
choices relations (variable ∷ variables) =
    flat_map (λ becomes. map (λ choice. sets variable becomes ∷ choice) (choices relations variables)) (options relations variable)

-- ---- what a form becomes at its place in a list

abbrev pub becomes_by : Choice → Form → List Form
becomes_by [] f = f ∷ []
becomes_by (setting ∷ choice) f = if same setting.variable f then setting.becomes else becomes_by choice f

-- the parts of a list after the choice, where the lists among them stay. What quantifiers hide is replaced too: inside the profile no
-- hidden variable heads a list and no row variable is hidden, and any other becomes one form, so that counts and heads are right
abbrev pub after : Choice → List Form → List Form
after choice parts = flat_map (becomes_by choice) parts
