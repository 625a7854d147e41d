-- Variables and row variables: where they are free, and the lists of a form.
use Rattle.std.specs.Prelude.{List, [], ◌∷◌, map, filter, Bool, not, ◌&&◌, if◌then◌else◌, codes, eqb}
use Rattle.std.specs.List.{list_any, flat_map, ends_with}
use Rattle.kif_tree.specs.declared.form.Form.{Form, para-Form, out-Form}
use Rattle.kif_tree.specs.declared.form.Form.TheOpen.{Form-F}
use Rattle.kif_tree.specs.declared.form.Form.TheVariants as form
use Rattle.kif_tree.specs.Terms.{Bytes, same}
use Rattle.kif_tree.specs.Shape.{is_quantifier, lists_names_layer}

abbrev pub parts_layer : Form-F Form → List Form
parts_layer (Form-F.Word text) = []
parts_layer (Form-F.Variable text) = []
parts_layer (Form-F.Row text) = []
parts_layer (Form-F.Numeral text) = []
parts_layer (Form-F.Quoted text) = []
parts_layer (Form-F.List parts) = parts

-- the parts of a list; any other form has none
abbrev pub parts_in : Form → List Form
parts_in form = parts_layer (out-Form form)

-- the variables and row variables that a list of these parts quantifies: a quantifier, a list of them and a body
abbrev pub bound : List Form → List Form
bound (head ∷ names ∷ body ∷ []) = if is_quantifier head && lists_names_layer (out-Form names) then parts_in names else []
bound _ = []

-- the name isn't one of these
abbrev pub is_other : List Form → Form → Bool
is_other names name = not (list_any (same name) names)

abbrev pub free_step : Form-F (Form × List Form) → List Form
free_step (Form-F.Word text) = []
free_step (Form-F.Variable text) = form.Variable text ∷ []
free_step (Form-F.Row text) = form.Row text ∷ []
free_step (Form-F.Numeral text) = []
free_step (Form-F.Quoted text) = []
free_step (Form-F.List parts) = filter (is_other (bound (map (λ (part : Form × List Form). part.0) parts))) (flat_map (λ (part : Form × List Form). part.1) parts)

-- the variables and row variables in order, each as often as it occurs free
unfoldable pub free : Form → List Form
free = para-Form (List Form) free_step

-- each form once, at its first place
abbrev pub each_once : List Form → List Form
each_once [] = []
each_once (f ∷ fs) = f ∷ filter (λ other. not (same f other)) (each_once fs)

-- the variables and row variables that are free, in order of their first free occurrence
abbrev pub free_names : Form → List Form
free_names f = each_once (free f)

abbrev pub lists_step : Form-F (Form × List (List Form)) → List (List Form)
lists_step (Form-F.Word text) = []
lists_step (Form-F.Variable text) = []
lists_step (Form-F.Row text) = []
lists_step (Form-F.Numeral text) = []
lists_step (Form-F.Quoted text) = []
lists_step (Form-F.List parts) = map (λ (part : Form × List (List Form)). part.0) parts ∷ flat_map (λ (part : Form × List (List Form)). part.1) parts

-- the lists of the form at any depth, itself among them, each as its parts
unfoldable pub lists : Form → List (List Form)
lists = para-Form (List (List Form)) lists_step

-- a word that ends in `Fn` names a function
abbrev pub is_function_word : Bytes → Bool
is_function_word word = ends_with eqb word (codes "Fn")
