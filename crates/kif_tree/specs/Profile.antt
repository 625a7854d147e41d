-- The profile of the language: where the lists of a form stand, and what puts a form outside. A quantifier has a variable list
-- where its arguments are a list of variables and row variables and a body. Any other quantifier has none, so that its arguments
-- stand in sentence place as those of `and` do. A head that is a list stands in neither place and isn't looked into.
use Rattle.std.specs.Prelude.{List, [], ◌∷◌, map, filter, Bool, true, false, not, ◌&&◌, if◌then◌else◌}
use Rattle.std.specs.List.{list_all, list_any, flat_map}
use Rattle.kif_tree.specs.declared.form.Form.{Form, para-Form, out-Form}
use Rattle.kif_tree.specs.declared.form.Form.TheOpen.{Form-F}
use Rattle.kif_tree.specs.Terms.{Bytes, same, after_head}
use Rattle.kif_tree.specs.Shape.{is_among, logical_words, is_list, is_quantifier, binds}
use Rattle.kif_tree.specs.Names.{parts_in, bound, is_function_word}

-- a list of these parts is a quantifier with its variable list
abbrev pub lists_variables : List Form → Bool
lists_variables [] = false
lists_variables (head ∷ arguments) = is_quantifier head && binds arguments

abbrev pub without_first : {X : Type 0} → Bool → List X → List X
without_first first xs = if first then after_head xs else xs

-- the parts of a list after its head, without the variable list of a quantifier
abbrev pub operands : List Form → List Form
operands parts = without_first (lists_variables parts) (after_head parts)

abbrev pub compounds_step : Form-F (Form × List (List Form)) → List (List Form)
compounds_step (Form-F.Word text) = []
compounds_step (Form-F.Variable text) = []
compounds_step (Form-F.Row text) = []
compounds_step (Form-F.Numeral text) = []
compounds_step (Form-F.Quoted text) = []
compounds_step (Form-F.List parts) = map (λ (part : Form × List (List Form)). part.0) parts
    ∷ flat_map (λ (part : Form × List (List Form)). part.1) (without_first (lists_variables (map (λ (part : Form × List (List Form)). part.0) parts)) (after_head parts))

-- the lists of the form at any depth, itself among them, but for the variable lists of quantifiers; each as its parts
unfoldable pub compounds : Form → List (List Form)
compounds = para-Form (List (List Form)) compounds_step

abbrev pub passes : (Bytes → Bool) → Form-F Form → Bool
passes test (Form-F.Word text) = test text
passes test (Form-F.Variable text) = false
passes test (Form-F.Row text) = false
passes test (Form-F.Numeral text) = false
passes test (Form-F.Quoted text) = false
passes test (Form-F.List parts) = false

-- the first of the parts is a word that passes the test
abbrev pub begins : (Bytes → Bool) → List Form → Bool
begins test [] = false
begins test (head ∷ arguments) = passes test (out-Form head)

abbrev pub is_logical : List Form → Bool
is_logical parts = begins (is_among logical_words) parts

-- the forms in sentence place below a form
abbrev pub parts_as_sentences : Form → List Form
parts_as_sentences form = flat_map operands (filter is_logical (compounds form))

-- the forms in sentence place, where the form stands at the top
abbrev pub sentences : Form → List Form
sentences form = form ∷ parts_as_sentences form

-- the forms in argument place
abbrev pub arguments_in : Form → List Form
arguments_in form = flat_map operands (filter (λ parts. not (is_logical parts)) (compounds form))

-- ---- what puts a form outside

-- a list headed by a word that names a function
abbrev pub is_function_list : Form → Bool
is_function_list form = begins is_function_word (parts_in form)

-- a list headed by another word, a logical one or not
abbrev pub is_formula : Form → Bool
is_formula form = begins (λ word. not (is_function_word word)) (parts_in form)

abbrev pub has_formula_as_argument : Form → Bool
has_formula_as_argument form = list_any is_formula (arguments_in form)

-- something other than a list stands in sentence place
abbrev pub has_leaf_as_sentence : Form → Bool
has_leaf_as_sentence form = list_any (λ part. not (is_list part)) (sentences form)

abbrev pub has_term_as_sentence : Form → Bool
has_term_as_sentence form = list_any is_function_list (sentences form)

abbrev pub is_row_layer : Form-F Form → Bool
is_row_layer (Form-F.Word text) = false
is_row_layer (Form-F.Variable text) = false
is_row_layer (Form-F.Row text) = true
is_row_layer (Form-F.Numeral text) = false
is_row_layer (Form-F.Quoted text) = false
is_row_layer (Form-F.List parts) = false

abbrev pub lists_row : List Form → Bool
lists_row parts = list_any (λ name. is_row_layer (out-Form name)) (bound parts)

-- a quantifier lists a row variable
abbrev pub has_quantified_row : Form → Bool
has_quantified_row form = list_any lists_row (compounds form)

abbrev pub is_variable_layer : Form-F Form → Bool
is_variable_layer (Form-F.Word text) = false
is_variable_layer (Form-F.Variable text) = true
is_variable_layer (Form-F.Row text) = false
is_variable_layer (Form-F.Numeral text) = false
is_variable_layer (Form-F.Quoted text) = false
is_variable_layer (Form-F.List parts) = false

-- the first of the parts is a variable among these names
abbrev pub begins_with_one : List Form → List Form → Bool
begins_with_one names [] = false
begins_with_one names (head ∷ arguments) = is_variable_layer (out-Form head) && list_any (same head) names

-- in a list of these parts a variable that it quantifies heads a list
abbrev pub applies_own : List Form → Bool
applies_own parts = list_any (begins_with_one (bound parts)) (flat_map compounds (operands parts))

-- a quantified variable heads a list in its scope, also where a quantifier inside lists it again
abbrev pub applies_quantified : Form → Bool
applies_quantified form = list_any applies_own (compounds form)

-- the form is in the profile, where it stands at the top
unfoldable pub is_in_profile : Form → Bool
is_in_profile form = not (has_formula_as_argument form) && not (has_leaf_as_sentence form) && not (has_term_as_sentence form)
    && not (has_quantified_row form) && not (applies_quantified form)

-- ---- the same list by list

abbrev pub may_be_sentence : Form → Bool
may_be_sentence form = is_list form && not (is_function_list form)

abbrev pub may_be_argument : Form → Bool
may_be_argument form = not (is_formula form)

-- each part may stand at its place
abbrev pub operands_fit : List Form → Bool
operands_fit parts = if is_logical parts then list_all may_be_sentence (operands parts) else list_all may_be_argument (operands parts)

-- nothing about the list of these parts puts the form outside
unfoldable pub fits : List Form → Bool
fits parts = operands_fit parts && not (lists_row parts) && not (applies_own parts)
