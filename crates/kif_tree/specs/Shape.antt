-- The shape of lists: what may stand at the head, which arguments each logical word takes, and where a form has faults of shape.
use Rattle.std.specs.Prelude.{ℕ, ◌+◌, sum, List, [], ◌∷◌, ◌++◌, map, length, Bool, true, false, not, ◌&&◌, if◌then◌else◌, nat_eq, codes, min, Option, Some, None, is_none, Result, Ok, Err}
use Rattle.std.specs.List.{list_all, list_any}
use Rattle.std.specs.Str.{bytes_eq}
use Rattle.kif_tree.specs.declared.form.Form.{Form, fold-Form, para-Form, out-Form}
use Rattle.kif_tree.specs.declared.form.Form.TheOpen.{Form-F}
use Rattle.kif_tree.specs.Terms.{Bytes}

-- how many tokens spell the form
abbrev pub token_count_step : Form-F ℕ → ℕ
token_count_step (Form-F.Word text) = 1
token_count_step (Form-F.Variable text) = 1
token_count_step (Form-F.Row text) = 1
token_count_step (Form-F.Numeral text) = 1
token_count_step (Form-F.Quoted text) = 1
token_count_step (Form-F.List parts) = sum parts + 2

unfoldable pub token_count : Form → ℕ
token_count = fold-Form ℕ token_count_step

-- the word occurs
abbrev pub has_word_step : Bytes → Form-F Bool → Bool
has_word_step name (Form-F.Word text) = bytes_eq name text
has_word_step name (Form-F.Variable text) = false
has_word_step name (Form-F.Row text) = false
has_word_step name (Form-F.Numeral text) = false
has_word_step name (Form-F.Quoted text) = false
has_word_step name (Form-F.List parts) = list_any (λ part. part) parts

unfoldable pub has_word : Bytes → Form → Bool
has_word name = fold-Form Bool (has_word_step name)

-- ---- the logical words

abbrev pub quantifiers : List Bytes
quantifiers = codes "forall" ∷ codes "exists" ∷ []

-- the words with a meaning of their own at the head of a list
abbrev pub logical_words : List Bytes
logical_words = codes "not" ∷ codes "and" ∷ codes "or" ∷ codes "=>" ∷ codes "<=>" ∷ quantifiers

abbrev pub is_among : List Bytes → Bytes → Bool
is_among words text = list_any (bytes_eq text) words

-- a list, of whatever parts
abbrev pub is_list_layer : Form-F Form → Bool
is_list_layer (Form-F.Word text) = false
is_list_layer (Form-F.Variable text) = false
is_list_layer (Form-F.Row text) = false
is_list_layer (Form-F.Numeral text) = false
is_list_layer (Form-F.Quoted text) = false
is_list_layer (Form-F.List parts) = true

abbrev pub is_list : Form → Bool
is_list form = is_list_layer (out-Form form)

-- a variable or a row variable
abbrev pub is_name_layer : Form-F Form → Bool
is_name_layer (Form-F.Word text) = false
is_name_layer (Form-F.Variable text) = true
is_name_layer (Form-F.Row text) = true
is_name_layer (Form-F.Numeral text) = false
is_name_layer (Form-F.Quoted text) = false
is_name_layer (Form-F.List parts) = false

abbrev pub is_name : Form → Bool
is_name form = is_name_layer (out-Form form)

abbrev pub lists_names : List Form → Bool
lists_names parts = list_all is_name parts

-- a list of variables and row variables, the empty list among them
abbrev pub lists_names_layer : Form-F Form → Bool
lists_names_layer (Form-F.Word text) = false
lists_names_layer (Form-F.Variable text) = false
lists_names_layer (Form-F.Row text) = false
lists_names_layer (Form-F.Numeral text) = false
lists_names_layer (Form-F.Quoted text) = false
lists_names_layer (Form-F.List parts) = lists_names parts

-- a list of variables and a body
abbrev pub binds : List Form → Bool
binds (names ∷ body ∷ []) = lists_names_layer (out-Form names)
binds _ = false

-- the word may stand before these arguments: each logical word takes arguments of its own, every other word any
abbrev pub takes : Bytes → List Form → Bool
takes word arguments =
    if bytes_eq word (codes "not") then nat_eq (length arguments) 1
    else if is_among (codes "and" ∷ codes "or" ∷ []) word then not (nat_eq (length arguments) 0)
    else if is_among (codes "=>" ∷ codes "<=>" ∷ []) word then nat_eq (length arguments) 2
    else if is_among quantifiers word then binds arguments
    else true

-- such a head may stand before these arguments
abbrev pub may_head : List Form → Form-F Form → Bool
may_head arguments (Form-F.Word text) = takes text arguments
may_head arguments (Form-F.Variable text) = true
may_head arguments (Form-F.Row text) = false
may_head arguments (Form-F.Numeral text) = false
may_head arguments (Form-F.Quoted text) = false
may_head arguments (Form-F.List parts) = false

-- the list of these parts has a fault of shape of its own
abbrev pub is_misshapen : List Form → Bool
is_misshapen [] = true
is_misshapen (head ∷ arguments) = not (may_head arguments (out-Form head))

-- ---- the places of faults: numbers of tokens, from 0, among those that spell the form

-- a part beside its faults
abbrev pub Part : Type 0
Part = Form × List ℕ

-- the faults of parts that follow each other, the first of which begins at the given token
abbrev pub faults_from : ℕ → List Part → List ℕ
faults_from start [] = []
faults_from start (part ∷ parts) = map (λ at. start + at) part.1 ++ faults_from (start + token_count part.0) parts

abbrev pub is_quantifier_layer : Form-F Form → Bool
is_quantifier_layer (Form-F.Word text) = is_among quantifiers text
is_quantifier_layer (Form-F.Variable text) = false
is_quantifier_layer (Form-F.Row text) = false
is_quantifier_layer (Form-F.Numeral text) = false
is_quantifier_layer (Form-F.Quoted text) = false
is_quantifier_layer (Form-F.List parts) = false

abbrev pub is_quantifier : Form → Bool
is_quantifier form = is_quantifier_layer (out-Form form)

abbrev pub is_empty_list_layer : Form-F Form → Bool
is_empty_list_layer (Form-F.Word text) = false
is_empty_list_layer (Form-F.Variable text) = false
is_empty_list_layer (Form-F.Row text) = false
is_empty_list_layer (Form-F.Numeral text) = false
is_empty_list_layer (Form-F.Quoted text) = false
is_empty_list_layer (Form-F.List parts) = nat_eq (length parts) 0

abbrev pub is_empty_list : Form → Bool
is_empty_list form = is_empty_list_layer (out-Form form)

-- a fault at the first token, where there is one
abbrev pub fault_if : Bool → List ℕ
fault_if true = 0 ∷ []
fault_if false = []

-- the variable list of a quantifier isn't tested as a list of its own, but it may not be empty
abbrev pub as_names : Form → Part
as_names form = (form, fault_if (is_empty_list form))

abbrev pub with_names : List Part → List Part
with_names [] = []
with_names (names ∷ parts) = as_names names.0 ∷ parts

-- the parts beside the faults that count
abbrev pub tested : List Part → List Part
tested [] = []
tested (head ∷ parts) = head ∷ (if is_quantifier head.0 then with_names parts else parts)

-- a list's own fault comes first, then those of its parts, which begin after its bracket
abbrev pub faults_step : Form-F Part → List ℕ
faults_step (Form-F.Word text) = []
faults_step (Form-F.Variable text) = []
faults_step (Form-F.Row text) = []
faults_step (Form-F.Numeral text) = []
faults_step (Form-F.Quoted text) = []
faults_step (Form-F.List parts) = fault_if (is_misshapen (map (λ (part : Part). part.0) parts)) ++ faults_from 1 (tested parts)

-- the first tokens of the lists with a fault of shape, in order
unfoldable pub shape_faults : Form → List ℕ
shape_faults = para-Form (List ℕ) faults_step

-- the same of a form that stands at the top of a text, where it has to be a list
abbrev pub form_faults : Form → List ℕ
form_faults form = if is_list form then shape_faults form else 0 ∷ []

-- the form with the faults that it has at the top of a text
abbrev pub as_top : Form → Part
as_top form = (form, form_faults form)

-- the same of the forms of a text, whose tokens are counted over all of them
abbrev pub forms_faults : List Form → List ℕ
forms_faults forms = faults_from 0 (map as_top forms)

abbrev pub first_of : {X : Type 0} → List X → Option X
first_of [] = None
first_of (x ∷ xs) = Some x

-- the token at which a part of a list has its first fault
abbrev pub first_fault : Form → Option ℕ
first_fault form = first_of (shape_faults form)

-- the token at which a form at the top has its first fault
abbrev pub first_form_fault : Form → Option ℕ
first_form_fault form = first_of (form_faults form)

-- the token at which the forms of a text have their first fault
abbrev pub first_forms_fault : List Form → Option ℕ
first_forms_fault forms = first_of (forms_faults forms)

-- at the top of a text the form has no fault of shape, and the word of answer literals doesn't occur in it
abbrev pub is_shaped : Form → Bool
is_shaped form = is_none (first_form_fault form) && not (has_word (codes "!answer") form)

-- how many tokens spell the forms
abbrev pub tokens_of : List Form → ℕ
tokens_of [] = 0
tokens_of (form ∷ forms) = token_count form + tokens_of forms

-- ---- the faults as a walk over the tokens tells them

-- numbers of the code end at 2^64 - 1
abbrev pub capped : ℕ → ℕ
capped n = min n 18446744073709551615

-- the first fault, or else the token after those that were walked over
abbrev pub reached : ℕ → List ℕ → Result ℕ ℕ
reached next [] = Ok (capped next)
reached next (at ∷ faults) = Err (capped at)

-- after a walk over parts that follow each other, the first of which begins at the given token
abbrev pub walked : ℕ → List Part → Result ℕ ℕ
walked start parts = reached (start + tokens_of (map (λ (part : Part). part.0) parts)) (faults_from start parts)

-- after a walk over one part
abbrev pub walked_part : ℕ → Part → Result ℕ ℕ
walked_part start part = reached (start + token_count part.0) (map (λ at. start + at) part.1)

-- the part with the faults that it has in a list
abbrev pub as_part : Form → Part
as_part form = (form, shape_faults form)
