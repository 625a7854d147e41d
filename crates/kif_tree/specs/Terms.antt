-- What a form is made of, by recursion over forms. In each step the parts of a list stand already replaced by their results.
use Rattle.std.specs.Prelude.{ℕ, ◌+◌, max, sum, List, [], ◌∷◌, ◌++◌, filter, Bool, true, false, not, ◌&&◌}
use Rattle.std.specs.List.{list_all, list_any}
use Rattle.std.specs.Str.{bytes_eq}
use Rattle.kif_tree.specs.declared.form.Form.{Form, fold-Form, out-Form}
use Rattle.kif_tree.specs.declared.form.Form.TheOpen.{Form-F}

-- a name or a text, as its bytes
abbrev pub Bytes : Type 0
Bytes = List ℕ

-- no row variable occurs, and no variable where none may
abbrev pub clean_step : Bool → Form-F Bool → Bool
clean_step variables (Form-F.Word text) = true
clean_step variables (Form-F.Variable text) = variables
clean_step variables (Form-F.Row text) = false
clean_step variables (Form-F.Numeral text) = true
clean_step variables (Form-F.Quoted text) = true
clean_step variables (Form-F.List parts) = list_all (λ part. part) parts

unfoldable pub clean : Bool → Form → Bool
clean variables = fold-Form Bool (clean_step variables)

-- no variable and no row variable occurs
abbrev pub is_ground : Form → Bool
is_ground = clean false

-- no row variable occurs
abbrev pub has_no_row : Form → Bool
has_no_row = clean true

-- the variable occurs
abbrev pub occurs_step : Bytes → Form-F Bool → Bool
occurs_step name (Form-F.Word text) = false
occurs_step name (Form-F.Variable text) = bytes_eq name text
occurs_step name (Form-F.Row text) = false
occurs_step name (Form-F.Numeral text) = false
occurs_step name (Form-F.Quoted text) = false
occurs_step name (Form-F.List parts) = list_any (λ part. part) parts

unfoldable pub occurs : Bytes → Form → Bool
occurs name = fold-Form Bool (occurs_step name)

abbrev pub joined : List (List Bytes) → List Bytes
joined [] = []
joined (names ∷ more) = names ++ joined more

abbrev pub variables_step : Form-F (List Bytes) → List Bytes
variables_step (Form-F.Word text) = []
variables_step (Form-F.Variable text) = text ∷ []
variables_step (Form-F.Row text) = []
variables_step (Form-F.Numeral text) = []
variables_step (Form-F.Quoted text) = []
variables_step (Form-F.List parts) = joined parts

-- the variables in order, each as often as it occurs
unfoldable pub variables : Form → List Bytes
variables = fold-Form (List Bytes) variables_step

-- each name once, at its first place
abbrev pub distinct : List Bytes → List Bytes
distinct [] = []
distinct (name ∷ names) = name ∷ filter (λ other. not (bytes_eq name other)) (distinct names)

-- the names found so far, and then each further name once, at its first place
abbrev pub joined_once : List Bytes → List Bytes → List Bytes
joined_once found names = found ++ filter (λ name. not (list_any (bytes_eq name) found)) (distinct names)

abbrev pub greatest : List ℕ → ℕ
greatest [] = 0
greatest (x ∷ xs) = max x (greatest xs)

abbrev pub after_head : {X : Type 0} → List X → List X
after_head [] = []
after_head (head ∷ arguments) = arguments

-- a list nests one level deeper than its deepest argument, and 1 where it has none; any other form nests 0
abbrev pub depth_step : Form-F ℕ → ℕ
depth_step (Form-F.Word text) = 0
depth_step (Form-F.Variable text) = 0
depth_step (Form-F.Row text) = 0
depth_step (Form-F.Numeral text) = 0
depth_step (Form-F.Quoted text) = 0
depth_step (Form-F.List parts) = greatest (after_head parts) + 1

unfoldable pub depth : Form → ℕ
depth = fold-Form ℕ depth_step

-- how many words, variables, numerals and strings occur
abbrev pub symbols_step : Form-F ℕ → ℕ
symbols_step (Form-F.Word text) = 1
symbols_step (Form-F.Variable text) = 1
symbols_step (Form-F.Row text) = 0
symbols_step (Form-F.Numeral text) = 1
symbols_step (Form-F.Quoted text) = 1
symbols_step (Form-F.List parts) = sum parts

unfoldable pub symbols : Form → ℕ
symbols = fold-Form ℕ symbols_step

-- the parts pass the tests, one by one and in number
abbrev pub all_pass : List (Form → Bool) → List Form → Bool
all_pass [] [] = true
all_pass (test ∷ tests) (part ∷ parts) = test part && all_pass tests parts
all_pass _ _ = false

abbrev pub same_layer : Form-F (Form → Bool) → Form-F Form → Bool
same_layer (Form-F.Word a) (Form-F.Word b) = bytes_eq a b
same_layer (Form-F.Variable a) (Form-F.Variable b) = bytes_eq a b
same_layer (Form-F.Row a) (Form-F.Row b) = bytes_eq a b
same_layer (Form-F.Numeral a) (Form-F.Numeral b) = bytes_eq a b
same_layer (Form-F.Quoted a) (Form-F.Quoted b) = bytes_eq a b
same_layer (Form-F.List tests) (Form-F.List parts) = all_pass tests parts
same_layer _ _ = false

-- the two forms are equal
unfoldable pub same : Form → Form → Bool
same = fold-Form (Form → Bool) (λ layer other. same_layer layer (out-Form other))
