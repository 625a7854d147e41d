-- The shapes of instances of equality as tests.
use Rattle.std.specs.Prelude.{List, [], ◌∷◌, Bool, true, false, not, ◌&&◌, ◌||◌, Option, Some, None}
use Rattle.kif_tree.specs.declared.form.Form.{Form, out-Form}
use Rattle.kif_tree.specs.declared.form.Form.TheOpen.{Form-F}
use Rattle.kif_tree.specs.declared.clause.Literal.{Literal}
use Rattle.kif_tree.specs.Terms.{same}
use Rattle.kif_tree.specs.Clauses.{Literals, same_sign}
use Rattle.calculus.specs.declared.places.Sides.{Sides}
use Rattle.calculus.specs.Rules.{given, sides}

-- something is there and passes the test
abbrev pub told : {A : Type 0} → Option A → (A → Bool) → Bool
told None test = false
told (Some a) test = test a

-- ---- lists that differ at one argument place

abbrev pub all_same : List Form → List Form → Bool
all_same [] [] = true
all_same [] (y ∷ ys) = false
all_same (x ∷ xs) [] = false
all_same (x ∷ xs) (y ∷ ys) = same x y && all_same xs ys

-- the arguments are the same but for one place, where the first have a and the second b
abbrev pub swaps : Form → Form → List Form → List Form → Bool
swaps a b [] ys = false
swaps a b (x ∷ xs) [] = false
swaps a b (x ∷ xs) (y ∷ ys) = ((same x a && same y b) && all_same xs ys) || (same x y && swaps a b xs ys)

abbrev pub parts_swap : Form → Form → List Form → List Form → Bool
parts_swap a b [] qs = false
parts_swap a b (head ∷ xs) [] = false
parts_swap a b (head ∷ xs) (other ∷ ys) = same head other && swaps a b xs ys

abbrev pub parts_in : Form-F Form → List Form
parts_in (Form-F.Word text) = []
parts_in (Form-F.Variable text) = []
parts_in (Form-F.Row text) = []
parts_in (Form-F.Numeral text) = []
parts_in (Form-F.Quoted text) = []
parts_in (Form-F.List parts) = parts

abbrev pub parts_of : Form → List Form
parts_of f = parts_in (out-Form f)

-- the lists have one head, and their arguments are the same but for one place
abbrev pub swapped : Form → Form → Form → Form → Bool
swapped a b f g = parts_swap a b (parts_of f) (parts_of g)

-- ---- the shapes

-- the sides of an equality of that sign
abbrev pub signed_sides : Bool → Literal → Option Sides
signed_sides positive literal = given (same_sign positive literal.positive) (sides literal.atom)

abbrev pub reflexive_test : Literal → Bool
reflexive_test l = told (signed_sides true l) (λ e. same e.left e.right)

abbrev pub symmetric_test : Sides → Sides → Bool
symmetric_test e d = same d.left e.right && same d.right e.left

abbrev pub pair_test : Literal → Literal → Bool
pair_test l m = told (signed_sides false l) (λ e. told (signed_sides true m) (λ d. symmetric_test e d || swapped e.left e.right d.left d.right))

abbrev pub transitive_test : Sides → Sides → Sides → Bool
transitive_test e d c = same d.left e.right && (same c.left e.left && same c.right d.right)

abbrev pub chain_test : Sides → Literal → Literal → Bool
chain_test e m n = told (signed_sides false m) (λ d. told (signed_sides true n) (transitive_test e d))

abbrev pub replacing_test : Sides → Literal → Literal → Bool
replacing_test e m n = not m.positive && (n.positive && swapped e.left e.right m.atom n.atom)

abbrev pub triple_test : Literal → Literal → Literal → Bool
triple_test l m n = told (signed_sides false l) (λ e. chain_test e m n || replacing_test e m n)

abbrev pub shape_test : Literals → Bool
shape_test [] = false
shape_test (l ∷ []) = reflexive_test l
shape_test (l ∷ m ∷ []) = pair_test l m
shape_test (l ∷ m ∷ n ∷ []) = triple_test l m n
shape_test (l ∷ m ∷ n ∷ k ∷ more) = false
