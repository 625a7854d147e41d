-- What each function of `Terms` gives at each kind of form.
use Rattle.std.proofs.Common.{◌≡◌, ℕ, ◌+◌, ◌-◌, ◌<◌, ◌≤◌, max, sum, List, [], ◌∷◌, ◌++◌, map, take, drop, length, get_or, arith, Bool, true, false, ◌&&◌, refl, sym, ap, ◌∙◌}
use Rattle.std.specs.List.{list_all, list_any}
use Rattle.std.proofs.lemmas.List.Folds.{list_all-map}
use Rattle.std.proofs.lemmas.List.{map_more, take_all}
use Rattle.std.proofs.lemmas.List.Sums.{sum_by-append, sum_by-cons}
use Rattle.std.specs.Str.{bytes_eq}
use Rattle.sigma_base.specs.Lists.{list_any-map}
use Rattle.kif_tree.specs.declared.form.Form.{Form}
use Rattle.kif_tree.specs.declared.form.Form.TheVariants as form
use Rattle.kif_tree.specs.Terms.{Bytes, clean, clean_step, occurs, occurs_step, variables, variables_step, joined, depth, depth_step, symbols, symbols_step, greatest}
use Rattle.kif_tree.specs.FormLaws.{induction, fold-Word, fold-Variable, fold-Row, fold-Numeral, fold-Quoted, fold-List}

pub clean-Word : (v : Bool) (text : Bytes) → clean v (form.Word text) ≡ true
unfolding clean
clean-Word v text = fold-Word Bool (clean_step v) text

pub clean-Variable : (v : Bool) (text : Bytes) → clean v (form.Variable text) ≡ v
unfolding clean
clean-Variable v text = fold-Variable Bool (clean_step v) text

pub clean-Row : (v : Bool) (text : Bytes) → clean v (form.Row text) ≡ false
unfolding clean
clean-Row v text = fold-Row Bool (clean_step v) text

pub clean-Numeral : (v : Bool) (text : Bytes) → clean v (form.Numeral text) ≡ true
unfolding clean
clean-Numeral v text = fold-Numeral Bool (clean_step v) text

pub clean-Quoted : (v : Bool) (text : Bytes) → clean v (form.Quoted text) ≡ true
unfolding clean
clean-Quoted v text = fold-Quoted Bool (clean_step v) text

pub clean-parts : (v : Bool) (parts : List Form) → clean v (form.List parts) ≡ list_all (clean v) parts
unfolding clean
clean-parts v parts = fold-List Bool (clean_step v) parts ∙ list_all-map (λ b. b) (clean v) parts

pub ruleset clean_laws = (clean-Word, clean-Variable, clean-Row, clean-Numeral, clean-Quoted, clean-parts)

-- the same of a list's parts by recursion
abbrev pub clean_all : Bool → List Form → Bool
clean_all v [] = true
clean_all v (f ∷ fs) = clean v f && clean_all v fs

each_clean : (v : Bool) (fs : List Form) → list_all (clean v) fs ≡ clean_all v fs
each_clean v [] = refl
each_clean v (f ∷ fs) = ap (λ (b : Bool). clean v f && b) (each_clean v fs)

pub clean-List : (v : Bool) (parts : List Form) → clean v (form.List parts) ≡ clean_all v parts
clean-List v parts = clean-parts v parts ∙ each_clean v parts

pub depth-Word : (text : Bytes) → depth (form.Word text) ≡ 0
unfolding depth
depth-Word = fold-Word ℕ depth_step

pub depth-Variable : (text : Bytes) → depth (form.Variable text) ≡ 0
unfolding depth
depth-Variable = fold-Variable ℕ depth_step

pub depth-Row : (text : Bytes) → depth (form.Row text) ≡ 0
unfolding depth
depth-Row = fold-Row ℕ depth_step

pub depth-Numeral : (text : Bytes) → depth (form.Numeral text) ≡ 0
unfolding depth
depth-Numeral = fold-Numeral ℕ depth_step

pub depth-Quoted : (text : Bytes) → depth (form.Quoted text) ≡ 0
unfolding depth
depth-Quoted = fold-Quoted ℕ depth_step

pub depth-empty : depth (form.List []) ≡ 1
unfolding depth
depth-empty = fold-List ℕ depth_step []

pub depth-List : (head : Form) (arguments : List Form) → depth (form.List (head ∷ arguments)) ≡ greatest (map depth arguments) + 1
unfolding depth
depth-List head arguments = fold-List ℕ depth_step (head ∷ arguments)

-- as a slice pattern names the arguments
pub depth-arguments : (parts : List Form) → 1 ≤ length parts → depth (form.List parts) ≡ greatest (map depth (take (length parts - 1) (drop 1 parts))) + 1
depth-arguments [] some = absurd (omega (arith, some))
depth-arguments (head ∷ arguments) some =
    depth-List head arguments ∙ ap (λ (xs : List Form). greatest (map depth xs) + 1) (sym (take_all (length (head ∷ arguments) - 1) arguments (omega arith)))

pub none-empty : {X : Type 0} (xs : List X) → length xs < 1 → xs ≡ []
none-empty [] below = refl
none-empty (x ∷ xs) below = absurd (omega (arith, below))

pub ruleset depth_laws = (depth-Word, depth-Variable, depth-Row, depth-Numeral, depth-Quoted, depth-empty, depth-List)

pub depth_other : (f : Form) → ((parts : List Form) → f ≡ form.List parts → ⊥) → depth f ≡ 0
depth_other = induction (λ f. ((parts : List Form) → f ≡ form.List parts → ⊥) → depth f ≡ 0) (record {
  word = λ text other. depth-Word text;
  variable = λ text other. depth-Variable text;
  row = λ text other. depth-Row text;
  numeral = λ text other. depth-Numeral text;
  quoted = λ text other. depth-Quoted text;
  list = λ parts each other. absurd (other parts refl);
})

greatest-push : (xs : List ℕ) (y : ℕ) → greatest (xs ++ y ∷ []) ≡ max (greatest xs) y
greatest-push [] y = omega arith
greatest-push (x ∷ xs) y = omega (arith, greatest-push xs y)

-- at the item of a loop
pub greatest_more : {X : Type 0} (f : X → ℕ) (xs : List X) (i : ℕ) (x : X) → i < length xs → x ≡ get_or xs i x → greatest (map f (take (i + 1) xs)) ≡ max (greatest (map f (take i xs))) (f x)
greatest_more f xs i x lt is = ap greatest (map_more f xs i x lt) ∙ greatest-push (map f (take i xs)) (f (get_or xs i x)) ∙ ap (λ y. max (greatest (map f (take i xs))) (f y)) (sym is)

pub occurs-Word : (name text : Bytes) → occurs name (form.Word text) ≡ false
unfolding occurs
occurs-Word name = fold-Word Bool (occurs_step name)

pub occurs-Variable : (name text : Bytes) → occurs name (form.Variable text) ≡ bytes_eq name text
unfolding occurs
occurs-Variable name = fold-Variable Bool (occurs_step name)

pub occurs-Row : (name text : Bytes) → occurs name (form.Row text) ≡ false
unfolding occurs
occurs-Row name = fold-Row Bool (occurs_step name)

pub occurs-Numeral : (name text : Bytes) → occurs name (form.Numeral text) ≡ false
unfolding occurs
occurs-Numeral name = fold-Numeral Bool (occurs_step name)

pub occurs-Quoted : (name text : Bytes) → occurs name (form.Quoted text) ≡ false
unfolding occurs
occurs-Quoted name = fold-Quoted Bool (occurs_step name)

pub occurs-List : (name : Bytes) (parts : List Form) → occurs name (form.List parts) ≡ list_any (occurs name) parts
unfolding occurs
occurs-List name parts = fold-List Bool (occurs_step name) parts ∙ list_any-map (λ b. b) (occurs name) parts

pub occurs_other : (name : Bytes) (f : Form) → ((text : Bytes) → f ≡ form.Variable text → ⊥) → ((parts : List Form) → f ≡ form.List parts → ⊥) → occurs name f ≡ false
occurs_other name = induction (λ f. ((text : Bytes) → f ≡ form.Variable text → ⊥) → ((parts : List Form) → f ≡ form.List parts → ⊥) → occurs name f ≡ false) (record {
  word = λ text _ _. occurs-Word name text;
  variable = λ text other _. absurd (other text refl);
  row = λ text _ _. occurs-Row name text;
  numeral = λ text _ _. occurs-Numeral name text;
  quoted = λ text _ _. occurs-Quoted name text;
  list = λ parts each _ other. absurd (other parts refl);
})

pub ruleset occurs_laws = (occurs-Word, occurs-Variable, occurs-Row, occurs-Numeral, occurs-Quoted, occurs-List, occurs_other)

-- ---- variables

pub variables-Word : (text : Bytes) → variables (form.Word text) ≡ []
unfolding variables
variables-Word = fold-Word (List Bytes) variables_step

pub variables-Variable : (text : Bytes) → variables (form.Variable text) ≡ text ∷ []
unfolding variables
variables-Variable = fold-Variable (List Bytes) variables_step

pub variables-Row : (text : Bytes) → variables (form.Row text) ≡ []
unfolding variables
variables-Row = fold-Row (List Bytes) variables_step

pub variables-Numeral : (text : Bytes) → variables (form.Numeral text) ≡ []
unfolding variables
variables-Numeral = fold-Numeral (List Bytes) variables_step

pub variables-Quoted : (text : Bytes) → variables (form.Quoted text) ≡ []
unfolding variables
variables-Quoted = fold-Quoted (List Bytes) variables_step

pub variables-List : (parts : List Form) → variables (form.List parts) ≡ joined (map variables parts)
unfolding variables
variables-List = fold-List (List Bytes) variables_step

pub variables_other : (f : Form) → ((text : Bytes) → f ≡ form.Variable text → ⊥) → ((parts : List Form) → f ≡ form.List parts → ⊥) → variables f ≡ []
variables_other = induction (λ f. ((text : Bytes) → f ≡ form.Variable text → ⊥) → ((parts : List Form) → f ≡ form.List parts → ⊥) → variables f ≡ []) (record {
  word = λ text _ _. variables-Word text;
  variable = λ text other _. absurd (other text refl);
  row = λ text _ _. variables-Row text;
  numeral = λ text _ _. variables-Numeral text;
  quoted = λ text _ _. variables-Quoted text;
  list = λ parts each _ other. absurd (other parts refl);
})

pub ruleset variables_laws = (variables-Variable, variables-List, variables_other)

-- ---- symbols

pub symbols-Word : (text : Bytes) → symbols (form.Word text) ≡ 1
unfolding symbols
symbols-Word = fold-Word ℕ symbols_step

pub symbols-Variable : (text : Bytes) → symbols (form.Variable text) ≡ 1
unfolding symbols
symbols-Variable = fold-Variable ℕ symbols_step

pub symbols-Row : (text : Bytes) → symbols (form.Row text) ≡ 0
unfolding symbols
symbols-Row = fold-Row ℕ symbols_step

pub symbols-Numeral : (text : Bytes) → symbols (form.Numeral text) ≡ 1
unfolding symbols
symbols-Numeral = fold-Numeral ℕ symbols_step

pub symbols-Quoted : (text : Bytes) → symbols (form.Quoted text) ≡ 1
unfolding symbols
symbols-Quoted = fold-Quoted ℕ symbols_step

pub symbols-List : (parts : List Form) → symbols (form.List parts) ≡ sum (map symbols parts)
unfolding symbols
symbols-List = fold-List ℕ symbols_step

pub symbols_other : (f : Form) → ((text : Bytes) → f ≡ form.Row text → ⊥) → ((parts : List Form) → f ≡ form.List parts → ⊥) → symbols f ≡ 1
symbols_other = induction (λ f. ((text : Bytes) → f ≡ form.Row text → ⊥) → ((parts : List Form) → f ≡ form.List parts → ⊥) → symbols f ≡ 1) (record {
  word = λ text _ _. symbols-Word text;
  variable = λ text _ _. symbols-Variable text;
  row = λ text other _. absurd (other text refl);
  numeral = λ text _ _. symbols-Numeral text;
  quoted = λ text _ _. symbols-Quoted text;
  list = λ parts each _ other. absurd (other parts refl);
})

pub ruleset symbols_laws = (symbols-Word, symbols-Variable, symbols-Row, symbols-Numeral, symbols-Quoted, symbols-List)

sum-push : (xs : List ℕ) (y : ℕ) → sum (xs ++ y ∷ []) ≡ sum xs + y
sum-push xs y = sum_by-append (λ x. x) xs (y ∷ []) ∙ ap (λ z. sum xs + z) (sum_by-cons (λ x. x) y [] ∙ omega arith)

-- at the item of a loop
pub sum_more : {X : Type 0} (f : X → ℕ) (xs : List X) (i : ℕ) (x : X) → i < length xs → x ≡ get_or xs i x → sum (map f (take (i + 1) xs)) ≡ sum (map f (take i xs)) + f x
sum_more f xs i x lt is = ap sum (map_more f xs i x lt) ∙ sum-push (map f (take i xs)) (f (get_or xs i x)) ∙ ap (λ y. sum (map f (take i xs)) + f y) (sym is)
