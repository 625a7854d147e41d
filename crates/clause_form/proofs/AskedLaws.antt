-- The variables among the names that are free in a form.
use Rattle.std.proofs.Common.{◌≡◌, ℕ, ◌+◌, ◌<◌, List, [], ◌∷◌, ◌++◌, length, take, get_or, Bool, true, false, refl, sym, ap, ◌∙◌}
use Rattle.std.specs.List.{flat_map, list_all}
use Rattle.std.proofs.lemmas.List.{take_more}
use Rattle.std.proofs.lemmas.List.Folds.{list_all_at}
use Rattle.std.proofs.lemmas.Grind.{flat_map-append}
use Rattle.kif_tree.specs.declared.form.Form.{Form}
use Rattle.kif_tree.specs.declared.form.Form.TheVariants as form
use Rattle.kif_tree.specs.Terms.{Bytes, variables}
use Rattle.kif_tree.specs.Names.{free, free_names}
use Rattle.kif_tree.specs.NameLaws.{each_once_all, free_names_all}
use Rattle.kif_tree.specs.Shape.{is_name, is_name_layer}
use Rattle.kif_tree.proofs.TermLaws.{variables-Variable, variables_other}

-- a name is a variable or a row variable
free_names_are : (query : Form) → list_all is_name (free_names query) ≡ true
free_names_are query = each_once_all is_name (free query) (free_names_all query)

one_is : (query : Form) (names : List Form) (i : ℕ) (name : Form) → names ≡ free_names query → i < length names → name ≡ get_or names i name → is_name name ≡ true
one_is query names i name e h is = go (is_name name) refl
  where
    go : (b : Bool) → is_name name ≡ b → is_name name ≡ true
    go true k = k
    go false k =
        let none : list_all is_name names ≡ false = list_all_at is_name names i name h (ap is_name (sym is) ∙ k) in
        let every : list_all is_name names ≡ true = ap (list_all is_name) e ∙ free_names_are query in
        absurd (cc)

no_list : (name : Form) → is_name name ≡ true → (parts : List Form) → name ≡ form.List parts → ⊥
no_list name h parts e =
    let list : is_name (form.List parts) ≡ false = ap is_name_layer (form.outs-List parts) in
    let same : is_name name ≡ is_name (form.List parts) = ap is_name e in
    absurd (cc)

without_more : (names : List Bytes) → names ++ [] ≡ names
without_more [] = refl
without_more (name ∷ names) = ap (λ (ns : List Bytes). name ∷ ns) (without_more names)

more_names : (names : List Form) (i : ℕ) (name : Form) → i < length names → name ≡ get_or names i name
    → flat_map variables (take (i + 1) names) ≡ flat_map variables (take i names) ++ variables name
more_names names i name h is =
    ap (flat_map variables) (take_more names i name h)
    ∙ flat_map-append variables (take i names) (get_or names i name ∷ [])
    ∙ ap (λ (ns : List Bytes). flat_map variables (take i names) ++ ns) (without_more (variables (get_or names i name)) ∙ sym (ap variables is))

-- one more name, as at a step of a loop
pub asks_variable : (names : List Form) (i : ℕ) (name : Form) (text : Bytes) → i < length names → name ≡ get_or names i name → name ≡ form.Variable text
    → flat_map variables (take (i + 1) names) ≡ flat_map variables (take i names) ++ text ∷ []
asks_variable names i name text h is variable =
    more_names names i name h is ∙ ap (λ (ns : List Bytes). flat_map variables (take i names) ++ ns) (ap variables variable ∙ variables-Variable text)

pub asks_no_other : (query : Form) (names : List Form) (i : ℕ) (name : Form) → names ≡ free_names query → i < length names → name ≡ get_or names i name
    → ((text : Bytes) → name ≡ form.Variable text → ⊥) → flat_map variables (take (i + 1) names) ≡ flat_map variables (take i names)
asks_no_other query names i name e h is no_variable =
    more_names names i name h is
    ∙ ap (λ (ns : List Bytes). flat_map variables (take i names) ++ ns) (variables_other name no_variable (no_list name (one_is query names i name e h is)))
    ∙ without_more (flat_map variables (take i names))
