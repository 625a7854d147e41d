-- What the functions of `Names` give at each kind of form, and laws of names in lists.
use Rattle.std.proofs.Common.{◌≡◌, List, [], ◌∷◌, ◌++◌, map, filter, Bool, true, false, not, ◌&&◌, ◌||◌, if◌then◌else◌, refl, sym, ap, ap₂, ◌∙◌}
use Rattle.std.specs.List.{flat_map, list_all, list_any}
use Rattle.std.proofs.lemmas.List.Elements.{filter-append}
use Rattle.std.proofs.lemmas.List.Folds.{list_any-append, list_all-append}
use Rattle.std.proofs.lemmas.Map.Views.{any-filter_same}
use Rattle.sigma_base.specs.Lists.{Each}
use Rattle.kif_tree.specs.declared.form.Form.{Form, para-Form, para-roll-Form, out-Form}
use Rattle.kif_tree.specs.declared.form.Form.TheVariants as form
use Rattle.kif_tree.specs.declared.form.Form.TheOpen.{Form-F}
use Rattle.kif_tree.specs.Terms.{Bytes, same}
use Rattle.kif_tree.specs.Shape.{is_name, is_name_layer, is_quantifier, lists_names, lists_names_layer}
use Rattle.kif_tree.specs.Names.{parts_layer, bound, is_other, free, free_step, each_once, lists, lists_step}
use Rattle.kif_tree.specs.FormLaws.{induction}
use Rattle.kif_tree.specs.SameLaws.{same-Decides, same_equivalence}

-- ---- parts beside their results

pub beside_forms : {A : Type 0} (result : Form → A) (parts : List Form) → map (λ (part : Form × A). part.0) (map (λ f. (f, result f)) parts) ≡ parts
beside_forms result [] = refl
beside_forms result (f ∷ parts) = ap (λ fs. f ∷ fs) (beside_forms result parts)

pub beside_results : {A : Type 0} (result : Form → List A) (parts : List Form) → flat_map (λ (part : Form × List A). part.1) (map (λ f. (f, result f)) parts) ≡ flat_map result parts
beside_results result [] = refl
beside_results result (f ∷ parts) = ap (λ xs. result f ++ xs) (beside_results result parts)

-- ---- free variables and row variables

pub free-Word : (text : Bytes) → free (form.Word text) ≡ []
unfolding free
free-Word text = ap (para-Form (List Form) free_step) (sym (form.rolls-Word text)) ∙ para-roll-Form (List Form) free_step (Form-F.Word text)

pub free-Variable : (text : Bytes) → free (form.Variable text) ≡ form.Variable text ∷ []
unfolding free
free-Variable text = ap (para-Form (List Form) free_step) (sym (form.rolls-Variable text)) ∙ para-roll-Form (List Form) free_step (Form-F.Variable text)

pub free-Row : (text : Bytes) → free (form.Row text) ≡ form.Row text ∷ []
unfolding free
free-Row text = ap (para-Form (List Form) free_step) (sym (form.rolls-Row text)) ∙ para-roll-Form (List Form) free_step (Form-F.Row text)

pub free-Numeral : (text : Bytes) → free (form.Numeral text) ≡ []
unfolding free
free-Numeral text = ap (para-Form (List Form) free_step) (sym (form.rolls-Numeral text)) ∙ para-roll-Form (List Form) free_step (Form-F.Numeral text)

pub free-Quoted : (text : Bytes) → free (form.Quoted text) ≡ []
unfolding free
free-Quoted text = ap (para-Form (List Form) free_step) (sym (form.rolls-Quoted text)) ∙ para-roll-Form (List Form) free_step (Form-F.Quoted text)

-- those of the parts, but for those that the list itself quantifies
pub free-List : (parts : List Form) → free (form.List parts) ≡ filter (is_other (bound parts)) (flat_map free parts)
unfolding free
free-List parts =
    ap (para-Form (List Form) free_step) (sym (form.rolls-List parts))
    ∙ para-roll-Form (List Form) free_step (Form-F.List parts)
    ∙ ap₂ (λ (fs names : List Form). filter (is_other (bound fs)) names) (beside_forms free parts) (beside_results free parts)

pub free_other : (f : Form) → ((text : Bytes) → f ≡ form.Variable text → ⊥) → ((text : Bytes) → f ≡ form.Row text → ⊥) → ((parts : List Form) → f ≡ form.List parts → ⊥) → free f ≡ []
free_other = induction (λ f. ((text : Bytes) → f ≡ form.Variable text → ⊥) → ((text : Bytes) → f ≡ form.Row text → ⊥) → ((parts : List Form) → f ≡ form.List parts → ⊥) → free f ≡ []) (record {
  word = λ text _ _ _. free-Word text;
  variable = λ text other _ _. absurd (other text refl);
  row = λ text _ other _. absurd (other text refl);
  numeral = λ text _ _ _. free-Numeral text;
  quoted = λ text _ _ _. free-Quoted text;
  list = λ parts each _ _ other. absurd (other parts refl);
})

pub ruleset free_laws = (free-Word, free-Variable, free-Row, free-Numeral, free-Quoted, free-List, free_other)

-- ---- lists at any depth

pub lists-Word : (text : Bytes) → lists (form.Word text) ≡ []
unfolding lists
lists-Word text = ap (para-Form (List (List Form)) lists_step) (sym (form.rolls-Word text)) ∙ para-roll-Form (List (List Form)) lists_step (Form-F.Word text)

pub lists-Variable : (text : Bytes) → lists (form.Variable text) ≡ []
unfolding lists
lists-Variable text = ap (para-Form (List (List Form)) lists_step) (sym (form.rolls-Variable text)) ∙ para-roll-Form (List (List Form)) lists_step (Form-F.Variable text)

pub lists-Row : (text : Bytes) → lists (form.Row text) ≡ []
unfolding lists
lists-Row text = ap (para-Form (List (List Form)) lists_step) (sym (form.rolls-Row text)) ∙ para-roll-Form (List (List Form)) lists_step (Form-F.Row text)

pub lists-Numeral : (text : Bytes) → lists (form.Numeral text) ≡ []
unfolding lists
lists-Numeral text = ap (para-Form (List (List Form)) lists_step) (sym (form.rolls-Numeral text)) ∙ para-roll-Form (List (List Form)) lists_step (Form-F.Numeral text)

pub lists-Quoted : (text : Bytes) → lists (form.Quoted text) ≡ []
unfolding lists
lists-Quoted text = ap (para-Form (List (List Form)) lists_step) (sym (form.rolls-Quoted text)) ∙ para-roll-Form (List (List Form)) lists_step (Form-F.Quoted text)

-- the list itself, and then those of its parts
pub lists-List : (parts : List Form) → lists (form.List parts) ≡ parts ∷ flat_map lists parts
unfolding lists
lists-List parts =
    ap (para-Form (List (List Form)) lists_step) (sym (form.rolls-List parts))
    ∙ para-roll-Form (List (List Form)) lists_step (Form-F.List parts)
    ∙ ap₂ ◌∷◌ (beside_forms lists parts) (beside_results lists parts)

pub lists_other : (f : Form) → ((parts : List Form) → f ≡ form.List parts → ⊥) → lists f ≡ []
lists_other = induction (λ f. ((parts : List Form) → f ≡ form.List parts → ⊥) → lists f ≡ []) (record {
  word = λ text _. lists-Word text;
  variable = λ text _. lists-Variable text;
  row = λ text _. lists-Row text;
  numeral = λ text _. lists-Numeral text;
  quoted = λ text _. lists-Quoted text;
  list = λ parts each other. absurd (other parts refl);
})

pub ruleset lists_laws = (lists-List, lists_other)

-- ---- filters

pub filter_both : {X : Type 0} (p q : X → Bool) (xs : List X) → filter p (filter q xs) ≡ filter (λ x. q x && p x) xs
filter_both p q [] = refl
filter_both {X = X} p q (x ∷ xs) = by_case (q x) (p x) (filter_both p q xs)
  where
    by_case : (b c : Bool) → filter p (filter q xs) ≡ filter (λ x. q x && p x) xs → filter p (if b then x ∷ filter q xs else filter q xs) ≡ (if (b && p x) then x ∷ filter (λ x. q x && p x) xs else filter (λ x. q x && p x) xs)
    by_case true c rest = ap (λ (zs : List X). if p x then x ∷ zs else zs) rest
    by_case false c rest = rest

pub filter_alike : {X : Type 0} (p q : X → Bool) → ((x : X) → p x ≡ q x) → (xs : List X) → filter p xs ≡ filter q xs
filter_alike p q e [] = refl
filter_alike {X = X} p q e (x ∷ xs) = ap₂ (λ (b : Bool) (zs : List X). if b then x ∷ zs else zs) (e x) (filter_alike p q e xs)

pub all_filtered : {X : Type 0} (p q : X → Bool) (xs : List X) → list_all p xs ≡ true → list_all p (filter q xs) ≡ true
all_filtered p q [] h = refl
all_filtered p q (x ∷ xs) h = go (p x) (q x) refl h (all_filtered p q xs)
  where
    go : (b c : Bool) → p x ≡ b → (b && list_all p xs) ≡ true → (list_all p xs ≡ true → list_all p (filter q xs) ≡ true) → list_all p (if c then x ∷ filter q xs else filter q xs) ≡ true
    go true true e k rest = ap₂ ◌&&◌ e (rest k)
    go true false e k rest = rest k
    go false c e k rest = absurd (cc)

-- ---- names that aren't among others

pub same_turned : (f g : Form) → same f g ≡ same g f
same_turned f g = same_equivalence.symm f g

pub is_other_append : (xs ys : List Form) (f : Form) → is_other (xs ++ ys) f ≡ (is_other xs f && is_other ys f)
is_other_append xs ys f = ap not (list_any-append (same f) xs ys) ∙ neither (list_any (same f) xs) (list_any (same f) ys)
  where
    neither : (a b : Bool) → not (a || b) ≡ (not a && not b)
    neither true b = refl
    neither false b = refl

-- what is neither among these nor among those
pub other_twice : (xs ys names : List Form) → filter (is_other xs) (filter (is_other ys) names) ≡ filter (is_other (ys ++ xs)) names
other_twice xs ys names = filter_both (is_other xs) (is_other ys) names ∙ filter_alike (λ f. is_other ys f && is_other xs f) (is_other (ys ++ xs)) (λ f. sym (is_other_append ys xs f)) names

pub other_than_none : (names : List Form) → filter (is_other []) names ≡ names
other_than_none [] = refl
other_than_none (f ∷ names) = ap (λ (fs : List Form). f ∷ fs) (other_than_none names)

-- ---- each form once

abbrev apart : Form → Form → Bool
apart x y = not (same x y)

-- of two lists in order: those of the second that aren't in the first come after it
pub each_once_append : (xs ys : List Form) → each_once (xs ++ ys) ≡ each_once xs ++ filter (is_other xs) (each_once ys)
each_once_append [] ys = sym (other_than_none (each_once ys))
each_once_append (x ∷ xs) ys =
    ap (λ (fs : List Form). x ∷ filter (apart x) fs) (each_once_append xs ys)
    ∙ ap (λ (fs : List Form). x ∷ fs)
    (filter-append (apart x) (each_once xs) (filter (is_other xs) (each_once ys))
    ∙ ap (λ (fs : List Form). filter (apart x) (each_once xs) ++ fs)
    (filter_both (apart x) (is_other xs) (each_once ys)
    ∙ filter_alike (λ y. is_other xs y && apart x y) (is_other (x ∷ xs)) with_first (each_once ys)))
  where
    neither : (a b : Bool) → (not b && not a) ≡ not (a || b)
    neither true true = refl
    neither true false = refl
    neither false true = refl
    neither false false = refl

    with_first : (y : Form) → (is_other xs y && apart x y) ≡ is_other (x ∷ xs) y
    with_first y = ap (λ b. is_other xs y && not b) (same_turned x y) ∙ neither (same y x) (list_any (same y) xs)

-- and then one more
pub each_once_last : (xs : List Form) (y : Form) → each_once (xs ++ y ∷ []) ≡ each_once xs ++ (if is_other xs y then y ∷ [] else [])
each_once_last xs y = each_once_append xs (y ∷ [])

same_both : (f x y : Form) → same f x ≡ false → same f y ≡ true → not (same x y) ≡ true
same_both f x y apart is = go (same x y) refl
  where
    go : (b : Bool) → same x y ≡ b → not b ≡ true
    go true e =
        let here : f ≡ y = (same-Decides f y).0 is in
        let there : x ≡ y = (same-Decides x y).0 e in
        let no_way : same f x ≡ true = (same-Decides f x).1 (here ∙ sym there) in
        absurd (cc)
    go false e = refl

-- it has the forms of the list
pub each_once_has : (f : Form) (xs : List Form) → list_any (same f) (each_once xs) ≡ list_any (same f) xs
each_once_has f [] = refl
each_once_has f (x ∷ xs) = go (same f x) refl (each_once_has f xs)
  where
    go : (b : Bool) → same f x ≡ b → list_any (same f) (each_once xs) ≡ list_any (same f) xs → (b || list_any (same f) (filter (apart x) (each_once xs))) ≡ (b || list_any (same f) xs)
    go true e rest = refl
    go false e rest = any-filter_same (same f) (apart x) true (λ y is. same_both f x y e is) (each_once xs) ∙ rest

pub each_once_filter : (p : Form → Bool) (xs : List Form) → each_once (filter p xs) ≡ filter p (each_once xs)
each_once_filter p [] = refl
each_once_filter p (x ∷ xs) = go (p x) refl (each_once_filter p xs)
  where
    turned : (a b : Bool) → (a && b) ≡ (b && a)
    turned true true = refl
    turned true false = refl
    turned false true = refl
    turned false false = refl

    by_case : (y : Form) → p x ≡ false → (b : Bool) → same x y ≡ b → (not b && p y) ≡ p y
    by_case y e true k = sym (ap p (sym ((same-Decides x y).0 k)) ∙ e)
    by_case y e false k = refl

    go : (b : Bool) → p x ≡ b → each_once (filter p xs) ≡ filter p (each_once xs)
        → each_once (if b then x ∷ filter p xs else filter p xs) ≡ (if b then x ∷ filter p (filter (apart x) (each_once xs)) else filter p (filter (apart x) (each_once xs)))
    go true e rest = ap (λ (fs : List Form). x ∷ fs)
        (ap (filter (apart x)) rest ∙ filter_both (apart x) p (each_once xs)
        ∙ filter_alike (λ y. p y && apart x y) (λ y. apart x y && p y) (λ y. turned (p y) (apart x y)) (each_once xs) ∙ sym (filter_both p (apart x) (each_once xs)))
    go false e rest = rest ∙ sym (filter_both p (apart x) (each_once xs) ∙ filter_alike (λ y. apart x y && p y) p (λ y. by_case y e (same x y) refl) (each_once xs))

pub each_once_all : (p : Form → Bool) (xs : List Form) → list_all p xs ≡ true → list_all p (each_once xs) ≡ true
each_once_all p [] h = refl
each_once_all p (x ∷ xs) h = go (p x) h (each_once_all p xs)
  where
    go : (b : Bool) → (b && list_all p xs) ≡ true → (list_all p xs ≡ true → list_all p (each_once xs) ≡ true) → (b && list_all p (filter (apart x) (each_once xs))) ≡ true
    go true k rest = all_filtered p (apart x) (each_once xs) (rest k)
    go false k rest = k

-- ---- what is free or bound is a variable or a row variable

pub bound_names : (parts : List Form) → lists_names (bound parts) ≡ true
bound_names [] = refl
bound_names (a ∷ []) = refl
bound_names (a ∷ b ∷ []) = refl
bound_names (a ∷ b ∷ c ∷ d ∷ parts) = refl
bound_names (head ∷ names ∷ body ∷ []) = go (is_quantifier head) (out-Form names)
  where
    listed : (parts : List Form) (b : Bool) → lists_names parts ≡ b → lists_names (if b then parts else []) ≡ true
    listed parts true e = e
    listed parts false e = refl

    go : (b : Bool) (layer : Form-F Form) → lists_names (if b && lists_names_layer layer then parts_layer layer else []) ≡ true
    go true (Form-F.List parts) = listed parts (lists_names parts) refl
    go true _ = refl
    go false layer = refl

-- a form among names is a name
pub among_names : (names : List Form) (f : Form) → lists_names names ≡ true → (is_name f && list_any (same f) names) ≡ list_any (same f) names
among_names [] f all = none (is_name f)
  where
    none : (b : Bool) → (b && false) ≡ false
    none true = refl
    none false = refl
among_names (g ∷ names) f all = go (same f g) refl (is_name g) refl all (among_names names f)
  where
    go : (b : Bool) → same f g ≡ b → (n : Bool) → is_name g ≡ n → (n && lists_names names) ≡ true → (lists_names names ≡ true → (is_name f && list_any (same f) names) ≡ list_any (same f) names)
        → (is_name f && (b || list_any (same f) names)) ≡ (b || list_any (same f) names)
    go true k true m h rest = ap (λ b. b && true) (ap is_name ((same-Decides f g).0 k) ∙ m)
    go false k true m h rest = rest h
    go b k false m h rest = absurd (cc)

pub free_names_all : (f : Form) → lists_names (free f) ≡ true
free_names_all = induction (λ f. lists_names (free f) ≡ true) (record {
  word = λ text. ap lists_names (free-Word text);
  variable = λ text. ap lists_names (free-Variable text) ∙ ap₂ ◌&&◌ (ap is_name_layer (form.outs-Variable text)) refl;
  row = λ text. ap lists_names (free-Row text) ∙ ap₂ ◌&&◌ (ap is_name_layer (form.outs-Row text)) refl;
  numeral = λ text. ap lists_names (free-Numeral text);
  quoted = λ text. ap lists_names (free-Quoted text);
  list = λ parts each. ap lists_names (free-List parts) ∙ all_filtered is_name (is_other (bound parts)) (flat_map free parts) (of_parts parts each);
})
  where
    of_parts : (parts : List Form) → Each (λ f. lists_names (free f) ≡ true) parts → lists_names (flat_map free parts) ≡ true
    of_parts [] each = refl
    of_parts (f ∷ parts) each = list_all-append is_name (free f) (flat_map free parts) ∙ ap₂ ◌&&◌ each.0 (of_parts parts each.1)
