-- The causes that put a form outside the profile, list by list.
use Rattle.std.proofs.Common.{◌≡◌, List, [], ◌∷◌, length, ◌<◌, filter, Bool, true, false, not, ◌&&◌, ◌||◌, if◌then◌else◌, refl, sym, ap, ap₂, ◌∙◌}
use Rattle.std.specs.List.{list_all, list_any, flat_map}
use Rattle.std.proofs.lemmas.List.Folds.{list_any-append, list_all-append}
use Rattle.sigma_base.proofs.SliceLaws.{no_items}
use Rattle.kif_tree.specs.declared.form.Form.{Form, out-Form}
use Rattle.kif_tree.specs.declared.form.Form.TheVariants as form
use Rattle.kif_tree.specs.Shape.{is_list}
use Rattle.kif_tree.specs.Profile.{operands, compounds, is_logical, parts_as_sentences, is_function_list, is_formula, lists_row, is_variable_layer, begins_with_one, applies_own, is_in_profile, may_be_sentence, may_be_argument, operands_fit, fits}
use Rattle.kif_tree.specs.Names.{bound}
use Rattle.kif_tree.specs.CompoundLaws.{compounds-List, compounds_other}

-- ---- tests of all lists

any_flat : {X Y : Type 0} (p : Y → Bool) (f : X → List Y) (xs : List X) → list_any p (flat_map f xs) ≡ list_any (λ x. list_any p (f x)) xs
any_flat p f [] = refl
any_flat p f (x ∷ xs) = list_any-append p (f x) (flat_map f xs) ∙ ap (λ b. list_any p (f x) || b) (any_flat p f xs)

all_flat : {X Y : Type 0} (p : Y → Bool) (f : X → List Y) (xs : List X) → list_all p (flat_map f xs) ≡ list_all (λ x. list_all p (f x)) xs
all_flat p f [] = refl
all_flat p f (x ∷ xs) = list_all-append p (f x) (flat_map f xs) ∙ ap (λ b. list_all p (f x) && b) (all_flat p f xs)

-- a test that some list passes
pub any_of_list : (p : List Form → Bool) (f : Form) (parts : List Form) → f ≡ form.List parts → list_any p (compounds f) ≡ (p parts || list_any (λ g. list_any p (compounds g)) (operands parts))
any_of_list p f parts e = ap (λ g. list_any p (compounds g)) e ∙ ap (list_any p) (compounds-List parts) ∙ ap (λ b. p parts || b) (any_flat p compounds (operands parts))

-- a test that all lists pass
pub all_of_list : (p : List Form → Bool) (f : Form) (parts : List Form) → f ≡ form.List parts → list_all p (compounds f) ≡ (p parts && list_all (λ g. list_all p (compounds g)) (operands parts))
all_of_list p f parts e = ap (λ g. list_all p (compounds g)) e ∙ ap (list_all p) (compounds-List parts) ∙ ap (λ b. p parts && b) (all_flat p compounds (operands parts))

pub any_other : (p : List Form → Bool) (f : Form) → ((parts : List Form) → f ≡ form.List parts → ⊥) → list_any p (compounds f) ≡ false
any_other p f other = ap (list_any p) (compounds_other f other)

pub all_other : (p : List Form → Bool) (f : Form) → ((parts : List Form) → f ≡ form.List parts → ⊥) → list_all p (compounds f) ≡ true
all_other p f other = ap (list_all p) (compounds_other f other)

-- what a quantifier's names head
pub own_operands : (names : List Form) (fs : List Form) → list_any (begins_with_one names) (flat_map compounds fs) ≡ list_any (λ f. list_any (begins_with_one names) (compounds f)) fs
own_operands names fs = any_flat (begins_with_one names) compounds fs

begins_with_none : (parts : List Form) → begins_with_one [] parts ≡ false
begins_with_none [] = refl
begins_with_none (head ∷ parts) = go (is_variable_layer (out-Form head))
  where
    go : (b : Bool) → (b && false) ≡ false
    go true = refl
    go false = refl

none_begins : (pss : List (List Form)) → list_any (begins_with_one []) pss ≡ false
none_begins [] = refl
none_begins (ps ∷ pss) = ap₂ ◌||◌ (begins_with_none ps) (none_begins pss)

-- where no name is bound, none heads a list
pub none_applied : (parts names : List Form) → names ≡ bound parts → length names < 1 → applies_own parts ≡ false
none_applied parts names e none = ap (λ ns. list_any (begins_with_one ns) (flat_map compounds (operands parts))) (sym e ∙ no_items names none) ∙ none_begins (flat_map compounds (operands parts))

-- ---- causes list by list

none_passes : {X : Type 0} (p : X → Bool) (xs : List X) → not (list_any p xs) ≡ list_all (λ x. not (p x)) xs
none_passes p [] = refl
none_passes p (x ∷ xs) = go (p x) (none_passes p xs)
  where
    go : (b : Bool) → not (list_any p xs) ≡ list_all (λ y. not (p y)) xs → not (b || list_any p xs) ≡ (not b && list_all (λ y. not (p y)) xs)
    go true h = refl
    go false h = h

two_by_two : (a b c d : Bool) → ((a && b) && (c && d)) ≡ ((a && c) && (b && d))
two_by_two true true c d = refl
two_by_two true false true d = refl
two_by_two true false false d = refl
two_by_two false b c d = refl

both_pass : {X : Type 0} (p q : X → Bool) (xs : List X) → list_all (λ x. p x && q x) xs ≡ (list_all p xs && list_all q xs)
both_pass p q [] = refl
both_pass p q (x ∷ xs) = ap (λ b. (p x && q x) && b) (both_pass p q xs) ∙ two_by_two (p x) (q x) (list_all p xs) (list_all q xs)

all_alike : {X : Type 0} (p q : X → Bool) → ((x : X) → p x ≡ q x) → (xs : List X) → list_all p xs ≡ list_all q xs
all_alike p q e [] = refl
all_alike p q e (x ∷ xs) = ap₂ ◌&&◌ (e x) (all_alike p q e xs)

twice : (b : Bool) → not (not b) ≡ b
twice true = refl
twice false = refl

any_filtered : (q : List Form → Bool) (t : Form → Bool) (pss : List (List Form))
    → list_any t (flat_map operands (filter q pss)) ≡ list_any (λ ps. q ps && list_any t (operands ps)) pss
any_filtered q t [] = refl
any_filtered q t (ps ∷ pss) = go (q ps) (any_filtered q t pss)
  where
    go : (b : Bool) → list_any t (flat_map operands (filter q pss)) ≡ list_any (λ xs. q xs && list_any t (operands xs)) pss
        → list_any t (flat_map operands (if b then ps ∷ filter q pss else filter q pss)) ≡ ((b && list_any t (operands ps)) || list_any (λ xs. q xs && list_any t (operands xs)) pss)
    go true h = list_any-append t (operands ps) (flat_map operands (filter q pss)) ∙ ap (λ b. list_any t (operands ps) || b) h
    go false h = h

sentences_pass : (fs : List Form) → list_all may_be_sentence fs ≡ (not (list_any (λ f. not (is_list f)) fs) && not (list_any is_function_list fs))
sentences_pass fs =
    both_pass is_list (λ f. not (is_function_list f)) fs
    ∙ sym (ap₂ ◌&&◌ (none_passes (λ f. not (is_list f)) fs ∙ all_alike (λ f. not (not (is_list f))) is_list (λ f. twice (is_list f)) fs) (none_passes is_function_list fs))

operands_causes : (ps : List Form) → operands_fit ps ≡ (not (not (is_logical ps) && list_any is_formula (operands ps))
    && (not (is_logical ps && list_any (λ f. not (is_list f)) (operands ps)) && not (is_logical ps && list_any is_function_list (operands ps))))
operands_causes ps = go (is_logical ps)
  where
    after : (b : Bool) → b ≡ (b && true)
    after true = refl
    after false = refl

    go : (b : Bool) → (if b then list_all may_be_sentence (operands ps) else list_all may_be_argument (operands ps)) ≡ (not (not b && list_any is_formula (operands ps))
        && (not (b && list_any (λ f. not (is_list f)) (operands ps)) && not (b && list_any is_function_list (operands ps))))
    go true = sentences_pass (operands ps)
    go false = sym (none_passes is_formula (operands ps)) ∙ after (not (list_any is_formula (operands ps)))

-- the causes of one list
abbrev formula_here : List Form → Bool
formula_here ps = not (is_logical ps) && list_any is_formula (operands ps)

abbrev leaf_here : List Form → Bool
leaf_here ps = is_logical ps && list_any (λ f. not (is_list f)) (operands ps)

abbrev term_here : List Form → Bool
term_here ps = is_logical ps && list_any is_function_list (operands ps)

all_fit : (pss : List (List Form)) → list_all fits pss ≡ ((not (list_any formula_here pss) && (not (list_any leaf_here pss) && not (list_any term_here pss)))
    && not (list_any lists_row pss) && not (list_any applies_own pss))
unfolding fits
all_fit pss =
    both_pass (λ ps. operands_fit ps && not (lists_row ps)) (λ ps. not (applies_own ps)) pss
    ∙ ap₂ ◌&&◌ (both_pass operands_fit (λ ps. not (lists_row ps)) pss) (sym (none_passes applies_own pss))
    ∙ ap₂ (λ (b c : Bool). (b && c) && not (list_any applies_own pss)) (own_places pss) (sym (none_passes lists_row pss))
  where
    own_places : (qss : List (List Form)) → list_all operands_fit qss ≡ (not (list_any formula_here qss) && (not (list_any leaf_here qss) && not (list_any term_here qss)))
    own_places qss =
        all_alike operands_fit (λ ps. not (formula_here ps) && (not (leaf_here ps) && not (term_here ps))) operands_causes qss
        ∙ both_pass (λ ps. not (formula_here ps)) (λ ps. not (leaf_here ps) && not (term_here ps)) qss
        ∙ ap₂ ◌&&◌ (sym (none_passes formula_here qss)) (both_pass (λ ps. not (leaf_here ps)) (λ ps. not (term_here ps)) qss ∙ sym (ap₂ ◌&&◌ (none_passes leaf_here qss) (none_passes term_here qss)))

gathered : (l t a b c r q : Bool) → (not a && not (not l || b) && not (t || c) && not r && not q) ≡ ((l && not t) && ((not a && (not b && not c)) && not r && not q))
gathered true true true b c r q = refl
gathered true true false true c r q = refl
gathered true true false false c r q = refl
gathered true false true b c r q = refl
gathered true false false true c r q = refl
gathered true false false false c r q = refl
gathered false t true b c r q = refl
gathered false t false b c r q = refl

-- a form is in the profile where it may stand in sentence place and each of its lists fits
pub by_lists : (f : Form) → is_in_profile f ≡ (may_be_sentence f && list_all fits (compounds f))
unfolding is_in_profile
by_lists f =
    let pss : List (List Form) = compounds f in
    ap (λ a. not a && not (not (is_list f) || list_any (λ g. not (is_list g)) (parts_as_sentences f)) && not (is_function_list f || list_any is_function_list (parts_as_sentences f)) && not (list_any lists_row pss) && not (list_any applies_own pss)) (any_filtered (λ ps. not (is_logical ps)) is_formula pss)
    ∙ ap₂ (λ b c. not (list_any formula_here pss) && not (not (is_list f) || b) && not (is_function_list f || c) && not (list_any lists_row pss) && not (list_any applies_own pss)) (any_filtered is_logical (λ g. not (is_list g)) pss) (any_filtered is_logical is_function_list pss)
    ∙ gathered (is_list f) (is_function_list f) (list_any formula_here pss) (list_any leaf_here pss) (list_any term_here pss) (list_any lists_row pss) (list_any applies_own pss)
    ∙ ap (λ b. may_be_sentence f && b) (sym (all_fit pss))
