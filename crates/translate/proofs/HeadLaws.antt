-- In the profile a variable that heads a list is free, and no quantifier hides it or a row variable.
use Rattle.std.proofs.Common.{◌≡◌, List, [], ◌∷◌, ◌++◌, map, Bool, true, false, not, ◌&&◌, ◌||◌, if◌then◌else◌, refl, sym, ap, ap₂, ◌∙◌, subst, inl, inr, ◌⊎◌}
use Rattle.std.specs.List.{list_any, flat_map}
use Rattle.sigma_base.specs.Lists.{Each}
use Rattle.kif_tree.specs.declared.form.Form.{Form, out-Form}
use Rattle.kif_tree.specs.declared.form.Form.TheVariants as form
use Rattle.kif_tree.specs.declared.form.Form.TheOpen.{Form-F}
use Rattle.kif_tree.specs.CompoundLaws.{compounds-List, compounds_other}
use Rattle.kif_tree.specs.FormLaws.{induction}
use Rattle.kif_tree.specs.NameLaws.{free-Variable, free-List, each_once_has}
use Rattle.kif_tree.specs.Names.{parts_in, free, each_once, bound, is_other}
use Rattle.kif_tree.specs.Profile.{without_first, lists_variables, operands, compounds, is_variable_layer, lists_row, begins_with_one, applies_own, operands_fit, fits}
use Rattle.kif_tree.specs.SameLaws.{same-Decides}
use Rattle.kif_tree.specs.Shape.{is_list, is_list_layer, is_quantifier, is_quantifier_layer, lists_names_layer}
use Rattle.kif_tree.specs.Terms.{same, after_head}
use Rattle.calculus.proofs.TruthLaws.{both, false_true, negated}
use Rattle.var_expand.specs.Choices.{is_variable, is_row}
use Rattle.var_expand.specs.Search.{Has}
use Rattle.translate.proofs.GuardLaws.{variable_of, no_list}
use Rattle.clause_form.proofs.ProfiledLaws.{either}
use Rattle.var_expand.proofs.MemberLaws.{each_has, has_filter}

-- ---- members

pub has_left : {X : Type 0} (xs ys : List X) (x : X) → Has xs x → Has (xs ++ ys) x
has_left [] ys x h = absurd h
has_left (y ∷ xs) ys x (inl e) = inl e
has_left (y ∷ xs) ys x (inr h) = inr (has_left xs ys x h)

pub has_right : {X : Type 0} (xs ys : List X) (x : X) → Has ys x → Has (xs ++ ys) x
has_right [] ys x h = h
has_right (y ∷ xs) ys x h = inr (has_right xs ys x h)

pub has_flat : {X Y : Type 0} (f : X → List Y) (xs : List X) (x : X) (y : Y) → Has xs x → Has (f x) y → Has (flat_map f xs) y
has_flat f [] x y h k = absurd h
has_flat f (z ∷ xs) x y (inl e) k = has_left (f z) (flat_map f xs) y (subst (λ w. Has (f w) y) (sym e) k)
has_flat f (z ∷ xs) x y (inr h) k = has_right (f z) (flat_map f xs) y (has_flat f xs x y h k)

has_either : {X : Type 0} (xs ys : List X) (x : X) → Has (xs ++ ys) x → Has xs x ⊎ Has ys x
has_either [] ys x h = inr h
has_either (y ∷ xs) ys x (inl e) = inl (inl e)
has_either {X = X} (y ∷ xs) ys x (inr h) = go (has_either xs ys x h)
  where
    go : Has xs x ⊎ Has ys x → Has (y ∷ xs) x ⊎ Has ys x
    go (inl k) = inl (inr k)
    go (inr k) = inr k

-- the one that y comes from
pub from_flat : {X Y : Type 0} (f : X → List Y) (xs : List X) (y : Y) → Has (flat_map f xs) y → (x : X) × Has xs x × Has (f x) y
from_flat f [] y h = absurd h
from_flat {X = X} {Y = Y} f (z ∷ xs) y h = go (has_either (f z) (flat_map f xs) y h) (λ k. from_flat f xs y k)
  where
    go : Has (f z) y ⊎ Has (flat_map f xs) y → (Has (flat_map f xs) y → (x : X) × Has xs x × Has (f x) y) → (x : X) × Has (z ∷ xs) x × Has (f x) y
    go (inl k) later = (z, inl refl, k)
    go (inr k) later = let r = later k in (r.0, inr r.1, r.2)

pub has_mapped : {X Y : Type 0} (f : X → Y) (xs : List X) (x : X) → Has xs x → Has (map f xs) (f x)
has_mapped f [] x h = absurd h
has_mapped f (y ∷ xs) x (inl e) = inl (ap f e)
has_mapped f (y ∷ xs) x (inr h) = inr (has_mapped f xs x h)

pub has_any : {X : Type 0} (p : X → Bool) (xs : List X) (x : X) → Has xs x → p x ≡ true → list_any p xs ≡ true
has_any p [] x h e = absurd h
has_any p (y ∷ xs) x (inl is) e = ap (λ b. b || list_any p xs) (ap p is ∙ e)
has_any p (y ∷ xs) x (inr h) e = go (p y) (has_any p xs x h e)
  where
    go : (b : Bool) → list_any p xs ≡ true → (b || list_any p xs) ≡ true
    go true k = refl
    go false k = k

pub any_has : (xs : List Form) (x : Form) → list_any (same x) xs ≡ true → Has xs x
any_has [] x h = absurd (false_true h)
any_has (y ∷ xs) x h = go (same x y) refl h (any_has xs x)
  where
    go : (b : Bool) → same x y ≡ b → (b || list_any (same x) xs) ≡ true → (list_any (same x) xs ≡ true → Has xs x) → (y ≡ x) ⊎ Has xs x
    go true e k later = inl (sym ((same-Decides x y).0 e))
    go false e k later = inr (later k)

pub itself : (x : Form) → same x x ≡ true
itself x = (same-Decides x x).1 refl

pub once_has : (xs : List Form) (x : Form) → Has xs x → Has (each_once xs) x
once_has xs x h = any_has (each_once xs) x (each_once_has x xs ∙ has_any (same x) xs x h (itself x))

has_operand : {X : Type 0} (first : Bool) (xs : List X) (x : X) → Has (without_first first (after_head xs)) x → Has xs x
has_operand first [] x h = go first h
  where
    go : (b : Bool) → Has (without_first b []) x → ⊥
    go true k = k
    go false k = k
has_operand true (y ∷ []) x h = absurd h
has_operand true (y ∷ z ∷ xs) x h = inr (inr h)
has_operand false (y ∷ xs) x h = inr h

pub operand_part : (parts : List Form) (f : Form) → Has (operands parts) f → Has parts f
operand_part parts f h = has_operand (lists_variables parts) parts f h

-- ---- what a quantifier hides

pub own_row : (parts : List Form) → fits parts ≡ true → lists_row parts ≡ false
unfolding fits
own_row parts h =
    let outer = both (operands_fit parts && not (lists_row parts)) (not (applies_own parts)) h in
    negated (lists_row parts) (both (operands_fit parts) (not (lists_row parts)) outer.0).1

pub own_applied : (parts : List Form) → fits parts ≡ true → applies_own parts ≡ false
unfolding fits
own_applied parts h = negated (applies_own parts) (both (operands_fit parts && not (lists_row parts)) (not (applies_own parts)) h).1

pub plain_bound : (head : Form) (arguments : List Form) → is_quantifier head ≡ false → bound (head ∷ arguments) ≡ []
plain_bound head [] h = refl
plain_bound head (a ∷ []) h = refl
plain_bound head (names ∷ body ∷ []) h = ap (λ b. if b && lists_names_layer (out-Form names) then parts_in names else []) h
plain_bound head (a ∷ b ∷ c ∷ arguments) h = refl

variable_quantifier : (layer : Form-F Form) → is_variable_layer layer ≡ true → is_quantifier_layer layer ≡ false
variable_quantifier (Form-F.Word text) h = absurd (false_true h)
variable_quantifier (Form-F.Variable text) h = refl
variable_quantifier (Form-F.Row text) h = absurd (false_true h)
variable_quantifier (Form-F.Numeral text) h = absurd (false_true h)
variable_quantifier (Form-F.Quoted text) h = absurd (false_true h)
variable_quantifier (Form-F.List parts) h = absurd (false_true h)

pub variable_no_quantifier : (head : Form) → is_variable head ≡ true → is_quantifier head ≡ false
variable_no_quantifier head h = variable_quantifier (out-Form head) h

no_member : (p : Form → Bool) (xs : List Form) (x : Form) → list_any p xs ≡ false → p x ≡ true → list_any (same x) xs ≡ false
no_member p [] x none e = refl
no_member p (y ∷ xs) x none e = let hs = either (p y) (list_any p xs) none in go (same x y) refl hs.0 (no_member p xs x hs.1 e)
  where
    go : (b : Bool) → same x y ≡ b → p y ≡ false → list_any (same x) xs ≡ false → (b || list_any (same x) xs) ≡ false
    go true k here rest = absurd (false_true (sym here ∙ sym (ap p ((same-Decides x y).0 k)) ∙ e))
    go false k here rest = rest

-- a row variable isn't quantified
pub row_other : (parts : List Form) (name : Form) → fits parts ≡ true → is_row name ≡ true → is_other (bound parts) name ≡ true
row_other parts name fit row = ap not (no_member is_row (bound parts) name (own_row parts fit) row)

abbrev pub HeadOf : (Form → Type 0) → List Form → Type 0
HeadOf P [] = Unit {0}
HeadOf P (head ∷ arguments) = is_variable head ≡ true → P head

-- nor is one that heads a list inside
pub head_other : (parts inner : List Form) → fits parts ≡ true → Has (flat_map compounds (operands parts)) inner → HeadOf (λ head. is_other (bound parts) head ≡ true) inner
head_other parts [] fit h = tt
head_other parts (head ∷ arguments) fit h = λ variable. go (list_any (same head) (bound parts)) refl variable
  where
    go : (b : Bool) → list_any (same head) (bound parts) ≡ b → is_variable head ≡ true → not b ≡ true
    go true e variable = absurd (false_true (sym (own_applied parts fit) ∙ has_any (begins_with_one (bound parts)) (flat_map compounds (operands parts)) (head ∷ arguments) h (ap₂ ◌&&◌ variable e)))
    go false e variable = refl

-- ---- where heads are free

abbrev pub FreeHeads : Form → Type 0
FreeHeads f = ((parts : List Form) → Has (compounds f) parts → fits parts ≡ true) → (parts : List Form) → Has (compounds f) parts → HeadOf (Has (free f)) parts

pub inner_list : (parts : List Form) (f : Form) (inner : List Form) → Has (operands parts) f → Has (compounds f) inner → Has (compounds (form.List parts)) inner
inner_list parts f inner h k = subst (λ lists. Has lists inner) (sym (compounds-List parts)) (inr (has_flat compounds (operands parts) f inner h k))

pub own_list : (parts : List Form) → Has (compounds (form.List parts)) parts
own_list parts = subst (λ lists. Has lists parts) (sym (compounds-List parts)) (inl refl)

pub free_part : (parts : List Form) (f name : Form) → Has parts f → Has (free f) name → is_other (bound parts) name ≡ true → Has (free (form.List parts)) name
free_part parts f name h k other = subst (λ names. Has names name) (sym (free-List parts)) (has_filter (is_other (bound parts)) (flat_map free parts) name (has_flat free parts f name h k) other)

free_itself : (head : Form) → is_variable head ≡ true → Has (free head) head
free_itself head variable =
    let v = variable_of head variable in
    subst (λ names. Has names head) (sym (ap free v.is ∙ free-Variable v.text)) (inl (sym v.is))

own_head : (head : Form) (arguments : List Form) → is_variable head ≡ true → Has (free (form.List (head ∷ arguments))) head
own_head head arguments variable =
    free_part (head ∷ arguments) head head (inl refl) (free_itself head variable)
    (ap (λ names. is_other names head) (plain_bound head arguments (variable_no_quantifier head variable)))

pub both_heads : (P Q R : Form → Type 0) → ((x : Form) → P x → Q x → R x) → (parts : List Form) → HeadOf P parts → HeadOf Q parts → HeadOf R parts
both_heads P Q R f [] h k = tt
both_heads P Q R f (head ∷ arguments) h k = λ variable. f head (h variable) (k variable)

list_heads : (parts : List Form) → Each FreeHeads parts → FreeHeads (form.List parts)
list_heads parts each fit inner h = go (subst (λ lists. Has lists inner) (compounds-List parts) h)
  where
    own : (fs : List Form) → HeadOf (Has (free (form.List fs))) fs
    own [] = tt
    own (head ∷ arguments) = λ variable. own_head head arguments variable

    inside : (f : Form) → Has (operands parts) f → Has (compounds f) inner → Has (flat_map compounds (operands parts)) inner → FreeHeads f → HeadOf (Has (free (form.List parts))) inner
    inside f at in_f among heads =
        both_heads (Has (free f)) (λ head. is_other (bound parts) head ≡ true) (Has (free (form.List parts)))
        (λ head free_in other. free_part parts f head (operand_part parts f at) free_in other) inner
        (heads (λ q k. fit q (inner_list parts f q at k)) inner in_f)
        (head_other parts inner (fit parts (own_list parts)) among)

    go : (parts ≡ inner) ⊎ Has (flat_map compounds (operands parts)) inner → HeadOf (Has (free (form.List parts))) inner
    go (inl e) = subst (HeadOf (Has (free (form.List parts)))) e (own parts)
    go (inr k) = let r = from_flat compounds (operands parts) inner k in inside r.0 r.1 r.2 k (each_has FreeHeads parts r.0 each (operand_part parts r.0 r.1))

leaf_heads : (f : Form) → is_list f ≡ false → FreeHeads f
leaf_heads f leaf fit inner h = absurd (subst (λ lists. Has lists inner) (compounds_other f (no_list f leaf)) h)

pub free_heads : (f : Form) → FreeHeads f
free_heads = induction FreeHeads (record {
  word = λ text. leaf_heads (form.Word text) (ap is_list_layer (form.outs-Word text));
  variable = λ text. leaf_heads (form.Variable text) (ap is_list_layer (form.outs-Variable text));
  row = λ text. leaf_heads (form.Row text) (ap is_list_layer (form.outs-Row text));
  numeral = λ text. leaf_heads (form.Numeral text) (ap is_list_layer (form.outs-Numeral text));
  quoted = λ text. leaf_heads (form.Quoted text) (ap is_list_layer (form.outs-Quoted text));
  list = list_heads;
})
