-- The set of wanted variables, as a walk changes it.
use Rattle.std.proofs.Common.{◌≡◌, ℕ, ◌+◌, ◌<◌, List, [], ◌∷◌, ◌++◌, map, take, length, get_or, Bool, true, false, not, ◌&&◌, ◌||◌, refl, sym, ap, ap₂, ◌∙◌}
use Rattle.std.specs.Borrow.{Bor}
use Rattle.std.specs.List.{list_any}
use Rattle.std.proofs.lemmas.List.{take_more, map_more, map-append}
use Rattle.std.proofs.lemmas.List.Folds.{list_any-append, list_all-append, list_all_at}
use Rattle.kif_tree.specs.declared.form.Form.{Form}
use Rattle.kif_tree.specs.Names.{is_other}
use Rattle.kif_tree.specs.Shape.{is_name, lists_names}
use Rattle.kif_tree.specs.Terms.{same}
use Rattle.kif_tree.specs.NameLaws.{is_other_append, among_names}
use Rattle.kif_tree.specs.SameLaws.{same-Decides}

-- the set has the form
abbrev pub has : List Form → Form → Bool
has set f = list_any (same f) set

-- what the references lead to
abbrev pub led : List (Bor Form) → List Form
led names = map (λ name. name.now) names

or_none : (b : Bool) → (b || false) ≡ b
or_none true = refl
or_none false = refl

and_none : (b : Bool) → (b && false) ≡ false
and_none true = refl
and_none false = refl

and_all : (b : Bool) → (b && true) ≡ b
and_all true = refl
and_all false = refl

pub has_last : (front more : List Form) (name f : Form) → more ≡ front ++ name ∷ [] → has more f ≡ (has front f || same f name)
has_last front more name f e = ap (λ (fs : List Form). has fs f) e ∙ list_any-append (same f) front (name ∷ []) ∙ ap (λ b. has front f || b) (or_none (same f name))

other_last : (front more : List Form) (name f : Form) → more ≡ front ++ name ∷ [] → is_other more f ≡ (is_other front f && not (same f name))
other_last front more name f e = ap (λ (fs : List Form). is_other fs f) e ∙ is_other_append front (name ∷ []) f ∙ ap (λ b. is_other front f && not b) (or_none (same f name))

as_name : (f name : Form) → same f name ≡ true → f ≡ name
as_name f name = (same-Decides f name).0

pub led_last : (front more : List (Bor Form)) (name : Bor Form) → more ≡ front ++ name ∷ [] → led more ≡ led front ++ name.now ∷ []
led_last front more name e = ap led e ∙ map-append (λ (name : Bor Form). name.now) front (name ∷ [])

pub led_more : (names : List (Bor Form)) (i : ℕ) (name : Bor Form) → i < length names → name ≡ get_or names i name → led (take (i + 1) names) ≡ led (take i names) ++ name.now ∷ []
led_more names i name lt is = map_more (λ (name : Bor Form). name.now) names i name lt ∙ ap (λ (other : Bor Form). led (take i names) ++ other.now ∷ []) (sym is)

pub taken_more : {X : Type 0} (names : List X) (i : ℕ) (name : X) → i < length names → name ≡ get_or names i name → take (i + 1) names ≡ take i names ++ name ∷ []
taken_more names i name lt is = take_more names i name lt ∙ ap (λ other. take i names ++ other ∷ []) (sym is)

-- ---- names are taken out

pub masked_set : (old now new front more : List Form) (name : Form) → more ≡ front ++ name ∷ []
    → ((f : Form) → has now f ≡ (has old f && is_other front f)) → ((f : Form) → has new f ≡ (has now f && not (same f name)))
    → (f : Form) → has new f ≡ (has old f && is_other more f)
masked_set old now new front more name e before less f =
    less f ∙ ap (λ b. b && not (same f name)) (before f) ∙ regroup (has old f) (is_other front f) (not (same f name)) ∙ sym (ap (λ b. has old f && b) (other_last front more name f e))
  where
    regroup : (a b c : Bool) → ((a && b) && c) ≡ (a && (b && c))
    regroup true b c = refl
    regroup false b c = refl

-- one that the set hasn't got stays out
pub masked_still : (old now front more : List Form) (name : Form) → more ≡ front ++ name ∷ [] → has now name ≡ false
    → ((f : Form) → has now f ≡ (has old f && is_other front f)) → (f : Form) → has now f ≡ (has old f && is_other more f)
masked_still old now front more name e absent before f =
    before f ∙ go (same f name) refl ∙ sym (ap (λ b. has old f && b) (other_last front more name f e))
  where
    gone : (o t : Bool) → (o && t) ≡ false → (o && t) ≡ (o && (t && false))
    gone true t h = h ∙ sym (and_none t)
    gone false t h = refl

    go : (b : Bool) → same f name ≡ b → (has old f && is_other front f) ≡ (has old f && (is_other front f && not b))
    go true k = gone (has old f) (is_other front f) (sym (before f) ∙ ap (has now) (as_name f name k) ∙ absent)
    go false k = ap (λ b. has old f && b) (sym (and_all (is_other front f)))

-- and those that were in it are remembered
pub masked_more : (old now new masked more : List Form) (name : Form) → more ≡ masked ++ name ∷ [] → has now name ≡ true
    → ((f : Form) → has old f ≡ (has now f || has masked f)) → ((f : Form) → has new f ≡ (has now f && not (same f name)))
    → (f : Form) → has old f ≡ (has new f || has more f)
masked_more old now new masked more name e here before less f =
    before f ∙ go (same f name) refl ∙ sym (ap₂ ◌||◌ (less f) (has_last masked more name f e))
  where
    taken : (n m : Bool) → n ≡ true → (n || m) ≡ ((n && false) || (m || true))
    taken true true h = refl
    taken true false h = refl
    taken false m h = absurd (cc)

    kept : (n m : Bool) → (n || m) ≡ ((n && true) || (m || false))
    kept true m = refl
    kept false m = sym (or_none m)

    go : (b : Bool) → same f name ≡ b → (has now f || has masked f) ≡ ((has now f && not b) || (has masked f || b))
    go true k = taken (has now f) (has masked f) (ap (has now) (as_name f name k) ∙ here)
    go false k = kept (has now f) (has masked f)

pub named_more : (names masked more : List Form) (i : ℕ) (name : Form) → more ≡ masked ++ name ∷ [] → i < length names → name ≡ get_or names i name
    → (lists_names names ≡ true → lists_names masked ≡ true) → lists_names names ≡ true → lists_names more ≡ true
named_more names masked more i name e lt is before all = ap lists_names e ∙ list_all-append is_name masked (name ∷ []) ∙ ap₂ ◌&&◌ (before all) (ap (λ b. b && true) (go (is_name name) refl))
  where
    go : (b : Bool) → is_name name ≡ b → b ≡ true
    go true k = refl
    go false k = let no_way : lists_names names ≡ false = list_all_at is_name names i name lt (ap is_name (sym is) ∙ k) in absurd (cc)

-- ---- names are added

pub added_more : (old now new front more : List Form) (name : Form) → more ≡ front ++ name ∷ []
    → ((f : Form) → has now f ≡ (has old f || (is_name f && has front f))) → ((f : Form) → has new f ≡ (has now f || (is_name name && same f name)))
    → (f : Form) → has new f ≡ (has old f || (is_name f && has more f))
added_more old now new front more name e before added f =
    added f ∙ ap (λ b. b || (is_name name && same f name)) (before f) ∙ go (same f name) refl ∙ sym (ap (λ b. has old f || (is_name f && b)) (has_last front more name f e))
  where
    grown : (o n t : Bool) → ((o || (n && t)) || (n && true)) ≡ (o || (n && (t || true)))
    grown true n t = refl
    grown false true true = refl
    grown false true false = refl
    grown false false t = refl

    kept : (o n t m : Bool) → ((o || (n && t)) || (m && false)) ≡ (o || (n && (t || false)))
    kept o n t m = ap (λ b. (o || (n && t)) || b) (and_none m) ∙ or_none (o || (n && t)) ∙ ap (λ b. o || (n && b)) (sym (or_none t))

    go : (b : Bool) → same f name ≡ b → ((has old f || (is_name f && has front f)) || (is_name name && b)) ≡ (has old f || (is_name f && (has front f || b)))
    go true k = ap (λ n. (has old f || (is_name f && has front f)) || (n && true)) (sym (ap is_name (as_name f name k))) ∙ grown (has old f) (is_name f) (has front f)
    go false k = kept (has old f) (is_name f) (has front f) (is_name name)

-- the names that were taken out are added again
pub restored : (old now last new masked : List Form) → lists_names masked ≡ true → ((f : Form) → has old f ≡ (has now f || has masked f))
    → ((f : Form) → has last f ≡ has now f) → ((f : Form) → has new f ≡ (has last f || (is_name f && has masked f)))
    → (f : Form) → has new f ≡ has old f
restored old now last new masked all before alike added f =
    added f ∙ ap₂ ◌||◌ (alike f) (among_names masked f all) ∙ sym (before f)
