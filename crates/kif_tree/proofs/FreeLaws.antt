-- Free names, as a walk finds them.
use Rattle.std.proofs.Common.{◌≡◌, ℕ, ◌+◌, ◌<◌, List, [], ◌∷◌, ◌++◌, map, filter, take, length, get_or, Bool, true, false, not, ◌&&◌, ◌||◌, if◌then◌else◌, refl, sym, ap, ap₂, ◌∙◌, append_assoc, ◌⊎◌, inl, inr}
use Rattle.std.specs.Borrow.{Bor}
use Rattle.std.specs.List.{flat_map, list_any}
use Rattle.std.specs.Prelude.{Result, IfOk}
use Rattle.std.proofs.lemmas.Result.{IfOk-weaker}
use Rattle.std.proofs.lemmas.Grind.{flat_map-append}
use Rattle.std.proofs.lemmas.List.{take_more, map_more, map-append, append-nil}
use Rattle.std.proofs.lemmas.List.Elements.{filter-append}
use Rattle.std.proofs.lemmas.List.Folds.{list_any-append, list_all_at, list_all-map}
use Rattle.sigma_base.proofs.SliceLaws.{no_items}
use Rattle.kif_tree.specs.declared.form.Form.{Form}
use Rattle.kif_tree.specs.declared.form.Form.TheVariants as form
use Rattle.kif_tree.specs.Names.{bound, is_other, free, each_once}
use Rattle.kif_tree.specs.Shape.{is_name, lists_names}
use Rattle.kif_tree.specs.Terms.{Bytes, same}
use Rattle.kif_tree.specs.NameLaws.{among_names, filter_both, filter_alike, is_other_append, other_than_none, each_once_last, bound_names, free_names_all, free-Variable, free-Row, free-List, free_other}
use Rattle.kif_tree.specs.SameLaws.{same-Decides}

-- the set has the form
abbrev pub has : List Form → Form → Bool
has set f = list_any (same f) set

or_none : (b : Bool) → (b || false) ≡ b
or_none true = refl
or_none false = refl

and_none : (b : Bool) → (b && false) ≡ false
and_none true = refl
and_none false = refl

and_all : (b : Bool) → (b && true) ≡ b
and_all true = refl
and_all false = refl

has_last : (front more : List Form) (name f : Form) → more ≡ front ++ name ∷ [] → has more f ≡ (has front f || same f name)
has_last front more name f e = ap (λ (fs : List Form). has fs f) e ∙ list_any-append (same f) front (name ∷ []) ∙ ap (λ b. has front f || b) (or_none (same f name))

as_name : (f name : Form) → same f name ≡ true → f ≡ name
as_name f name = (same-Decides f name).0

-- ---- names of a quantifier are hidden

-- one more is
pub hidden_more : (old now new front more : List Form) (name : Form) → more ≡ front ++ name ∷ []
    → ((f : Form) → has now f ≡ (has old f || (is_name f && has front f))) → ((f : Form) → has new f ≡ (has now f || (is_name name && same f name)))
    → (f : Form) → has new f ≡ (has old f || (is_name f && has more f))
hidden_more old now new front more name e before added f =
    added f ∙ ap (λ b. b || (is_name name && same f name)) (before f) ∙ go (same f name) refl ∙ sym (ap (λ b. has old f || (is_name f && b)) (has_last front more name f e))
  where
    grown : (o n t : Bool) → ((o || (n && t)) || (n && true)) ≡ (o || (n && (t || true)))
    grown true n t = refl
    grown false true true = refl
    grown false true false = refl
    grown false false t = refl

    kept : (o n t m : Bool) → ((o || (n && t)) || (m && false)) ≡ (o || (n && (t || false)))
    kept o n t m = ap (λ b. (o || (n && t)) || b) (and_none m) ∙ or_none (o || (n && t)) ∙ ap (λ b. o || (n && b)) (sym (or_none t))

    go : (b : Bool) → same f name ≡ b → ((has old f || (is_name f && has front f)) || (is_name name && b)) ≡ (has old f || (is_name f && (has front f || b)))
    go true k = ap (λ n. (has old f || (is_name f && has front f)) || (n && true)) (sym (ap is_name (as_name f name k))) ∙ grown (has old f) (is_name f) (has front f)
    go false k = kept (has old f) (is_name f) (has front f) (is_name name)

-- it is hidden already
pub hidden_still : (old now front more : List Form) (name : Form) → more ≡ front ++ name ∷ [] → has now name ≡ true
    → ((f : Form) → has now f ≡ (has old f || (is_name f && has front f))) → (f : Form) → has now f ≡ (has old f || (is_name f && has more f))
hidden_still old now front more name e here before f =
    before f ∙ go (same f name) refl ∙ sym (ap (λ b. has old f || (is_name f && b)) (has_last front more name f e))
  where
    grown : (o n t : Bool) → (o || (n && t)) ≡ true → (o || (n && t)) ≡ (o || (n && (t || true)))
    grown true n t h = refl
    grown false true true h = refl
    grown false true false h = absurd (cc)
    grown false false t h = absurd (cc)

    go : (b : Bool) → same f name ≡ b → (has old f || (is_name f && has front f)) ≡ (has old f || (is_name f && (has front f || b)))
    go true k = grown (has old f) (is_name f) (has front f) (sym (before f) ∙ ap (has now) (as_name f name k) ∙ here)
    go false k = ap (λ b. has old f || (is_name f && b)) (sym (or_none (has front f)))

-- and it is remembered that it wasn't before
pub fresh_more : (old now new fresh more : List Form) (name : Form) → more ≡ fresh ++ name ∷ [] → has now name ≡ false
    → ((f : Form) → has old f ≡ (has now f && is_other fresh f)) → ((f : Form) → has new f ≡ (has now f || (is_name name && same f name)))
    → (f : Form) → has old f ≡ (has new f && is_other more f)
fresh_more old now new fresh more name e absent before added f =
    before f ∙ go (same f name) refl
    ∙ sym (ap₂ ◌&&◌ (added f) (ap (λ (fs : List Form). is_other fs f) e ∙ is_other_append fresh (name ∷ []) f ∙ ap (λ b. is_other fresh f && not b) (or_none (same f name))))
  where
    go : (b : Bool) → same f name ≡ b → (has now f && is_other fresh f) ≡ ((has now f || (is_name name && b)) && (is_other fresh f && not b))
    go true k =
        ap (λ b. b && is_other fresh f) (ap (has now) (as_name f name k) ∙ absent)
        ∙ sym (ap (λ b. (has now f || (is_name name && true)) && b) (and_none (is_other fresh f)) ∙ and_none (has now f || (is_name name && true)))
    go false k = ap₂ ◌&&◌ (sym (ap (λ b. has now f || b) (and_none (is_name name)) ∙ or_none (has now f))) (sym (and_all (is_other fresh f)))

-- what is hidden then is what was hidden before and what the quantifier lists
pub hidden_by : (parts names old now : List Form) → names ≡ bound parts → ((f : Form) → has now f ≡ (has old f || (is_name f && has names f)))
    → (found : List Form) → filter (is_other now) found ≡ filter (is_other old) (filter (is_other (bound parts)) found)
hidden_by parts names old now e h found =
    filter_alike (is_other now) (λ f. is_other (bound parts) f && is_other old f) at found ∙ sym (filter_both (is_other old) (is_other (bound parts)) found)
  where
    neither : (o b : Bool) → not (o || b) ≡ (not b && not o)
    neither true true = refl
    neither true false = refl
    neither false true = refl
    neither false false = refl

    at : (f : Form) → is_other now f ≡ (is_other (bound parts) f && is_other old f)
    at f = ap not (h f ∙ ap (λ b. has old f || b) (ap (λ (fs : List Form). is_name f && has fs f) e ∙ among_names (bound parts) f (bound_names parts))) ∙ neither (has old f) (has (bound parts) f)

-- where it lists none
pub hidden_by_none : (parts names old : List Form) → names ≡ bound parts → length names < 1
    → (found : List Form) → filter (is_other old) found ≡ filter (is_other old) (filter (is_other (bound parts)) found)
hidden_by_none parts names old e none found =
    ap (filter (is_other old)) (sym (ap (λ (fs : List Form). filter (is_other fs) found) (sym e ∙ no_items names none) ∙ other_than_none found))

-- ---- the walk over parts

pub found_more : (front more old now : List Form) (f : Form) (start found next : List Form) → more ≡ front ++ f ∷ [] → ((g : Form) → has now g ≡ has old g)
    → found ≡ start ++ filter (is_other old) (flat_map free front) → next ≡ found ++ filter (is_other now) (free f)
    → next ≡ start ++ filter (is_other old) (flat_map free more)
found_more front more old now f start found next e alike before after =
    after
    ∙ ap₂ ◌++◌ before (filter_alike (is_other now) (is_other old) (λ g. ap not (alike g)) (free f))
    ∙ append_assoc start (filter (is_other old) (flat_map free front)) (filter (is_other old) (free f))
    ∙ ap (λ (fs : List Form). start ++ fs)
    (sym (filter-append (is_other old) (flat_map free front) (free f))
    ∙ ap (filter (is_other old))
    (ap (λ (fs : List Form). flat_map free front ++ fs) (sym (append-nil (free f)))
    ∙ sym (flat_map-append free front (f ∷ []))
    ∙ ap (flat_map free) (sym e)))

-- ---- each name once

-- one more was seen
pub seen_more : (now new front more : List Form) (name : Form) → more ≡ front ++ name ∷ []
    → ((f : Form) → has now f ≡ (is_name f && has front f)) → ((f : Form) → has new f ≡ (has now f || (is_name name && same f name)))
    → (f : Form) → has new f ≡ (is_name f && has more f)
seen_more now new front more name e before added = hidden_more [] now new front more name e before added

pub seen_still : (now front more : List Form) (name : Form) → more ≡ front ++ name ∷ [] → has now name ≡ true
    → ((f : Form) → has now f ≡ (is_name f && has front f)) → (f : Form) → has now f ≡ (is_name f && has more f)
seen_still now front more name e here before = hidden_still [] now front more name e here before

kept_by : (now front kept more : List Form) (name : Form) → more ≡ front ++ name ∷ [] → is_name name ≡ true → ((f : Form) → has now f ≡ (is_name f && has front f)) → kept ≡ each_once front
    → each_once more ≡ kept ++ (if not (has now name) then name ∷ [] else [])
kept_by now front kept more name e is before k =
    ap each_once e ∙ each_once_last front name
    ∙ ap₂ (λ (fs : List Form) (b : Bool). fs ++ (if not b then name ∷ [] else [])) (sym k) (sym (before name ∙ ap (λ b. b && has front name) is))

pub kept_more : (now front kept more : List Form) (name : Form) → more ≡ front ++ name ∷ [] → is_name name ≡ true → has now name ≡ false
    → ((f : Form) → has now f ≡ (is_name f && has front f)) → kept ≡ each_once front → kept ++ name ∷ [] ≡ each_once more
kept_more now front kept more name e is absent before k =
    sym (kept_by now front kept more name e is before k ∙ ap (λ (b : Bool). kept ++ (if not b then name ∷ [] else [])) absent)

pub kept_still : (now front kept more : List Form) (name : Form) → more ≡ front ++ name ∷ [] → is_name name ≡ true → has now name ≡ true
    → ((f : Form) → has now f ≡ (is_name f && has front f)) → kept ≡ each_once front → kept ≡ each_once more
kept_still now front kept more name e is here before k =
    sym (kept_by now front kept more name e is before k ∙ ap (λ (b : Bool). kept ++ (if not b then name ∷ [] else [])) here ∙ append-nil kept)

-- ---- references

-- what the references lead to
abbrev pub led : List (Bor Form) → List Form
led names = map (λ name. name.now) names

pub led_last : (front more : List (Bor Form)) (name : Bor Form) → more ≡ front ++ name ∷ [] → led more ≡ led front ++ name.now ∷ []
led_last front more name e = ap led e ∙ map-append (λ (name : Bor Form). name.now) front (name ∷ [])

pub led_more : (names : List (Bor Form)) (i : ℕ) (name : Bor Form) → i < length names → name ≡ get_or names i name → led (take (i + 1) names) ≡ led (take i names) ++ name.now ∷ []
led_more names i name lt is = map_more (λ (name : Bor Form). name.now) names i name lt ∙ ap (λ (other : Bor Form). led (take i names) ++ other.now ∷ []) (sym is)

pub taken_more : (names : List Form) (i : ℕ) (name : Form) → i < length names → name ≡ get_or names i name → take (i + 1) names ≡ take i names ++ name ∷ []
taken_more names i name lt is = take_more names i name lt ∙ ap (λ (other : Form). take i names ++ other ∷ []) (sym is)

pub led_name : (names : List (Bor Form)) (i : ℕ) (name : Bor Form) → i < length names → name ≡ get_or names i name → lists_names (led names) ≡ true → is_name name.now ≡ true
led_name names i name lt is all = go (is_name name.now) refl
  where
    go : (b : Bool) → is_name name.now ≡ b → b ≡ true
    go true e = refl
    go false e =
        let here : is_name (get_or names i name).now ≡ false = ap (λ (other : Bor Form). is_name other.now) (sym is) ∙ e in
        let no_way : lists_names (led names) ≡ false = list_all-map is_name (λ (other : Bor Form). other.now) names ∙ list_all_at (λ (other : Bor Form). is_name other.now) names i name lt here in
        absurd (cc)

-- ---- the kinds of forms

pub free_of_name : (f : Form) → ((text : Bytes) × (f ≡ form.Variable text)) ⊎ ((text : Bytes) × (f ≡ form.Row text)) → f ∷ [] ≡ free f
free_of_name f (inl (text, is)) = ap (λ (g : Form). g ∷ []) is ∙ sym (ap free is ∙ free-Variable text)
free_of_name f (inr (text, is)) = ap (λ (g : Form). g ∷ []) is ∙ sym (ap free is ∙ free-Row text)

pub free_of_list : (f : Form) (parts items : List Form) → f ≡ form.List parts → items ≡ parts → filter (is_other (bound items)) (flat_map free items) ≡ free f
free_of_list f parts items is same_items = ap (λ (fs : List Form). filter (is_other (bound fs)) (flat_map free fs)) same_items ∙ sym (ap free is ∙ free-List parts)

pub free_none : (f : Form) (found hidden : List Form) → ((text : Bytes) → f ≡ form.Variable text → ⊥) → ((text : Bytes) → f ≡ form.Row text → ⊥) → ((parts : List Form) → f ≡ form.List parts → ⊥)
    → found ≡ found ++ filter (is_other hidden) (free f)
free_none f found hidden no_variable no_row no_list = sym (ap (λ (fs : List Form). found ++ filter (is_other hidden) fs) (free_other f no_variable no_row no_list) ∙ append-nil found)

-- all that is found, each once
pub free_once : {E : Type 0} (result : Result (List Form) E) (f : Form) (start found items : List (Bor Form)) (none : List Form) → start ≡ [] → none ≡ [] → items ≡ found
    → led found ≡ led start ++ filter (is_other none) (free f) → IfOk result (λ names. lists_names (led items) ≡ true → names ≡ each_once (led items)) → IfOk result (λ names. names ≡ each_once (free f))
free_once result f start found items none starts e alike is h =
    let whole : led items ≡ free f = ap led alike ∙ is ∙ ap₂ (λ (fs : List (Bor Form)) (gs : List Form). led fs ++ filter (is_other gs) (free f)) starts e ∙ other_than_none (free f) in
    IfOk-weaker result (λ names. lists_names (led items) ≡ true → names ≡ each_once (led items)) (λ names. names ≡ each_once (free f))
    (λ names once. once (ap lists_names whole ∙ free_names_all f) ∙ ap each_once whole) h
