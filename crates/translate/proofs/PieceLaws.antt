-- How many clauses variants have, and their numbers.
use Rattle.std.proofs.Common.{◌≡◌, ℕ, ◌+◌, ◌<◌, min, List, [], ◌∷◌, ◌++◌, map, take, length, get_or, Bool, true, false, not, nat_lt, if◌then◌else◌, arith, refl, sym, ap, ap₂, ◌∙◌, subst}
use Rattle.std.specs.Prelude.{Some}
use Rattle.std.specs.List.{list_any, flat_map}
use Rattle.std.proofs.lemmas.Bool.Decides.{nat_tests}
use Rattle.std.proofs.lemmas.List.{take_more, length-map, map-append, length-take-le}
use Rattle.std.proofs.lemmas.List.Folds.{list_any_at, length-flat_map-take}
use Rattle.kif_tree.specs.declared.clause.InputClause.{InputClause}
use Rattle.kif_tree.specs.declared.form.Form.{Form}
use Rattle.kif_tree.specs.declared.place.Located.{Located}
use Rattle.kif_tree.specs.declared.place.Place.{Place}
use Rattle.kif_tree.specs.Clauses.{Literals}
use Rattle.kif_tree.specs.Terms.{Bytes}
use Rattle.signatures.specs.declared.signatures.Signatures.{Signatures}
use Rattle.calculus.specs.Tidy.{tidy}
use Rattle.type_guard.specs.Guarded as guards
use Rattle.clause_form.specs.ClauseForms.{raw_clauses, skolem_prefix, clauses_within}
use Rattle.clause_form.specs.Sizes.{capped}
use Rattle.clause_form.specs.declared.conversion.ClauseForm.TheVariants.{Clauses, TooMany}
use Rattle.translate.specs.Pieces.{form_of, base_of, inputs_of, is_too_many, clauses_in, numbered, guarded_variants, of_variants, given_by, left_out, head_text}
use Rattle.translate.specs.declared.translated.Guarded.{Guarded}

-- ---- how many clauses a variant has

abbrev pub passes : Guarded → Bool
passes variant = is_too_many (form_of variant)

-- the number is that of the form's clauses, up to 4,097
abbrev pub IsCount : Form → ℕ → Type 0
IsCount f n = (prefix : Bytes) → n ≡ capped (length (raw_clauses prefix f))

above_capped : (n : ℕ) → nat_lt 4096 (capped n) ≡ nat_lt 4096 n
above_capped n = go (nat_lt 4096 n) refl
  where
    go : (b : Bool) → nat_lt 4096 n ≡ b → nat_lt 4096 (min n 4097) ≡ b
    go b e = grind (arith, nat_tests)

within_passes : (raw : List Literals) → is_too_many (clauses_within raw) ≡ nat_lt 4096 (length raw)
within_passes raw = go (nat_lt 4096 (length raw))
  where
    go : (b : Bool) → is_too_many (if b then TooMany else Clauses (map tidy raw)) ≡ b
    go true = refl
    go false = refl

within_length : (raw : List Literals) → nat_lt 4096 (length raw) ≡ false → length (clauses_in (clauses_within raw)) ≡ length raw
within_length raw = go (nat_lt 4096 (length raw))
  where
    go : (b : Bool) → b ≡ false → length (clauses_in (if b then TooMany else Clauses (map tidy raw))) ≡ length raw
    go true e = absurd (cc)
    go false e = length-map raw tidy

pub count_passes : (variant : Guarded) (n : ℕ) → IsCount variant.form n → passes variant ≡ nat_lt 4096 n
count_passes variant n counted =
    let raw = raw_clauses (skolem_prefix (base_of variant)) variant.form in
    within_passes raw ∙ sym (ap (nat_lt 4096) (counted (skolem_prefix (base_of variant))) ∙ above_capped (length raw))

pub count_inputs : (variant : Guarded) (n : ℕ) → IsCount variant.form n → passes variant ≡ false → length (inputs_of variant) ≡ n
count_inputs variant n counted h =
    let raw = raw_clauses (skolem_prefix (base_of variant)) variant.form in
    let few : nat_lt 4096 (length raw) ≡ false = sym (within_passes raw) ∙ h in
    let small : capped (length raw) ≡ length raw = below (length raw) few in
    length-map (clauses_in (form_of variant)) (λ (clause : Literals). record { clause = clause; place = Some variant.place; variant = variant.variant }) ∙ within_length raw few
    ∙ sym (counted (skolem_prefix (base_of variant)) ∙ small)
  where
    below : (n : ℕ) → nat_lt 4096 n ≡ false → min n 4097 ≡ n
    below n e = grind (arith, nat_tests)

-- ---- whether there is room

-- what is left of the room after the first variants, where none has too many
abbrev pub IsLeft : List Guarded → ℕ → ℕ → ℕ → Type 0
IsLeft variants i left room = list_any passes variants ≡ false → left + length (flat_map inputs_of (take i variants)) ≡ room

fits : (variants : List Guarded) (i : ℕ) (variant : Guarded) → i < length variants → variant ≡ get_or variants i variant → list_any passes variants ≡ false → passes variant ≡ false
fits variants i variant lt is none = go (passes variant) refl
  where
    go : (b : Bool) → passes variant ≡ b → b ≡ false
    go true e = let some : list_any passes variants ≡ true = list_any_at passes variants i variant lt (ap passes (sym is) ∙ e) in absurd (cc)
    go false e = refl

pub no_room : (variants : List Guarded) (i : ℕ) (variant : Guarded) (n left room : ℕ) → i < length variants → variant ≡ get_or variants i variant → IsCount variant.form n → left < n
    → IsLeft variants i left room → list_any passes variants ≡ false → false ≡ not (nat_lt room (length (flat_map inputs_of variants)))
no_room variants i variant n left room lt is counted above so_far none =
    let here = ap (λ (v : Guarded). length (inputs_of v)) (sym is) ∙ count_inputs variant n counted (fits variants i variant lt is none) in
    let part = length-flat_map-take inputs_of variants i variant lt in
    let before = so_far none in
    sym (ap not (more room (length (flat_map inputs_of variants)) (omega (arith, here, part, before))))
  where
    more : (m n : ℕ) → m < n → nat_lt m n ≡ true
    more m n h = grind (arith, nat_tests)

-- the clauses of these variants are more than there is room for
pub above_room : (located : Located) (wanted variants first second : List Guarded) (some fit : Bool) (room : ℕ) → variants ≡ wanted → first ≡ variants → some ≡ list_any passes first → some ≡ false
    → second ≡ variants → (list_any passes second ≡ false → fit ≡ not (nat_lt room (length (flat_map inputs_of second)))) → fit ≡ false → room < length (of_variants located wanted).inputs
above_room located wanted variants first second some fit room e read tested none again fits not_fit =
    let none_has : list_any passes variants ≡ false = ap (list_any passes) (sym read) ∙ sym tested ∙ none in
    let told : fit ≡ not (nat_lt room (length (flat_map inputs_of variants))) =
    fits (ap (list_any passes) again ∙ none_has) ∙ ap (λ (vs : List Guarded). not (nat_lt room (length (flat_map inputs_of vs)))) again in
    let above : room < length (flat_map inputs_of variants) = more room (length (flat_map inputs_of variants)) fit told not_fit in
    subst (λ (vs : List Guarded). room < length (of_variants located vs).inputs) e
    (subst (λ (b : Bool). room < length (if b then left_out located 13 (head_text located) else given_by variants).inputs) (sym none_has) above)
  where
    more : (m n : ℕ) (fit : Bool) → fit ≡ not (nat_lt m n) → fit ≡ false → m < n
    more m n fit e h = grind (arith, nat_tests)

-- ---- the numbers of variants

pub numbered_more : (place : Place) (number : ℕ) (fs : List Form) (f : Form) → numbered place number (fs ++ f ∷ []) ≡ numbered place number fs ++ record { form = f; place = place; variant = number + length fs } ∷ []
numbered_more place number [] f = ap (λ (n : ℕ). record { form = f; place = place; variant = n } ∷ []) (omega arith)
numbered_more place number (first ∷ fs) f =
    ap (λ (rest : List Guarded). record { form = first; place = place; variant = number } ∷ rest)
    (numbered_more place (number + 1) fs f ∙ ap (λ (n : ℕ). numbered place (number + 1) fs ++ record { form = f; place = place; variant = n } ∷ []) (omega arith))

-- the next of the variants that are guarded and numbered from 1
pub guarded_more : (signatures : Signatures) (place : Place) (variants : List Form) (i : ℕ) (f guarded : Form) (number : ℕ) (before after : List Guarded)
    → i < length variants → f ≡ get_or variants i f → number ≡ i + 1 → guarded ≡ guards.guarded signatures (guards.closed f) → before ≡ guarded_variants signatures place (take i variants)
    → after ≡ before ++ record { form = guarded; place = place; variant = number } ∷ [] → after ≡ guarded_variants signatures place (take (i + 1) variants)
guarded_more signatures place variants i f guarded number before after lt is counted e so_far pushed =
    let shape = λ (variant : Form). guards.guarded signatures (guards.closed variant) in
    let shapes = map shape (take i variants) in
    let taken : take (i + 1) variants ≡ take i variants ++ f ∷ [] = take_more variants i f lt ∙ ap (λ (g : Form). take i variants ++ g ∷ []) (sym is) in
    let many : 1 + length shapes ≡ number = counts (length shapes) number (length-map (take i variants) shape ∙ length-take-le i variants (omega arith)) counted in
    pushed ∙ ap₂ (λ (so_far : List Guarded) (g : Form). so_far ++ record { form = g; place = place; variant = number } ∷ []) so_far e
    ∙ sym
    (ap (λ (fs : List Form). numbered place 1 (map shape fs)) taken ∙ ap (numbered place 1) (map-append shape (take i variants) (f ∷ [])) ∙ numbered_more place 1 shapes (shape f)
    ∙ ap (λ (n : ℕ). numbered place 1 shapes ++ record { form = shape f; place = place; variant = n } ∷ []) many)
  where
    counts : (n number : ℕ) → n ≡ i → number ≡ i + 1 → 1 + n ≡ number
    counts n number e counted = omega arith

-- ---- the clauses of a variant

abbrev pub input_of : Guarded → Literals → InputClause
input_of variant clause = record { clause = clause; place = Some variant.place; variant = variant.variant }
