-- What the parts of a form tell of arguments and values.
use Rattle.std.proofs.Common.{◌≡◌, ℕ, suc, zero, ◌+◌, ◌*◌, ◌-◌, ◌^◌, ◌<◌, ◌≤◌, ◌&&◌, List, [], ◌∷◌, ◌++◌, length, get_or, take, Bool, true, false, refl, sym, ap, subst, ◌∙◌, arith, if◌then◌else◌}
use Rattle.std.specs.Prelude.{Option, Some, None}
use Rattle.std.specs.Char.{digit_value, is_ascii_digit}
use Rattle.std.specs.Str.{all_ascii_digits}
use Rattle.std.specs.Str.Parse.{digits_value}
use Rattle.std.proofs.lemmas.Bool.Decides.{nat_tests}
use Rattle.std.proofs.lemmas.Int.Digits.{digits_value_more}
use Rattle.std.proofs.lemmas.List.{take_more}
use Rattle.std.proofs.lemmas.Str.{digit_value_digit}
use Rattle.std.proofs.lemmas.Str.Parse.{digits_value_short, digits_value-take-le, numerals_by_value, tells_all_ascii_digits}
use Rattle.kif_tree.specs.Terms.{Bytes}
use Rattle.kif_tree.specs.declared.form.Form.{Form, out-Form, roll-Form, roll-out-Form}
use Rattle.kif_tree.specs.declared.form.Form.TheOpen.{Form-F}
use Rattle.kif_tree.specs.declared.form.Form.TheVariants as form
use Rattle.kif_tree.specs.declared.place.Located.{Located}
use Rattle.kif_tree.specs.declared.place.Place.{Place}
use Rattle.taxonomy.proofs.FormLaws.{texts_length}
use Rattle.taxonomy.specs.Told.{is_short_number, short_number, number_layer, parts_of, word_texts, pair_of_words, told_pair, number_of_parts, told_number, argument_of_parts, told_argument}

-- ---- digits

both : (a b : Bool) → (a && b) ≡ true → (a ≡ true) × (b ≡ true)
both true b h = (refl, h)
both false b h = absurd (cc)

digits_append : (xs : Bytes) (c : ℕ) → all_ascii_digits xs ≡ true → is_ascii_digit c ≡ true → all_ascii_digits (xs ++ c ∷ []) ≡ true
digits_append [] c h k = ap (λ b. b && true) k
digits_append (x ∷ xs) c h k = let two = both (is_ascii_digit x) (all_ascii_digits xs) h in ap (λ b. b && all_ascii_digits (xs ++ c ∷ [])) two.0 ∙ digits_append xs c two.1 k

pub digits_more : (text : Bytes) (i : ℕ) (b : Bool) → i < length text → b ≡ is_ascii_digit (get_or text i 0) → b ≡ true → all_ascii_digits (take i text) ≡ true → all_ascii_digits (take (i + 1) text) ≡ true
digits_more text i b lt test true_is h =
    subst (λ (xs : Bytes). all_ascii_digits xs ≡ true) (sym (take_more text i 0 lt)) (digits_append (take i text) (get_or text i 0) h (sym test ∙ true_is))

pub digits_fail : (text : Bytes) (i : ℕ) (b : Bool) → i < length text → b ≡ is_ascii_digit (get_or text i 0) → b ≡ false → false ≡ all_ascii_digits text
digits_fail [] i b lt test fails = absurd (omega (arith, lt))
digits_fail (x ∷ text) zero b lt test fails = sym (ap (λ d. d && all_ascii_digits text) (sym test ∙ fails))
digits_fail (x ∷ text) (suc i) b lt test fails = go (is_ascii_digit x) (digits_fail text i b (omega (arith, lt)) test fails)
  where
    go : (d : Bool) → false ≡ all_ascii_digits text → false ≡ (d && all_ascii_digits text)
    go true h = h
    go false h = refl

digit_at : (text : Bytes) (i : ℕ) → i < length text → all_ascii_digits text ≡ true → is_ascii_digit (get_or text i 0) ≡ true
digit_at [] i lt h = absurd (omega (arith, lt))
digit_at (x ∷ text) zero lt h = (both (is_ascii_digit x) (all_ascii_digits text) h).0
digit_at (x ∷ text) (suc i) lt h = digit_at text i (omega (arith, lt)) (both (is_ascii_digit x) (all_ascii_digits text) h).1

in_range : (c : ℕ) → is_ascii_digit c ≡ true → (48 ≤ c) × (c ≤ 57)
in_range c h = (grind (arith, nat_tests), grind (arith, nat_tests))

pub digit_from : (text : Bytes) (i : ℕ) → i < length text → all_ascii_digits text ≡ true → 48 ≤ get_or text i 0
digit_from text i lt h = (in_range (get_or text i 0) (digit_at text i lt h)).0

pub value_step : (text : Bytes) (i v d : ℕ) → i < length text → all_ascii_digits text ≡ true → v ≡ digits_value 10 (take i text) → d ≡ get_or text i 0 - 48 → v * 10 + d ≡ digits_value 10 (take (i + 1) text)
value_step text i v d lt h is digit =
    let more : digits_value 10 (take (i + 1) text) ≡ digits_value 10 (take i text) * 10 + digit_value (get_or text i 0) = digits_value_more 10 text i lt in
    let range = in_range (get_or text i 0) (digit_at text i lt h) in
    let value : digit_value (get_or text i 0) + 48 ≡ get_or text i 0 = digit_value_digit (get_or text i 0) range in
    let scaled : v * 10 ≡ digits_value 10 (take i text) * 10 = ap (λ n. n * 10) is in
    omega (arith, more, range.0, value, scaled, digit)

pub value_bound : (text : Bytes) (i v : ℕ) → i < length text → all_ascii_digits text ≡ true → length text < 10 → v ≡ digits_value 10 (take (i + 1) text) → v < 1000000000
value_bound text i v lt h short is =
    let less : digits_value 10 (take (i + 1) text) ≤ digits_value 10 text = digits_value-take-le 10 text (i + 1) (omega arith) in
    let bound : digits_value 10 text < 10 ^ 9 = digits_value_short (numerals_by_value (λ ds. all_ascii_digits ds ≡ true) tells_all_ascii_digits) text 9 h (omega (arith, short)) in
    omega (arith, less, bound, is)

pub number-Numeral : (f : Form) (text : Bytes) (o : Option ℕ) → f ≡ form.Numeral text → o ≡ (if is_short_number text then Some (digits_value 10 text) else None) → o ≡ short_number f
unfolding short_number
number-Numeral f text o e is = is ∙ sym (ap (λ (x : Form). number_layer (out-Form x)) e ∙ ap number_layer (form.outs-Numeral text))

number_layer_other : (f : Form) (layer : Form-F Form) → f ≡ roll-Form layer → ((text : Bytes) → f ≡ form.Numeral text → ⊥) → None ≡ number_layer layer
number_layer_other f (Form-F.Word text) e other = refl
number_layer_other f (Form-F.Variable text) e other = refl
number_layer_other f (Form-F.Row text) e other = refl
number_layer_other f (Form-F.Numeral text) e other = absurd (other text (e ∙ form.rolls-Numeral text))
number_layer_other f (Form-F.Quoted text) e other = refl
number_layer_other f (Form-F.List parts) e other = refl

pub number_other : (f : Form) → ((text : Bytes) → f ≡ form.Numeral text → ⊥) → None ≡ short_number f
unfolding short_number
number_other f other = number_layer_other f (out-Form f) (sym (roll-out-Form f)) other

-- ---- too few parts, or too many

no_pair_of_texts : (place : Place) (texts : List Bytes) → (length texts ≡ 3 → ⊥) → None ≡ pair_of_words place (Some texts)
no_pair_of_texts place [] h = refl
no_pair_of_texts place (a ∷ []) h = refl
no_pair_of_texts place (a ∷ b ∷ []) h = refl
no_pair_of_texts place (a ∷ b ∷ c ∷ []) h = absurd (h refl)
no_pair_of_texts place (a ∷ b ∷ c ∷ d ∷ texts) h = refl

pub no_pair : (located : Located) (parts : List Form) → parts ≡ parts_of located.form → (length parts ≡ 3 → ⊥) → None ≡ told_pair located
no_pair located parts e h = go (word_texts parts) refl
  where
    back : (o : Option (List Bytes)) → word_texts parts ≡ o → pair_of_words located.place o ≡ told_pair located
    back o is = ap (pair_of_words located.place) (sym is ∙ ap word_texts e)

    go : (o : Option (List Bytes)) → word_texts parts ≡ o → None ≡ told_pair located
    go None is = back None is
    go (Some texts) is = no_pair_of_texts located.place texts (λ three. h (sym (texts_length parts texts is) ∙ three)) ∙ back (Some texts) is

no_number_of_parts : (place : Place) (parts : List Form) → (length parts ≡ 3 → ⊥) → None ≡ number_of_parts place parts
no_number_of_parts place [] h = refl
no_number_of_parts place (a ∷ []) h = refl
no_number_of_parts place (a ∷ b ∷ []) h = refl
no_number_of_parts place (a ∷ b ∷ c ∷ []) h = absurd (h refl)
no_number_of_parts place (a ∷ b ∷ c ∷ d ∷ parts) h = refl

pub no_number : (located : Located) (parts : List Form) → parts ≡ parts_of located.form → (length parts ≡ 3 → ⊥) → None ≡ told_number located
no_number located parts e h = no_number_of_parts located.place parts h ∙ ap (number_of_parts located.place) e

no_argument_of_parts : (place : Place) (parts : List Form) → (length parts ≡ 4 → ⊥) → None ≡ argument_of_parts place parts
no_argument_of_parts place [] h = refl
no_argument_of_parts place (a ∷ []) h = refl
no_argument_of_parts place (a ∷ b ∷ []) h = refl
no_argument_of_parts place (a ∷ b ∷ c ∷ []) h = refl
no_argument_of_parts place (a ∷ b ∷ c ∷ d ∷ []) h = absurd (h refl)
no_argument_of_parts place (a ∷ b ∷ c ∷ d ∷ e ∷ parts) h = refl

pub no_argument : (located : Located) (parts : List Form) → parts ≡ parts_of located.form → (length parts ≡ 4 → ⊥) → None ≡ told_argument located
no_argument located parts e h = no_argument_of_parts located.place parts h ∙ ap (argument_of_parts located.place) e
