-- The test for numerals decides what a numeral is.
use Rattle.std.proofs.Common.{◌≡◌, ℕ, ◌⊎◌, inl, inr, true, false, cond, eqb, ◌||◌, Option, Some, None, List, [], ◌∷◌, ◌++◌, length, take, drop, codes, sym, ap, ◌∙◌, refl, subst, arith, append-nil}
use Rattle.std.specs.Bool.{Decides}
use Rattle.std.specs.Char.{is_ascii_digit}
use Rattle.std.specs.List.{list_all, prefix_len}
use Rattle.std.proofs.lemmas.Bool.Decides.{nat_tests}
use Rattle.std.proofs.lemmas.List.{take-append-drop}
use Rattle.std.proofs.lemmas.List.Folds.{length-prefix_len}
use Rattle.kif_reader.specs.Chunks.{front, after_digits, after_fraction, after_sign, after_exponent, after_minus, ◌>>=◌, is_end, is_numeral, IsDigits, IsMinus, IsFraction, IsPower, IsExponent, IsNumeral}
use Rattle.kif_reader.specs.Cut.{Stops}
use Rattle.kif_reader.proofs.PieceLaws.{all_front, stops_behind}
use Rattle.kif_reader.proofs.UniqueLaws.{both, run_unique}

-- ---- digits

digits_after : (ds r : List ℕ) → IsDigits ds → Stops is_ascii_digit r → after_digits (ds ++ r) ≡ Some r
digits_after ds r is stops =
    let t = ds ++ r in
    let n = prefix_len is_ascii_digit t in
    let one = run_unique is_ascii_digit (take n t) ds (drop n t) r (all_front is_ascii_digit t) (stops_behind is_ascii_digit t) is.all stops (take-append-drop n t) in
    elim (eqb n 0) as (λ b. eqb n 0 ≡ b → cond b None (Some (drop n t)) ≡ Some r) [
      | true ↦ λ e. let long : length ds ≡ n = ap length (sym one.0) ∙ length-prefix_len is_ascii_digit t in let none : n ≡ 0 = grind (arith, nat_tests, e) in let some = is.some in absurd (omega (arith, long, none, some))
      | false ↦ λ e. ap Some one.1
    ] refl

record DigitsFront (t r : List ℕ) : Type 0 where
  digits : List ℕ
  is : IsDigits digits
  spelled : t ≡ digits ++ r

digits_front : (t r : List ℕ) → after_digits t ≡ Some r → DigitsFront t r
digits_front t r =
    let n = prefix_len is_ascii_digit t in
    elim (eqb n 0) as (λ b. eqb n 0 ≡ b → cond b None (Some (drop n t)) ≡ Some r → DigitsFront t r) [
      | true ↦ λ e is. absurd (cc)
      | false ↦ λ e is.
          let rest : drop n t ≡ r = cc in
          let long = length-prefix_len is_ascii_digit t in
          record { digits = take n t; is = record { some = grind (arith, nat_tests, e, long); all = all_front is_ascii_digit t }; spelled = sym (take-append-drop n t) ∙ ap (λ l. take n t ++ l) rest }
    ] refl

-- ---- numerals pass the test

not_first : (ds r : List ℕ) (byte : ℕ) → IsDigits ds → is_ascii_digit byte ≡ false → eqb (front (ds ++ r)) byte ≡ false
not_first [] r byte is other = let some = is.some in absurd (omega (arith, some))
not_first (d ∷ ds) r byte is other =
    let digit = (both (is_ascii_digit d) (list_all is_ascii_digit ds) is.all).0 in
    elim (eqb d byte) as (λ b. eqb d byte ≡ b → b ≡ false) [
      | true ↦ λ e. let same : d ≡ byte = grind (arith, nat_tests, e) in let no : true ≡ false = sym digit ∙ ap is_ascii_digit same ∙ other in absurd (cc)
      | false ↦ λ e. refl
    ] refl

sign_passed : (sign ds : List ℕ) → (sign ≡ []) ⊎ ((sign ≡ codes "+") ⊎ (sign ≡ codes "-")) → IsDigits ds → after_sign (sign ++ ds) ≡ ds
sign_passed sign ds (inl none) is =
    let plus = ap (λ l. eqb (front l) 43) (sym (append-nil ds)) ∙ not_first ds [] 43 is refl in
    let minus = ap (λ l. eqb (front l) 45) (sym (append-nil ds)) ∙ not_first ds [] 45 is refl in
    ap (λ s. after_sign (s ++ ds)) none ∙ (λ i. cond (plus i || minus i) (drop 1 ds) ds)
sign_passed sign ds (inr (inl plus)) is = ap (λ s. after_sign (s ++ ds)) plus
sign_passed sign ds (inr (inr minus)) is = ap (λ s. after_sign (s ++ ds)) minus

digits_alone : (ds : List ℕ) → IsDigits ds → after_digits ds ≡ Some []
digits_alone ds is = ap after_digits (sym (append-nil ds)) ∙ digits_after ds [] is tt

power_passed : (letter sign ds : List ℕ) → (letter ≡ codes "e") ⊎ (letter ≡ codes "E") → (sign ≡ []) ⊎ ((sign ≡ codes "+") ⊎ (sign ≡ codes "-")) → IsDigits ds → after_exponent (letter ++ (sign ++ ds)) ≡ Some []
unfolding after_exponent
power_passed letter sign ds (inl small) is_sign is = ap (λ l. after_exponent (l ++ (sign ++ ds))) small ∙ ap after_digits (sign_passed sign ds is_sign is) ∙ digits_alone ds is
power_passed letter sign ds (inr large) is_sign is = ap (λ l. after_exponent (l ++ (sign ++ ds))) large ∙ ap after_digits (sign_passed sign ds is_sign is) ∙ digits_alone ds is

exponent_passed : (e : List ℕ) → IsExponent e → after_exponent e ≡ Some []
unfolding after_exponent
exponent_passed e (inl none) = ap after_exponent none
exponent_passed e (inr is) = ap after_exponent is.spelled ∙ power_passed is.letter is.sign is.digits is.is_letter is.is_sign is.is_digits

power_first : (P : List ℕ → Type 0) (letter more : List ℕ) → (letter ≡ codes "e") ⊎ (letter ≡ codes "E") → P (codes "e" ++ more) → P (codes "E" ++ more) → P (letter ++ more)
power_first P letter more (inl small) e f = subst (λ l. P (l ++ more)) (sym small) e
power_first P letter more (inr large) e f = subst (λ l. P (l ++ more)) (sym large) f

exponent_stops : (e : List ℕ) → IsExponent e → Stops is_ascii_digit e
exponent_stops e (inl none) = subst (Stops is_ascii_digit) (sym none) tt
exponent_stops e (inr is) = subst (Stops is_ascii_digit) (sym is.spelled) (power_first (Stops is_ascii_digit) is.letter (is.sign ++ is.digits) is.is_letter refl refl)

no_fraction : (e : List ℕ) → IsExponent e → after_fraction e ≡ Some e
unfolding after_fraction
no_fraction e (inl none) = subst (λ l. after_fraction l ≡ Some l) (sym none) refl
no_fraction e (inr is) = subst (λ l. after_fraction l ≡ Some l) (sym is.spelled) (power_first (λ l. after_fraction l ≡ Some l) is.letter (is.sign ++ is.digits) is.is_letter refl refl)

fraction_passed : (f e : List ℕ) → IsFraction f → IsExponent e → after_fraction (f ++ e) ≡ Some e
unfolding after_fraction
fraction_passed f e (inl none) is = ap (λ l. after_fraction (l ++ e)) none ∙ no_fraction e is
fraction_passed f e (inr some) is = ap (λ l. after_fraction (l ++ e)) some.2 ∙ digits_after some.0 e some.1 (exponent_stops e is)

fraction_stops : (f e : List ℕ) → IsFraction f → IsExponent e → Stops is_ascii_digit (f ++ e)
fraction_stops f e (inl none) is = subst (λ l. Stops is_ascii_digit (l ++ e)) (sym none) (exponent_stops e is)
fraction_stops f e (inr some) is = subst (λ l. Stops is_ascii_digit (l ++ e)) (sym some.2) refl

minus_passed : (minus ds r : List ℕ) → IsMinus minus → IsDigits ds → after_minus (minus ++ (ds ++ r)) ≡ ds ++ r
minus_passed minus ds r (inl none) is = ap (λ l. after_minus (l ++ (ds ++ r))) none ∙ ap (λ b. cond b (drop 1 (ds ++ r)) (ds ++ r)) (not_first ds r 45 is refl)
minus_passed minus ds r (inr sign) is = ap (λ l. after_minus (l ++ (ds ++ r))) sign

numeral_passes : (text : List ℕ) → IsNumeral text → is_numeral text ≡ true
unfolding is_numeral
numeral_passes text is =
    let behind = is.fraction ++ is.exponent in
    ap is_numeral is.spelled
    ∙ ap (λ l. is_end (after_digits l >>= after_fraction >>= after_exponent)) (minus_passed is.minus is.whole behind is.is_minus is.is_whole)
    ∙ ap (λ o. is_end (o >>= after_fraction >>= after_exponent)) (digits_after is.whole behind is.is_whole (fraction_stops is.fraction is.exponent is.is_fraction is.is_exponent))
    ∙ ap (λ o. is_end (o >>= after_exponent)) (fraction_passed is.fraction is.exponent is.is_fraction is.is_exponent)
    ∙ ap is_end (exponent_passed is.exponent is.is_exponent)

-- ---- what passes the test is a numeral

record Front (P : List ℕ → Type 0) (t r : List ℕ) : Type 0 where
  part : List ℕ
  is : P part
  spelled : t ≡ part ++ r

some_same : (a b : List ℕ) → Some a ≡ Some b → a ≡ b
some_same a b e = cc

fraction_front : (t r : List ℕ) → after_fraction t ≡ Some r → Front IsFraction t r
unfolding after_fraction
fraction_front [] r = λ e. record { part = []; is = inl refl; spelled = some_same [] r e }
fraction_front (b ∷ t) r = elim (eqb b 46) as (λ x. eqb b 46 ≡ x → cond x (after_digits t) (Some (b ∷ t)) ≡ Some r → Front IsFraction (b ∷ t) r) [
  | true ↦ λ s e. let d = digits_front t r e in let point : b ≡ 46 = grind (arith, nat_tests, s) in record { part = codes "." ++ d.digits; is = inr (d.digits, d.is, refl); spelled = λ i. point i ∷ d.spelled i }
  | false ↦ λ s e. record { part = []; is = inl refl; spelled = some_same (b ∷ t) r e }
] refl

abbrev IsSign : List ℕ → Type 0
IsSign text = (text ≡ []) ⊎ ((text ≡ codes "+") ⊎ (text ≡ codes "-"))

sign_front : (t : List ℕ) → Front IsSign t (after_sign t)
sign_front [] = record { part = []; is = inl refl; spelled = refl }
sign_front (b ∷ t) = elim (eqb b 43) as (λ x. eqb b 43 ≡ x → Front IsSign (b ∷ t) (cond (x || eqb b 45) t (b ∷ t))) [
  | true ↦ λ s. let plus : b ≡ 43 = grind (arith, nat_tests, s) in record { part = codes "+"; is = inr (inl refl); spelled = λ i. plus i ∷ t }
  | false ↦ λ _. elim (eqb b 45) as (λ x. eqb b 45 ≡ x → Front IsSign (b ∷ t) (cond x t (b ∷ t))) [
    | true ↦ λ s. let minus : b ≡ 45 = grind (arith, nat_tests, s) in record { part = codes "-"; is = inr (inr refl); spelled = λ i. minus i ∷ t }
    | false ↦ λ s. record { part = []; is = inl refl; spelled = refl }
  ] refl
] refl

power_of : (b : ℕ) (t letter : List ℕ) → b ∷ [] ≡ letter → (letter ≡ codes "e") ⊎ (letter ≡ codes "E") → after_digits (after_sign t) ≡ Some [] → IsPower (b ∷ t)
power_of b t letter same is e =
    let s = sign_front t in
    let d = digits_front (after_sign t) [] e in
    record { letter = letter; sign = s.part; digits = d.digits; is_letter = is; is_sign = s.is; is_digits = d.is; spelled = (λ i. same i ++ t) ∙ ap (λ l. letter ++ l) (s.spelled ∙ ap (λ l. s.part ++ l) (d.spelled ∙ append-nil d.digits)) }

exponent_is : (t : List ℕ) → after_exponent t ≡ Some [] → IsExponent t
unfolding after_exponent
exponent_is [] = λ e. inl refl
exponent_is (b ∷ t) = elim (eqb b 69) as (λ x. eqb b 69 ≡ x → cond (x || eqb b 101) (after_digits (after_sign t)) (Some (b ∷ t)) ≡ Some [] → IsExponent (b ∷ t)) [
  | true ↦ λ s e. let large : b ≡ 69 = grind (arith, nat_tests, s) in inr (power_of b t (codes "E") (ap (λ c. c ∷ []) large) (inr refl) e)
  | false ↦ λ _. elim (eqb b 101) as (λ x. eqb b 101 ≡ x → cond x (after_digits (after_sign t)) (Some (b ∷ t)) ≡ Some [] → IsExponent (b ∷ t)) [
    | true ↦ λ s e. let small : b ≡ 101 = grind (arith, nat_tests, s) in inr (power_of b t (codes "e") (ap (λ c. c ∷ []) small) (inl refl) e)
    | false ↦ λ s e. inl (some_same (b ∷ t) [] e)
  ] refl
] refl

minus_front : (t : List ℕ) → Front IsMinus t (after_minus t)
minus_front [] = record { part = []; is = inl refl; spelled = refl }
minus_front (b ∷ t) = elim (eqb b 45) as (λ x. eqb b 45 ≡ x → Front IsMinus (b ∷ t) (cond x t (b ∷ t))) [
  | true ↦ λ s. let minus : b ≡ 45 = grind (arith, nat_tests, s) in record { part = codes "-"; is = inr refl; spelled = λ i. minus i ∷ t }
  | false ↦ λ s. record { part = []; is = inl refl; spelled = refl }
] refl

-- a step of the chain that gives something had something
step : (o : Option (List ℕ)) (f : List ℕ → Option (List ℕ)) (x : List ℕ) → (o >>= f) ≡ Some x → (m : List ℕ) × (o ≡ Some m) × (f m ≡ Some x)
step None f x e = absurd (cc)
step (Some m) f x e = (m, refl, e)

ended : (o : Option (List ℕ)) → is_end o ≡ true → o ≡ Some []
ended None e = absurd (cc)
ended (Some []) e = refl
ended (Some (b ∷ t)) e = let h : eqb (length (b ∷ t)) 0 ≡ true = e in absurd (grind (arith, nat_tests, h))

passes_numeral : (text : List ℕ) → is_numeral text ≡ true → IsNumeral text
unfolding is_numeral
passes_numeral text e =
    let last = step (after_digits (after_minus text) >>= after_fraction) after_exponent [] (ended _ e) in
    let middle = step (after_digits (after_minus text)) after_fraction last.0 last.1 in
    let minus = minus_front text in
    let whole = digits_front (after_minus text) middle.0 middle.1 in
    let fraction = fraction_front middle.0 last.0 middle.2 in
    record {
      minus = minus.part;
      whole = whole.digits;
      fraction = fraction.part;
      exponent = last.0;
      is_minus = minus.is;
      is_whole = whole.is;
      is_fraction = fraction.is;
      is_exponent = exponent_is last.0 last.2;
      spelled = minus.spelled ∙ ap (λ l. minus.part ++ l) (whole.spelled ∙ ap (λ l. whole.digits ++ l) fraction.spelled);
    }

pub numeral-Decides : (text : List ℕ) → Decides (is_numeral text) (IsNumeral text)
numeral-Decides text = (passes_numeral text, numeral_passes text)
