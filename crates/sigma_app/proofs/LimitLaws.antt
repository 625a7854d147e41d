-- Options that have values that they may have give limits, and whether a drill may have its size is decided.
use Rattle.std.proofs.Common.{◌≡◌, ◌≤◌, ℕ, nat_le, Bool, true, false, not, ◌&&◌, if◌then◌else◌, Option, Some, None, Ok, Err, codes, ◌⊎◌, inl, inr, refl, sym, ap, ◌∙◌, arith}
use Rattle.std.specs.Prelude.{IfSome}
use Rattle.std.proofs.lemmas.Bool.{false≢true}
use Rattle.std.proofs.lemmas.Bool.Decides.{nat_tests}
use Rattle.clap.specs.ValueTests.{accepts}
use Rattle.clap.specs.declared.builder.value_parser.ValueParser.TheVariants as vp
use Rattle.clap.proofs.ValueTestLemmas.{accepts-Accepts, Accepts-accepts}
use Rattle.kif_tree.specs.Terms.{Bytes}
use Rattle.saturate.specs.declared.limits.Limits.{Limits}
use Rattle.saturate.specs.declared.limits.LimitsError.TheVariants as errors
use Rattle.saturate.specs.declared.limits.Mode.{Mode}
use Rattle.saturate.specs.declared.limits.Mode.TheVariants.{Support, Full}
use Rattle.saturate.specs.Limits.{is_within, checked}
use Rattle.sigma_app.specs.Requests.{Asked, IsUpTo, HasOptions}
use Rattle.sigma_app.specs.Limits.{digits_number, IsNumber, mode_of, HasLimits, HasSize}

-- ---- ranges

within_test : (greatest n : ℕ) → 1 ≤ n → n ≤ greatest → is_within greatest n ≡ true
within_test greatest n least most =
    let one : nat_le 1 n ≡ true = grind (arith, nat_tests) in
    let two : nat_le n greatest ≡ true = grind (arith, nat_tests) in λ i. one i && two i

checked_within : (limits : Limits) → is_within 100000 limits.turns ≡ true → is_within 1000 limits.answers ≡ true → is_within 200000 limits.kept ≡ true → checked limits ≡ Ok tt
checked_within limits a b c = λ i.
    if not (a i) then Err errors.TurnsOutOfRange
    else if not (b i) then Err errors.AnswersOutOfRange
    else if not (c i) then Err errors.KeptOutOfRange
    else Ok tt

-- ---- options that have values that they may have

record IsGiven (default greatest : ℕ) (text : Option Bytes) : Type 0 where
  number : ℕ
  is : IsNumber default text number
  within : is_within greatest number ≡ true

given : (default greatest : ℕ) (text : Option Bytes) → is_within greatest default ≡ true → IfSome text (IsUpTo greatest) → IsGiven default greatest text
given default greatest None fits h = record { number = default; is = refl; within = fits }
given default greatest (Some text) fits (numeral, least, most) =
    record { number = digits_number text; is = (numeral, refl); within = within_test greatest (digits_number text) least most }

mode_given : (word : Option Bytes) → IfSome word (λ w. (w ≡ codes "support") ⊎ (w ≡ codes "full")) → (mode : Mode) × (mode_of word ≡ Some mode)
mode_given None h = (Support, refl)
mode_given (Some word) (inl e) = (Support, ap (λ (w : Bytes). mode_of (Some w)) e)
mode_given (Some word) (inr e) = (Full, ap (λ (w : Bytes). mode_of (Some w)) e)

pub options_have_limits : (asked : Asked) → HasOptions asked → HasLimits asked
options_have_limits asked options =
    let turns = given 2000 100000 asked.turns refl options.turns in
    let answers = given 1 1000 asked.answers refl options.answers in
    let kept = given 200000 200000 asked.kept refl options.kept in
    let mode = mode_given asked.mode options.mode in
    let limits : Limits = record { turns = turns.number; answers = answers.number; kept = kept.number; mode = mode.0 } in
    record {
      limits = limits;
      are = record { turns = turns.is; answers = answers.is; kept = kept.is; mode = mode.1; within = checked_within limits turns.within answers.within kept.within };
    }

-- ---- the size of a drill

pub size_or_not : (size : Bytes) → HasSize size ⊎ (HasSize size → ⊥)
size_or_not size = by_test (accepts false (vp.Unsigned 1 2000) size) refl
  where
    by_test : (passes : Bool) → accepts false (vp.Unsigned 1 2000) size ≡ passes → HasSize size ⊎ (HasSize size → ⊥)
    by_test true e = let passed = accepts-Accepts false (vp.Unsigned 1 2000) size e in inl (passed.0, passed.2, passed.3)
    by_test false e = inr (λ has. false≢true (sym e ∙ Accepts-accepts false (vp.Unsigned 1 2000) size (has.0, omega (arith, has.2), has.1, has.2)))
