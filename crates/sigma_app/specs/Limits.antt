-- The limits that the options of a query give, and which values words may have.
use Rattle.std.specs.Prelude.{◌≡◌, ◌<◌, ◌^◌, ℕ, Option, Some, None, if◌then◌else◌, Ok, codes}
use Rattle.std.specs.Str.{bytes_eq}
use Rattle.std.specs.Str.Parse.{IsNumeral, digits_value, without_leading_plus}
use Rattle.kif_tree.specs.Terms.{Bytes}
use Rattle.saturate.specs.declared.limits.Limits.{Limits}
use Rattle.saturate.specs.declared.limits.Mode.{Mode}
use Rattle.saturate.specs.declared.limits.Mode.TheVariants.{Support, Full}
use Rattle.saturate.specs.Limits.{checked}
use Rattle.sigma_app.specs.Requests.{Asked, Meaning, asks, checks, gives_clauses, exports, drills, IsUpTo}

-- a number in decimal, with a plus in front or none
abbrev pub digits_number : Bytes → ℕ
digits_number text = digits_value 10 (without_leading_plus text)

-- what an option gives, or where it isn't given the default
abbrev pub IsNumber : ℕ → Option Bytes → ℕ → Type 0
IsNumber default None number = number ≡ default
IsNumber default (Some text) number = IsNumeral 10 (without_leading_plus text) × (number ≡ digits_number text)

-- it is a number of 32 bits, or isn't given
abbrev pub HasNumber : Option Bytes → Type 0
HasNumber None = Unit {0}
HasNumber (Some text) = IsNumeral 10 (without_leading_plus text) × (digits_number text < 2 ^ 32)

abbrev pub mode_of : Option Bytes → Option Mode
mode_of None = Some Support
mode_of (Some word) = if bytes_eq word (codes "support") then Some Support else if bytes_eq word (codes "full") then Some Full else None

-- the limits are those of the options, and each is in its range
pub record AreLimits (asked : Asked) (limits : Limits) : Type 0 where
  pub turns : IsNumber 2000 asked.turns limits.turns
  pub answers : IsNumber 1 asked.answers limits.answers
  pub kept : IsNumber 200000 asked.kept limits.kept
  pub mode : mode_of asked.mode ≡ Some limits.mode
  pub within : checked limits ≡ Ok tt

pub record HasLimits (asked : Asked) : Type 0 where
  pub limits : Limits
  pub are : AreLimits asked limits

-- the size of a drill is a number from 1 to 2,000 in decimal, with a plus in front or none
abbrev pub HasSize : Bytes → Type 0
HasSize size = IsUpTo 2000 size

-- The options of a query, and the size of a drill, have values that they may have. The parser of command lines finds other values too, in
-- words that it doesn't promise to take.
abbrev pub HasValues : Meaning → Type 0
HasValues (asks asked) = HasLimits asked
HasValues (checks files) = Unit {0}
HasValues (gives_clauses files) = Unit {0}
HasValues (exports files) = Unit {0}
HasValues (drills size) = HasSize size
