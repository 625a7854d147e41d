-- The limits of a search.
use Rattle.std.specs.Prelude.{ℕ, nat_le, Bool, ◌&&◌, not, if◌then◌else◌, Result, Ok, Err}
use Rattle.saturate.specs.declared.limits.Limits.{Limits}
use Rattle.saturate.specs.declared.limits.LimitsError.{LimitsError}
use Rattle.saturate.specs.declared.limits.LimitsError.TheVariants as errors

-- from 1 to the greatest
abbrev pub is_within : ℕ → ℕ → Bool
is_within greatest n = nat_le 1 n && nat_le n greatest

-- the first limit that is out of its range
abbrev pub checked : Limits → Result (Unit {0}) LimitsError
checked limits =
    if not (is_within 100000 limits.turns) then Err errors.TurnsOutOfRange
    else if not (is_within 1000 limits.answers) then Err errors.AnswersOutOfRange
    else if not (is_within 200000 limits.kept) then Err errors.KeptOutOfRange
    else Ok tt
