-- Counts of faults over several calls.
use Rattle.std.proofs.Common.{◌≡◌, ℕ, ◌-◌, ◌^◌, ◌≤◌, subst, arith}
use Rattle.std.specs.Prelude.{Result, Ok, Err}
use Rattle.sig_io.specs.declared.faults.WriteError.{WriteError}
use Rattle.sig_io.specs.declared.faults.WriteError.TheVariants as write
use Rattle.sig_io.specs.declared.faults.FetchError.{FetchError}
use Rattle.sig_io.specs.declared.faults.FetchError.TheVariants as fetch
use Rattle.sig_io.specs.Causes.{Rose, WriteCause, FetchCause}

-- a count never falls
pub write_never_falls : {T : Type 0} (r : Result T WriteError) (before now : ℕ) → WriteCause before now r → before ≤ now
write_never_falls (Ok x) before now h = omega (arith, h)
write_never_falls (Err write.Failed) before now h = h.0
write_never_falls (Err write.NoMemory) before now h = omega (arith, h)

pub fetch_never_falls : {T : Type 0} (r : Result T FetchError) (before now : ℕ) → FetchCause before now r → before ≤ now
fetch_never_falls (Ok x) before now h = omega (arith, h)
fetch_never_falls (Err fetch.Failed) before now h = h.0
fetch_never_falls (Err fetch.NoMemory) before now h = omega (arith, h)

-- it rose later, or had risen before
pub rose_later : (first before now : ℕ) → first ≤ before → Rose before now → Rose first now
rose_later first before now le (grew, next, fits) = (omega (arith, le, grew), omega (arith, le, next), fits)

pub rose_before : (before now last : ℕ) → Rose before now → now ≤ last → last ≤ 2 ^ 64 - 1 → Rose before last
rose_before before now last (grew, next, within) le fits = (omega (arith, le, grew), omega (arith, le, next), fits)

-- a call after others that left the count as it was
pub write_cause_after : {T : Type 0} (r : Result T WriteError) (first before now : ℕ) → before ≡ first → WriteCause before now r → WriteCause first now r
write_cause_after r first before now e h = subst (λ n. WriteCause n now r) e h

pub fetch_cause_after : {T : Type 0} (r : Result T FetchError) (first before now : ℕ) → before ≡ first → FetchCause before now r → FetchCause first now r
fetch_cause_after r first before now e h = subst (λ n. FetchCause n now r) e h
