-- When a call may answer that the outside failed, in terms of the count of faults before and after it.
use Rattle.std.specs.Prelude.{◌≡◌, ℕ, ◌+◌, ◌-◌, ◌^◌, ◌≤◌, min, Bool, true, false, Result, Ok, Err}
use Rattle.sig_io.specs.declared.faults.WriteError.{WriteError}
use Rattle.sig_io.specs.declared.faults.WriteError.TheVariants as write
use Rattle.sig_io.specs.declared.faults.FetchError.{FetchError}
use Rattle.sig_io.specs.declared.faults.FetchError.TheVariants as fetch

-- the count is larger than before, or it stood at the greatest `u64`, which it never passes, and stays there
abbrev pub Rose : ℕ → ℕ → Type 0
Rose before now = (before ≤ now) × (min (before + 1) (2 ^ 64 - 1) ≤ now) × (now ≤ 2 ^ 64 - 1)

-- the next number of a count, which stays at the greatest `u64`
abbrev pub next_number : ℕ → ℕ
next_number n = min (n + 1) (2 ^ 64 - 1)

-- a write that failed raised the count, and any other left it as it was
abbrev pub WriteCause : {T : Type 0} → ℕ → ℕ → Result T WriteError → Type 0
WriteCause before now (Ok x) = now ≡ before
WriteCause before now (Err write.Failed) = Rose before now
WriteCause before now (Err write.NoMemory) = now ≡ before

-- a fetch that failed raised the count, and any other left it as it was
abbrev pub FetchCause : {T : Type 0} → ℕ → ℕ → Result T FetchError → Type 0
FetchCause before now (Ok x) = now ≡ before
FetchCause before now (Err fetch.Failed) = Rose before now
FetchCause before now (Err fetch.NoMemory) = now ≡ before

-- the write failed exactly where it was to fail
abbrev pub WriteFailsIf : {T : Type 0} → Bool → Result T WriteError → Type 0
WriteFailsIf listed (Ok x) = listed ≡ false
WriteFailsIf listed (Err write.Failed) = listed ≡ true
WriteFailsIf listed (Err write.NoMemory) = listed ≡ false

-- the fetch failed exactly where it was to fail
abbrev pub FetchFailsIf : {T : Type 0} → Bool → Result T FetchError → Type 0
FetchFailsIf listed (Ok x) = listed ≡ false
FetchFailsIf listed (Err fetch.Failed) = listed ≡ true
FetchFailsIf listed (Err fetch.NoMemory) = listed ≡ false
