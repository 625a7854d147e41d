-- Sets of numbers, kept as runs of numbers.
use Rattle.std.specs.Prelude.{◌≡◌, ℕ, ◌<◌, ◌≤◌, List, Bool, true, false, ◌&&◌, ◌||◌, nat_le, nat_lt}
use Rattle.std.specs.List.{list_any}
use Rattle.taxonomy.specs.declared.runs.Run.{Run}

-- the run has the number
abbrev pub in_run : ℕ → Run → Bool
in_run number run = nat_le run.start number && nat_lt number run.end

-- one of the runs has the number
abbrev pub has : List Run → ℕ → Bool
has runs number = list_any (in_run number) runs

-- the runs have each number from one up to the other, which comes later
pub record IsCovered (runs : List Run) (start end : ℕ) : Type 0 where
  pub later : start < end
  pub covered : (number : ℕ) → start ≤ number → number < end → has runs number ≡ true

-- the runs have each number of the run
abbrev pub HasRun : List Run → Run → Type 0
HasRun runs run = (number : ℕ) → run.start ≤ number → number < run.end → has runs number ≡ true

-- the run has a number that the runs don't have
pub record LacksOf (runs : List Run) (run : Run) (number : ℕ) : Type 0 where
  pub from : run.start ≤ number
  pub below : number < run.end
  pub lacks : has runs number ≡ false

-- the first set has each number of the second
abbrev pub HasAll : List Run → List Run → Type 0
HasAll first second = (number : ℕ) → has second number ≡ true → has first number ≡ true

-- the second set has a number that the first doesn't have
pub record Lacks (first second : List Run) (number : ℕ) : Type 0 where
  pub given : has second number ≡ true
  pub lacks : has first number ≡ false

-- the new set has the numbers of the old one and those of the run
abbrev pub IsWith : List Run → List Run → Run → Type 0
IsWith old new run = (number : ℕ) → has new number ≡ (has old number || in_run number run)

-- the set has the numbers of the two others
abbrev pub IsUnion : List Run → List Run → List Run → Type 0
IsUnion both first second = (number : ℕ) → has both number ≡ (has first number || has second number)
