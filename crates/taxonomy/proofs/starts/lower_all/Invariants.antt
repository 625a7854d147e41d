use Rattle.std.proofs.Common.{ℕ, ◌≤◌, ◌<◌, get_or}
use Rattle.taxonomy.specs.Starts.{AreLowered}
use Rattle.taxonomy.proofs.starts.lower_all.Given as goal

abbrev pub invariant-loop-number : goal.invariant-loop-number
invariant-loop-number l = AreLowered l.fn.starts.items l.starts.items × ((n : ℕ) → l.from ≤ n → n < l.number → get_or l.starts.items n 0 ≤ l.group)
