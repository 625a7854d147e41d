use Rattle.std.proofs.Common.{◌≡◌, ◌≤◌, ◌+◌, ◌-◌, ◌||◌, ℕ, take, length}
use Rattle.taxonomy.specs.Runs as spec
use Rattle.taxonomy.proofs.runs.union.Given as goal

abbrev pub invariant-loop-at_first : goal.invariant-loop-at_first
invariant-loop-at_first l = (l.at_first ≤ length l.first) × (l.at_second ≤ length l.second)
    × ((number : ℕ) → spec.has l.both.items number ≡ (spec.has (take l.at_first l.first) number || spec.has (take l.at_second l.second) number))

abbrev pub decreases-loop-at_first : goal.decreases-loop-at_first
decreases-loop-at_first l = (length l.first - l.at_first) + (length l.second - l.at_second)
