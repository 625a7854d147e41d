use Rattle.std.proofs.Common.{◌≡◌, ◌<◌, ◌≤◌, ◌-◌, true, ℕ}
use Rattle.taxonomy.specs.Runs as spec
use Rattle.taxonomy.proofs.runs.missing_of.Given as goal

abbrev pub invariant-loop-at : goal.invariant-loop-at
invariant-loop-at l = (l.run.start ≤ l.at) × ((number : ℕ) → l.run.start ≤ number → number < l.at → spec.has l.runs number ≡ true)

abbrev pub decreases-loop-at : goal.decreases-loop-at
decreases-loop-at l = l.run.end - l.at
