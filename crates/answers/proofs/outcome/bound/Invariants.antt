use Rattle.std.proofs.Common.{◌≡◌, ◌++◌, length}
use Rattle.answers.specs.Outcomes as spec
use Rattle.answers.proofs.outcome.bound.Given as goal

abbrev pub invariant-loop-names : goal.invariant-loop-names
invariant-loop-names l = l.pairs ++ spec.bound l.names l.forms ≡ spec.bound l.fn.names l.fn.forms

abbrev pub decreases-loop-names : goal.decreases-loop-names
decreases-loop-names l = length l.names
