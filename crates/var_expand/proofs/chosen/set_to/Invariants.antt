use Rattle.std.proofs.Common.{◌≡◌, length}
use Rattle.var_expand.specs.Chosen.{set_to}
use Rattle.var_expand.proofs.chosen.set_to.Given as goal

abbrev pub invariant-loop-choice : goal.invariant-loop-choice
invariant-loop-choice l = set_to l.choice l.form ≡ set_to l.fn.choice l.form

abbrev pub decreases-loop-choice : goal.decreases-loop-choice
decreases-loop-choice l = length l.choice
