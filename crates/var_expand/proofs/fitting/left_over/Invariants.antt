use Rattle.std.proofs.Common.{◌≡◌, ◌+◌, take, length}
use Rattle.var_expand.specs.Choices.{after}
use Rattle.var_expand.proofs.fitting.left_over.Given as goal

abbrev pub invariant-loop-form : goal.invariant-loop-form
invariant-loop-form l = l.left + length (after l.choice (take l.form-index l.forms)) ≡ l.count
