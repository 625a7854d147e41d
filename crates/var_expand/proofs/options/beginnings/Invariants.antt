use Rattle.std.proofs.Common.{◌≡◌, take}
use Rattle.var_expand.specs.Choices.{beginnings}
use Rattle.var_expand.proofs.options.beginnings.Given as goal

abbrev pub invariant-loop-at : goal.invariant-loop-at
invariant-loop-at l = l.beginnings ≡ take l.at (beginnings l.forms)
