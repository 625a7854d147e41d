use Rattle.std.proofs.Common.{◌≡◌, take}
use Rattle.var_expand.specs.Replacement.{without}
use Rattle.var_expand.proofs.replacement.without.Given as goal

abbrev pub invariant-loop-chosen : goal.invariant-loop-chosen
invariant-loop-chosen l = l.rest ≡ without l.names (take l.chosen-index l.choice)
