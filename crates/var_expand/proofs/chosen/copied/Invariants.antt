use Rattle.std.proofs.Common.{◌≡◌, take}
use Rattle.var_expand.proofs.chosen.copied.Given as goal

abbrev pub invariant-loop-chosen : goal.invariant-loop-chosen
invariant-loop-chosen l = l.copy ≡ take l.chosen-index l.choice
