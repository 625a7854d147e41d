use Rattle.std.proofs.Common.{◌≡◌, take, map}
use Rattle.var_expand.specs.Replacement.{replaced}
use Rattle.var_expand.proofs.expansion.variants.Given as goal

abbrev pub invariant-loop-choice : goal.invariant-loop-choice
invariant-loop-choice l = l.variants ≡ map (replaced l.form) (take l.choice-index l.fitting)
