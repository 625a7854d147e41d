use Rattle.std.proofs.Common.{◌≡◌, take, filter}
use Rattle.var_expand.specs.Search.{keeps}
use Rattle.var_expand.proofs.options.allowed.Given as goal

abbrev pub invariant-loop-option : goal.invariant-loop-option
invariant-loop-option l = l.allowed ≡ filter (keeps l.problem l.variable) (take l.option-index l.options)
