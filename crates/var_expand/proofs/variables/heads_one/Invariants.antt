use Rattle.std.proofs.Common.{◌≡◌, take, false}
use Rattle.std.specs.List.{list_any}
use Rattle.var_expand.specs.Choices.{begins_with}
use Rattle.var_expand.proofs.variables.heads_one.Given as goal

abbrev pub invariant-loop-list : goal.invariant-loop-list
invariant-loop-list l = list_any (begins_with l.name) (take l.list-index l.lists) ≡ false
