use Rattle.std.proofs.Common.{◌≡◌, take, true}
use Rattle.std.specs.List.{list_all}
use Rattle.var_expand.specs.Search.{name_passes}
use Rattle.var_expand.proofs.fitting.names_fit.Given as goal

abbrev pub invariant-loop-list : goal.invariant-loop-list
invariant-loop-list l = list_all (name_passes l.partly l.function l.choice) (take l.list-index l.lists) ≡ true
