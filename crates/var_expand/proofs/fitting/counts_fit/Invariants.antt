use Rattle.std.proofs.Common.{◌≡◌, take, true}
use Rattle.std.specs.List.{list_all}
use Rattle.var_expand.specs.Search.{count_passes}
use Rattle.var_expand.proofs.fitting.counts_fit.Given as goal

abbrev pub invariant-loop-list : goal.invariant-loop-list
invariant-loop-list l = list_all (count_passes l.signatures l.partly l.choice) (take l.list-index l.lists) ≡ true
