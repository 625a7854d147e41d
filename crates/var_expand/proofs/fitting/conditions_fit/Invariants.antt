use Rattle.std.proofs.Common.{◌≡◌, take, true}
use Rattle.std.specs.List.{list_all}
use Rattle.var_expand.specs.Search.{condition_passes}
use Rattle.var_expand.proofs.fitting.conditions_fit.Given as goal

abbrev pub invariant-loop-condition : goal.invariant-loop-condition
invariant-loop-condition l = list_all (condition_passes l.taxonomy.links l.partly l.choice) (take l.condition-index l.conditions) ≡ true
