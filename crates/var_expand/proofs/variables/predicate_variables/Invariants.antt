use Rattle.std.proofs.Common.{◌≡◌, take, filter}
use Rattle.var_expand.specs.Problems.{is_predicate}
use Rattle.var_expand.proofs.variables.predicate_variables.Given as goal

abbrev pub invariant-loop-name : goal.invariant-loop-name
invariant-loop-name l = l.predicates ≡ filter (is_predicate l.lists) (take l.name-index l.names)
