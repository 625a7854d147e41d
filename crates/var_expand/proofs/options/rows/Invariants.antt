use Rattle.std.proofs.Common.{◌≡◌, take, map}
use Rattle.var_expand.specs.Search.{row_parts}
use Rattle.var_expand.proofs.options.rows.Given as goal

abbrev pub invariant-loop-variable : goal.invariant-loop-variable
invariant-loop-variable l = l.rows ≡ map row_parts (take l.variable-index l.variables)
