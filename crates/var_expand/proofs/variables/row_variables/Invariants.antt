use Rattle.std.proofs.Common.{◌≡◌, take, filter}
use Rattle.var_expand.specs.Choices.{is_row}
use Rattle.var_expand.proofs.variables.row_variables.Given as goal

abbrev pub invariant-loop-name : goal.invariant-loop-name
invariant-loop-name l = l.rows ≡ filter is_row (take l.name-index l.names)
