use Rattle.std.proofs.Common.{◌≡◌, take, false}
use Rattle.std.specs.List.{list_any}
use Rattle.var_expand.specs.Choices.{is_row}
use Rattle.var_expand.proofs.lists.has_row.Given as goal

abbrev pub invariant-loop-form : goal.invariant-loop-form
invariant-loop-form l = list_any is_row (take l.form-index l.forms) ≡ false
