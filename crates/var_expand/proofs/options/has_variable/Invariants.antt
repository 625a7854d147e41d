use Rattle.std.proofs.Common.{◌≡◌, take, false}
use Rattle.std.specs.List.{list_any}
use Rattle.var_expand.specs.Choices.{is_variable}
use Rattle.var_expand.proofs.options.has_variable.Given as goal

abbrev pub invariant-loop-form : goal.invariant-loop-form
invariant-loop-form l = list_any is_variable (take l.form-index l.forms) ≡ false
