use Rattle.std.proofs.Common.{◌≡◌, ◌++◌, take}
use Rattle.std.specs.List.{flat_map}
use Rattle.var_expand.specs.Gathered.{if_applied}
use Rattle.var_expand.proofs.lists.push_applied.Given as goal

abbrev pub invariant-loop-form : goal.invariant-loop-form
invariant-loop-form l = l.lists ≡ l.fn.lists ++ flat_map if_applied (take l.form-index l.forms)
