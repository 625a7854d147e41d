use Rattle.std.proofs.Common.{◌≡◌, ◌++◌, take}
use Rattle.var_expand.proofs.replacement.append_copies.Given as goal

abbrev pub invariant-loop-form : goal.invariant-loop-form
invariant-loop-form l = l.forms ≡ l.fn.forms ++ take l.form-index l.more
