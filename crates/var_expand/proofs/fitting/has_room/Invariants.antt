use Rattle.std.proofs.Common.{◌≡◌, take, false}
use Rattle.var_expand.specs.Search.{has_room}
use Rattle.var_expand.proofs.fitting.has_room.Given as goal

abbrev pub invariant-loop-form : goal.invariant-loop-form
invariant-loop-form l = has_room l.choice (take l.form-index l.forms) ≡ false
