use Rattle.std.proofs.Common.{◌≡◌, map, take}
use Rattle.type_guard.specs.Guarded.{guarded}
use Rattle.type_guard.proofs.guarding.+guarded.Given as goal

abbrev pub invariant-guarded_all-loop-form : goal.invariant-guarded_all-loop-form
invariant-guarded_all-loop-form l = l.made ≡ map (guarded l.signatures) (take l.form-index l.forms)
