use Rattle.std.proofs.Common.{◌≡◌, false, take}
use Rattle.unify.proofs.BindingLaws.{pairs_of, is_named}
use Rattle.unify.proofs.bindings.Bindings.find.Given as goal

-- no binding so far has the name
abbrev pub invariant-loop-binding : goal.invariant-loop-binding
invariant-loop-binding l = is_named l.name (pairs_of (take l.binding-index l.binding-items)) ≡ false
