use Rattle.std.proofs.Common.{◌≡◌, take}
use Rattle.unify.proofs.BindingLaws.{pairs_of}
use Rattle.unify.proofs.bindings.Bindings.copied.Given as goal

abbrev pub invariant-loop-binding : goal.invariant-loop-binding
invariant-loop-binding l = l.pairs ≡ pairs_of (take l.binding-index l.binding-items)
