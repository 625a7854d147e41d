use Rattle.std.proofs.Common.{◌≡◌, []}
use Rattle.var_expand.proofs.search.parts_complete.Given as goal

abbrev pub invariant-loop-part : goal.invariant-loop-part
invariant-loop-part l = l.choice.items ≡ []
