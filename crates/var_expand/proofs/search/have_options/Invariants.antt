use Rattle.std.proofs.Common.{◌≡◌}
use Rattle.var_expand.proofs.search.have_options.Given as goal

abbrev pub invariant-loop-offer : goal.invariant-loop-offer
invariant-loop-offer l = l.choice.items ≡ l.fn.choice.items
