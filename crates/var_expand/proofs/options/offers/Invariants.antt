use Rattle.std.proofs.Common.{◌≡◌, take, map}
use Rattle.var_expand.specs.Search.{offered}
use Rattle.var_expand.proofs.options.offers.Given as goal

abbrev pub invariant-loop-at : goal.invariant-loop-at
invariant-loop-at l = l.offers ≡ map (offered l.problem) (take l.at l.variables)
