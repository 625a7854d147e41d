use Rattle.std.proofs.Common.{◌∷◌, take}
use Rattle.saturate.specs.Runs.{IsFirstOf, IsLighter}
use Rattle.saturate.proofs.choice.lighter_of_all.Given as goal

abbrev pub invariant-loop-other : goal.invariant-loop-other
invariant-loop-other l = IsFirstOf (IsLighter l.state.reached) (l.first ∷ take l.other-index l.others) l.best
