use Rattle.std.proofs.Common.{◌≤◌, ◌∷◌, take}
use Rattle.saturate.specs.Runs.{IsFirstOf}
use Rattle.saturate.proofs.choice.older_of_all.Given as goal

abbrev pub invariant-loop-other : goal.invariant-loop-other
invariant-loop-other l = IsFirstOf ◌≤◌ (l.first ∷ take l.other-index l.others) l.best
