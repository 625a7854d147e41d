use Rattle.std.proofs.Common.{◌≡◌, false, take}
use Rattle.sigma_base.specs.Lists.{Each}
use Rattle.signatures.specs.Below.{IsClosedAt}
use Rattle.signatures.proofs.below.add_round.Given as goal

abbrev pub invariant-loop-located : goal.invariant-loop-located
invariant-loop-located l = l.changed ≡ false → Each (IsClosedAt l.words) (take l.located-index l.forms)
