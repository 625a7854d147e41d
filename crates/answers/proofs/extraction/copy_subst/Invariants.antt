use Rattle.std.proofs.Common.{◌≡◌, take}
use Rattle.answers.proofs.extraction.copy_subst.Given as goal

abbrev pub invariant-loop-pair : goal.invariant-loop-pair
invariant-loop-pair l = l.pairs ≡ take l.pair-index l.pair-items
