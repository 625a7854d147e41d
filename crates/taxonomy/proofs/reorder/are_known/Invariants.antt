use Rattle.std.proofs.Common.{take}
use Rattle.taxonomy.specs.Numbered.{AreBelow}
use Rattle.taxonomy.proofs.reorder.are_known.Given as goal

abbrev pub invariant-loop-place : goal.invariant-loop-place
invariant-loop-place l = AreBelow l.count (take l.place-index l.places)
