use Rattle.taxonomy.specs.Starts.{AreStarts}
use Rattle.taxonomy.proofs.starts.starts_of.Given as goal

abbrev pub invariant-loop-at : goal.invariant-loop-at
invariant-loop-at l = AreStarts l.sets l.groups l.at l.starts.items
