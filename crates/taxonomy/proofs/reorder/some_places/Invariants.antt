use Rattle.taxonomy.specs.Reorder.{AreSomePlaces}
use Rattle.taxonomy.proofs.reorder.some_places.Given as goal

abbrev pub invariant-loop-at : goal.invariant-loop-at
invariant-loop-at l = AreSomePlaces l.count l.at l.order l.places.items
