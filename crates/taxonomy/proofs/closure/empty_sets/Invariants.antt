use Rattle.taxonomy.specs.Graph as spec
use Rattle.taxonomy.proofs.closure.empty_sets.Given as goal

abbrev pub invariant-loop : goal.invariant-loop
invariant-loop l = spec.AreEmpty l.counter l.sets.items
