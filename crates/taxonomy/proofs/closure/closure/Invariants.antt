use Rattle.taxonomy.specs.Graph as spec
use Rattle.taxonomy.proofs.closure.closure.Given as goal

abbrev pub invariant-loop-sets : goal.invariant-loop-sets
invariant-loop-sets l = spec.IsPartial l.edges l.count l.sets.items

abbrev pub decreases-loop-sets : goal.decreases-loop-sets
decreases-loop-sets l = spec.all_absent l.count l.sets.items
