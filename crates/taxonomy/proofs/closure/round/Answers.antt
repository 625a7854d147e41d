use Rattle.taxonomy.specs.declared.closure.Edge.{Edge}
use Rattle.taxonomy.proofs.GraphLaws.{round_more}
use Rattle.taxonomy.proofs.closure.round.Goals as goal

pub loop-edge-preserved : goal.loop-edge-preserved
loop-edge-preserved c =
    let d : Edge = record { low = 0; high = 0 } in
    round_more c.args.edges.now c.loop-edge.edge-index d c.args.sets.now.items c.loop-edge.sets.items c.pass.new.sets.items c.loop-edge.changed c.in_ok-grew.grew
    c.loop-edge-test.true c.requires.within c.loop-edge.invariant c.in_ok-grew.ensures
