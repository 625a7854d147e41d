use Rattle.taxonomy.proofs.GraphLaws.{round_ends}
use Rattle.taxonomy.proofs.closure.closure.Goals as goal

pub returns-then-not-branch : goal.returns-then-not-branch
returns-then-not-branch c =
    round_ends c.args.edges.now c.args.count c.loop-sets.sets.items c.round.new.sets.items c.in_ok-round.field-0 c.if-not-branch.true c.loop-sets.invariant.long c.in_ok-round.ensures
