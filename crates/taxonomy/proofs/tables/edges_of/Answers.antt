use Rattle.taxonomy.proofs.TableLaws.{any, edges_skip, edges_more}
use Rattle.taxonomy.proofs.tables.edges_of.Goals as goal

pub loop-link-preserved-then-not-is_same_kind : goal.loop-link-preserved-then-not-is_same_kind
loop-link-preserved-then-not-is_same_kind c =
    edges_skip c.args.kind c.args.links.now c.loop-link.link-index any c.loop-link.edges.items c.loop-link-test.true c.if-not-is_same_kind.ensures c.loop-link.invariant

pub loop-link-preserved : goal.loop-link-preserved
loop-link-preserved c =
    edges_more c.args.kind c.args.links.now c.loop-link.link-index any c.loop-link.edges.items c.push.new.self.items c.loop-link-test.true c.if-not-is_same_kind.ensures c.in_ok-push.ensures.items c.loop-link.invariant
