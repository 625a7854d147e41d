use Rattle.std.proofs.Common.{subst, sym}
use Rattle.taxonomy.specs.Graph.{AreWithin}
use Rattle.taxonomy.specs.Tables.{AreEdges}
use Rattle.taxonomy.proofs.TableLaws.{edges_within, edges_sorted}
use Rattle.taxonomy.proofs.tables.sets_of.Goals as goal

pub closure-requires : goal.closure-requires
closure-requires c =
    subst (AreWithin c.args.count) (sym c.as_slice.ensures.value)
    (edges_within c.args.kind c.args.count c.args.links.now c.sort.new.self.items c.requires
    (edges_sorted c.args.kind c.args.links.now c.in_ok-edges.edges.items c.sort.new.self.items c.in_ok-sort.ensures.permutation c.in_ok-edges.ensures))

pub returns : goal.returns
returns c = record {
  edges = c.as_slice.result.now;
  are = subst (AreEdges c.args.kind c.args.links.now) (sym c.as_slice.ensures.value)
      (edges_sorted c.args.kind c.args.links.now c.in_ok-edges.edges.items c.sort.new.self.items c.in_ok-sort.ensures.permutation c.in_ok-edges.ensures);
  closed = c.in_ok-sets.ensures;
}
