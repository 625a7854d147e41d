use Rattle.std.proofs.Common.{subst, sym}
use Rattle.taxonomy.specs.declared.told.ChainKind.TheVariants as kinds
use Rattle.taxonomy.specs.Graph.{AreWithin}
use Rattle.taxonomy.specs.Tables.{AreEdges}
use Rattle.taxonomy.proofs.TableLaws.{edges_within, joined_within, joined_first, joined_second}
use Rattle.taxonomy.proofs.tables.upward_edges.Goals as goal

pub returns-clause-within : goal.returns-clause-within
returns-clause-within c =
    joined_within c.args.count c.in_ok-edges.edges.items c.as_slice.result.now c.extend_from_slice.new.self.items c.sort.new.self.items c.in_ok-extend_from_slice.ensures.items c.in_ok-sort.ensures.permutation
    (edges_within kinds.Class c.args.count c.args.links.now c.in_ok-edges.edges.items c.requires c.in_ok-edges.ensures)
    (subst (AreWithin c.args.count) (sym c.as_slice.ensures.value) (edges_within kinds.Instance c.args.count c.args.links.now c.in_ok-instances.instances.items c.requires c.in_ok-instances.ensures))

pub returns-clause-classes : goal.returns-clause-classes
returns-clause-classes c =
    joined_first kinds.Class c.args.links.now c.in_ok-edges.edges.items c.as_slice.result.now c.extend_from_slice.new.self.items c.sort.new.self.items c.in_ok-extend_from_slice.ensures.items c.in_ok-sort.ensures.permutation c.in_ok-edges.ensures

pub returns-clause-instances : goal.returns-clause-instances
returns-clause-instances c =
    joined_second kinds.Instance c.args.links.now c.in_ok-edges.edges.items c.as_slice.result.now c.extend_from_slice.new.self.items c.sort.new.self.items c.in_ok-extend_from_slice.ensures.items c.in_ok-sort.ensures.permutation
    (subst (AreEdges kinds.Instance c.args.links.now) (sym c.as_slice.ensures.value) c.in_ok-instances.ensures)
