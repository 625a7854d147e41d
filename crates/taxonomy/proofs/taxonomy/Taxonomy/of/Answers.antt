use Rattle.std.proofs.Common.{List, ap₂, ◌∙◌}
use Rattle.taxonomy.specs.Told.{Link, DisjointWords}
use Rattle.taxonomy.proofs.NumberedLaws.{are_links_grow}
use Rattle.taxonomy.proofs.taxonomy.Taxonomy.of.Goals as goal

pub returns : goal.returns
returns c =
    c.in_ok-tables.ensures.shown
    ∙ ap₂ (λ (links : List Link) (groups : List DisjointWords). record { links = links; disjoint = groups })
    (are_links_grow c.args.forms.now c.reorder.new.names.words.items c.numbered_groups.new.names.words.items c.reorder.new.links.items c.in_ok-groups.ensures.extends
    (record { within = c.in_ok-reorder.ensures.moved.within; are = c.in_ok-reorder.ensures.moved.same ∙ c.in_ok-links.ensures.links.are })).are
    c.in_ok-groups.ensures.groups.are
