use Rattle.std.proofs.Common.{rules}
use Rattle.taxonomy.proofs.ReorderLaws.{links_anew}
use Rattle.taxonomy.proofs.taxonomy.reorder.Goals as goal

pub returns-clause-moved : goal.returns-clause-moved
returns-clause-moved c =
    links_anew c.args.names.now.words.items c.renumber.new.self.words.items c.in_ok-order.order.items c.in-Some.places.items c.args.links.now.items c.in_ok-links.field-0.items
    (search rules) (search rules) c.requires.links (search rules)
