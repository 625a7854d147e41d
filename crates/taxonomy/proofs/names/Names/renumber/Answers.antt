use Rattle.std.proofs.Common.{rules}
use Rattle.taxonomy.proofs.ReorderLaws.{numbered_anew}
use Rattle.taxonomy.proofs.names.Names.renumber.Goals as goal

pub returns-clause-numbered : goal.returns-clause-numbered
returns-clause-numbered c =
    numbered_anew c.args.self.now.keys.entries c.args.self.now.places.items c.in_ok-self-2.field-0.items c.args.self.now.words.items c.in_ok-self.field-0.items c.args.order.now c.args.places.now
    c.requires.numbered c.requires.places (search rules) (search rules)
