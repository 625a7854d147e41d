use Rattle.taxonomy.proofs.ChainLaws.{unknown_is_above, unknown_low}
use Rattle.taxonomy.proofs.tables.Tables.is_above.Goals as goal

pub returns-in_default : goal.returns-in_default
returns-in_default c = unknown_low c.args.self.now.names.words.items c.args.self.now.links.items c.args.kind c.args.low.now c.args.high.now c.requires.links c.in_default.ensures

pub returns-in_default-number : goal.returns-in_default-number
returns-in_default-number c = unknown_is_above c.args.self.now.names.words.items c.args.self.now.links.items c.args.kind c.args.low.now c.args.high.now c.requires.links c.in_default-number.ensures
