use Rattle.taxonomy.proofs.ChainLaws.{no_row}
use Rattle.taxonomy.proofs.tables.Tables.row.Goals as goal

pub returns-in-None : goal.returns-in-None
returns-in-None c = no_row c.args.self.now.names.words.items c.args.self.now.links.items c.args.word.now c.requires.links c.in-None.ensures
