use Rattle.taxonomy.specs.Chains.{later_kind}
use Rattle.taxonomy.proofs.ChainLaws.{reaches_is, unknown_reaches}
use Rattle.taxonomy.proofs.NameLaws.{distinct_words}
use Rattle.taxonomy.proofs.tables.Tables.reaches.Goals as goal

pub returns-in_default : goal.returns-in_default
returns-in_default c =
    unknown_reaches c.args.self.now.names.words.items c.args.self.now.links.items (later_kind c.args.kind) c.args.high c.args.word.now c.requires.tables.links c.requires.high c.in_default.ensures

pub returns : goal.returns
returns c =
    reaches_is c.args.self.now.names.words.items c.args.self.now.links.items (later_kind c.args.kind) c.sets.result.now c.in-Some.low c.args.high c.args.word.now c.is_at_or_below.result
    c.requires.tables.links (distinct_words c.args.self.now.names.keys.entries c.args.self.now.names.places.items c.args.self.now.names.words.items c.requires.tables.numbered) c.sets.ensures c.in-Some.ensures.0 c.in-Some.ensures.1 c.requires.high
    c.is_at_or_below.ensures
