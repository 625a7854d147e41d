use Rattle.taxonomy.specs.Tables.{shown}
use Rattle.taxonomy.proofs.ChainLaws.{not_disjoint, unknown_first, unknown_second}
use Rattle.taxonomy.proofs.tables.Tables.are_disjoint.Goals as goal

pub returns-in_default : goal.returns-in_default
returns-in_default c =
    let tables = c.args.self.now in
    not_disjoint (shown tables).links tables.names.words.items tables.groups.items c.args.first.now c.args.second.now
    (unknown_first tables.names.words.items tables.links.items tables.groups.items c.args.first.now c.args.second.now c.requires.links c.requires.groups c.in_default.ensures)

pub returns-in_default-other_number : goal.returns-in_default-other_number
returns-in_default-other_number c =
    let tables = c.args.self.now in
    not_disjoint (shown tables).links tables.names.words.items tables.groups.items c.args.first.now c.args.second.now
    (unknown_second tables.names.words.items tables.links.items tables.groups.items c.args.first.now c.args.second.now c.requires.links c.requires.groups c.in_default-other_number.ensures)
