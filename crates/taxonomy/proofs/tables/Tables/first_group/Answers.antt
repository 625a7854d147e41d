use Rattle.std.proofs.Common.{◌<◌, ◌≤◌, List, length, subst, arith}
use Rattle.std.proofs.lemmas.List.{take_all}
use Rattle.taxonomy.specs.declared.numbered.NumberedGroup.{NumberedGroup}
use Rattle.taxonomy.specs.Numbered.{word}
use Rattle.taxonomy.specs.Tables.{shown}
use Rattle.taxonomy.proofs.ChainLaws.{NoneSeparates, first_disjoint, not_disjoint}
use Rattle.taxonomy.proofs.tables.Tables.first_group.Goals as goal

pub returns-then-separates : goal.returns-then-separates
returns-then-separates c =
    let tables = c.args.self.now in
    let within : c.loop-at.at < length tables.groups.items = omega (arith, c.loop-at-test.true, c.len.ensures, tables.groups.ok.0) in
    first_disjoint (shown tables).links tables.names.words.items tables.groups.items c.loop-at.at c.index-group.result.now (word c.args.self.now.names.words.items c.args.first) (word c.args.self.now.names.words.items c.args.second) within c.index-group.ensures c.loop-at.invariant c.if-separates.ensures

pub returns : goal.returns
returns c =
    let tables = c.args.self.now in
    let all : length tables.groups.items ≤ c.loop-at.at = omega (arith, c.loop-at-test.false, c.len.ensures, tables.groups.ok.0) in
    not_disjoint (shown tables).links tables.names.words.items tables.groups.items (word c.args.self.now.names.words.items c.args.first) (word c.args.self.now.names.words.items c.args.second)
    (subst (λ (groups : List NumberedGroup). NoneSeparates (shown tables).links tables.names.words.items groups (word c.args.self.now.names.words.items c.args.first) (word c.args.self.now.names.words.items c.args.second)) (take_all c.loop-at.at tables.groups.items all) c.loop-at.invariant)
