use Rattle.std.proofs.Common.{◌≡◌, ◌<◌, ℕ, length, get_or, refl, subst, sym, arith}
use Rattle.std.proofs.lemmas.List.{get_or_read}
use Rattle.taxonomy.specs.Numbered.{word}
use Rattle.taxonomy.specs.Tables.{NoneSeparates}
use Rattle.taxonomy.proofs.ChainLaws.{none_before}
use Rattle.taxonomy.proofs.NameLaws.{distinct_words}
use Rattle.taxonomy.proofs.tables.Tables.start.Goals as goal

pub returns : goal.returns
returns c =
    let tables = c.args.self.now in
    let words = tables.names.words.items in
    let within : c.args.first < length tables.starts.items = omega (arith, c.if-first-len.false, c.len.ensures, tables.starts.ok.0) in
    let read : c.index.result.now ≡ get_or tables.starts.items c.args.first 0 = get_or_read tables.starts.items c.args.first c.index.result.now within c.index.ensures 0 in
    subst (λ (second : ℕ). NoneSeparates tables c.index.result.now (word words c.args.first) (word words second)) c.if-first-second.false
    (subst (λ (many : ℕ). NoneSeparates tables many (word words c.args.first) (word words c.args.first)) (sym read)
    (none_before words tables.links.items tables.groups.items tables.starts.items c.args.first (word words c.args.first) c.requires.tables.links c.requires.tables.groups
    (distinct_words tables.names.keys.entries tables.names.places.items words c.requires.tables.numbered) (c.requires.tables.starts (omega (arith, within))) c.requires.first refl))
