use Rattle.std.proofs.Common.{List, ap, sym, ◌∙◌}
use Rattle.taxonomy.specs.declared.runs.Run.{Run}
use Rattle.taxonomy.specs.Graph.{at_or_below}
use Rattle.taxonomy.specs.Runs.{has}
use Rattle.taxonomy.proofs.ChainLaws.{class_above, or_instance}
use Rattle.taxonomy.proofs.NameLaws.{distinct_words}
use Rattle.taxonomy.proofs.tables.Tables.is_at_or_above.Goals as goal

pub returns-then-is_at_or_below : goal.returns-then-is_at_or_below
returns-then-is_at_or_below c =
    let tables = c.args.self.now in
    class_above tables.names.words.items tables.links.items tables.classes.items c.args.low c.args.high c.requires.tables.links
    (distinct_words tables.names.keys.entries tables.names.places.items tables.names.words.items c.requires.tables.numbered) c.requires.tables.classes c.requires.low c.requires.high
    (sym c.if-is_at_or_below.true ∙ (c.is_at_or_below.ensures ∙ ap (λ (sets : List (List Run)). has (at_or_below sets c.args.high) c.args.low) c.as_slice.ensures.value))

pub returns : goal.returns
returns c =
    let tables = c.args.self.now in
    or_instance tables.names.words.items tables.links.items tables.classes.items c.args.low c.args.high c.leads.result c.requires.tables.links
    (distinct_words tables.names.keys.entries tables.names.places.items tables.names.words.items c.requires.tables.numbered) c.requires.tables.classes c.requires.low c.requires.high
    (sym c.if-is_at_or_below.false ∙ (c.is_at_or_below.ensures ∙ ap (λ (sets : List (List Run)). has (at_or_below sets c.args.high) c.args.low) c.as_slice.ensures.value)) c.leads.ensures
