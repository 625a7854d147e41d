use Rattle.std.proofs.Common.{subst, sym}
use Rattle.taxonomy.specs.Tables.{AreDistinct}
use Rattle.taxonomy.proofs.NameLaws.{distinct_words}
use Rattle.taxonomy.proofs.tables.tables_of.Goals as goal

pub rows_of-requires-clause-distinct : goal.rows_of-requires-clause-distinct
rows_of-requires-clause-distinct c = subst AreDistinct (sym c.as_slice.ensures.value) (distinct_words c.args.names.keys.entries c.args.names.places.items c.args.names.words.items c.requires.names)
