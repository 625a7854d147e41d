use Rattle.std.proofs.Common.{take}
use Rattle.taxonomy.specs.Tables.{AreRows}
use Rattle.taxonomy.proofs.tables.rows_of.Given as goal

abbrev pub invariant-loop-link : goal.invariant-loop-link
invariant-loop-link l = AreRows l.words (take l.link-index l.links) l.rows.items
