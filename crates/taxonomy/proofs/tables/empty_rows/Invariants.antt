use Rattle.taxonomy.specs.Tables.{AreEmptyRows}
use Rattle.taxonomy.proofs.tables.empty_rows.Given as goal

abbrev pub invariant-loop : goal.invariant-loop
invariant-loop l = AreEmptyRows l.counter l.rows.items
