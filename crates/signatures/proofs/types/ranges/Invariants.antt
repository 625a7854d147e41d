use Rattle.std.proofs.Common.{take}
use Rattle.signatures.specs.TypeTables.{AreToldTypes, range_at}
use Rattle.signatures.proofs.types.ranges.Given as goal

abbrev pub invariant-loop-located : goal.invariant-loop-located
invariant-loop-located l = AreToldTypes range_at (take l.located-index l.forms) l.table
