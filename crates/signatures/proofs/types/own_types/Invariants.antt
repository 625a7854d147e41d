use Rattle.std.proofs.Common.{take}
use Rattle.signatures.specs.TypeTables.{AreArguments}
use Rattle.signatures.proofs.types.own_types.Given as goal

abbrev pub invariant-loop-located : goal.invariant-loop-located
invariant-loop-located l = AreArguments (take l.located-index l.forms) l.tables
