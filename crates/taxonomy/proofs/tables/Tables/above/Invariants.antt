use Rattle.std.proofs.Common.{take}
use Rattle.taxonomy.specs.Tables.{NoneIsFound, word_at}
use Rattle.taxonomy.proofs.tables.Tables.above.Given as goal

abbrev pub invariant-loop-number : goal.invariant-loop-number
invariant-loop-number l = NoneIsFound l.self (take l.number-index l.group) (word_at l.self l.word) l.but
