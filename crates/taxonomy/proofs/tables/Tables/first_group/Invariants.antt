use Rattle.std.proofs.Common.{◌-◌, length}
use Rattle.taxonomy.specs.Tables.{NoneSeparates, word_at}
use Rattle.taxonomy.proofs.tables.Tables.first_group.Given as goal

abbrev pub invariant-loop-at : goal.invariant-loop-at
invariant-loop-at l = NoneSeparates l.self l.at (word_at l.self l.first) (word_at l.self l.second)

abbrev pub decreases-loop-at : goal.decreases-loop-at
decreases-loop-at l = length l.self.groups.items - l.at
