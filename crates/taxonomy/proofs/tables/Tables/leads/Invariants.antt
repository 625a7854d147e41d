use Rattle.std.proofs.Common.{take}
use Rattle.taxonomy.specs.Numbered.{word}
use Rattle.taxonomy.specs.Tables.{shown}
use Rattle.taxonomy.proofs.ChainLaws.{NoneLeads}
use Rattle.taxonomy.proofs.tables.Tables.leads.Given as goal

abbrev pub invariant-loop-told : goal.invariant-loop-told
invariant-loop-told l = NoneLeads (shown l.self).links l.kind (word l.self.names.words.items l.high) (take l.told-index l.told-items)
