use Rattle.signatures.proofs.WordTableLaws.{taken_by}
use Rattle.signatures.proofs.word_table.take.Goals as goal

pub returns-in-Some-clause-others : goal.returns-in-Some-clause-others
returns-in-Some-clause-others g c = taken_by c.args.table.now c.remove.new.self c.args.word.now c.remove.ensures.updates

pub returns-in-None-clause-others : goal.returns-in-None-clause-others
returns-in-None-clause-others g c = taken_by c.args.table.now c.remove.new.self c.args.word.now c.remove.ensures.updates
