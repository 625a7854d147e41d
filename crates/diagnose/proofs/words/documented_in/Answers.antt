use Rattle.diagnose.proofs.WordTableLaws.{documents_none, documented_by}
use Rattle.diagnose.proofs.words.documented_in.Goals as goal

pub returns-then-not-is_headed : goal.returns-then-not-is_headed
returns-then-not-is_headed c = documents_none c.args.located.now.form c.is_headed.result c.is_headed.ensures c.if-not-is_headed.true

pub returns : goal.returns
returns c = documented_by c.args.located.now c.is_headed.result c.second_word.result c.is_headed.ensures c.if-not-is_headed.false c.second_word.ensures
