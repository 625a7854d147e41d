use Rattle.diagnose.proofs.WordTableLaws.{plain_not, plain_by}
use Rattle.diagnose.proofs.words.is_plain.Goals as goal

pub returns-then-is_logical_word : goal.returns-then-is_logical_word
returns-then-is_logical_word c = plain_not c.args.word.now c.is_logical_word.result c.is_logical_word.ensures c.if-is_logical_word.true

pub returns : goal.returns
returns c = plain_by c.args.word.now c.built_in.result c.is_logical_word.result c.is_none.result c.is_logical_word.ensures c.if-is_logical_word.false c.built_in.ensures c.is_none.ensures
