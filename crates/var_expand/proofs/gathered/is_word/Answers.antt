use Rattle.std.proofs.Common.{sym}
use Rattle.var_expand.proofs.WordLaws.{is_word-is, is_word_other}
use Rattle.var_expand.proofs.gathered.is_word.Goals as goal

pub returns-in-Word : goal.returns-in-Word
returns-in-Word c = sym (is_word-is c.args.form.now c.in-Word.field-0 c.in-Word.is)

pub returns-in_default : goal.returns-in_default
returns-in_default c = sym (is_word_other c.args.form.now c.in_default.not-Word)
