use Rattle.std.proofs.Common.{◌∙◌, sym, ap, Some}
use Rattle.var_expand.proofs.WordLaws.{word_text-is, word_text_other}
use Rattle.var_expand.proofs.chosen.word_of.Goals as goal

pub returns-in-Word : goal.returns-in-Word
returns-in-Word c = ap Some c.bytes.ensures ∙ sym (word_text-is c.args.form.now c.in-Word.text c.in-Word.is)

pub returns-in_default : goal.returns-in_default
returns-in_default c = sym (word_text_other c.args.form.now c.in_default.not-Word)
