use Rattle.taxonomy.proofs.FormLaws.{word_text-Word, word_text_other}
use Rattle.signatures.proofs.forms.word_of.Goals as goal

pub returns-in-Word : goal.returns-in-Word
returns-in-Word c = word_text-Word c.args.form.now c.in-Word.text c.in-Word.is

pub returns-in_default : goal.returns-in_default
returns-in_default c = word_text_other c.args.form.now c.in_default.not-Word
