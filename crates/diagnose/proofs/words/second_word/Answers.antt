use Rattle.std.specs.Prelude.{Some, None}
use Rattle.diagnose.proofs.WordTableLaws.{second_of, text_of_word, text_of_other}
use Rattle.diagnose.proofs.words.second_word.Goals as goal

pub returns-in-Word : goal.returns-in-Word
returns-in-Word c =
    second_of c.args.form.now c.second-item.result c.in-List.parts c.items.result.now (Some c.in-Word.text) c.in-List.is c.items.ensures c.in-len2-up.len_at_least c.second-item.is
    (text_of_word c.second-item.result c.in-Word.text c.in-Word.is)

pub returns-in_default-second : goal.returns-in_default-second
returns-in_default-second c =
    second_of c.args.form.now c.second-item.result c.in-List.parts c.items.result.now None c.in-List.is c.items.ensures c.in-len2-up.len_at_least c.second-item.is
    (text_of_other c.second-item.result c.in_default-second.not-Word)
