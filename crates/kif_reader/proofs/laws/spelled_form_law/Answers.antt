use Rattle.kif_reader.proofs.SpellableLaws.{spelled_spellable, spelled_no_answer, spelled_shaped}
use Rattle.kif_reader.proofs.laws.spelled_form_law.Goals as goal

pub returns : goal.returns
returns c = record {
  leaves = λ constituent text forms is. spelled_spellable constituent text forms is.tokens is.spelled;
  answerless = λ constituent text forms is. spelled_no_answer constituent text forms is.tokens is.spelled;
  shaped = spelled_shaped;
}
