use Rattle.clause_form.proofs.ProfiledLaws.{profiled_are_sentences}
use Rattle.clause_form.proofs.laws.sentence_law.Goals as goal

pub returns : goal.returns
returns c = profiled_are_sentences
