use Rattle.clause_form.proofs.SentenceLaws.{sentences_read_as_atoms}
use Rattle.clause_form.proofs.laws.reading_law.Goals as goal

pub returns : goal.returns
returns c = sentences_read_as_atoms
