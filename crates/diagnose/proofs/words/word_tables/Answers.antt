use Rattle.diagnose.proofs.WordTableLaws.{unstated_by}
use Rattle.diagnose.proofs.words.word_tables.Goals as goal

pub returns-clause-unstated : goal.returns-clause-unstated
returns-clause-unstated c = unstated_by c.args.forms.now c.args.signatures.now c.in_ok-unstated.unstated c.in_ok-unstated.ensures
