use Rattle.taxonomy.proofs.FormLaws.{told_words_are}
use Rattle.taxonomy.proofs.laws.told_words_law.Goals as goal

pub returns : goal.returns
returns c = told_words_are
