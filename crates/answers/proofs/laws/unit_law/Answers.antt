use Rattle.saturate.proofs.UnitLaws as searches
use Rattle.answers.proofs.UnitLaws.{units_answer}
use Rattle.answers.proofs.laws.unit_law.Goals as goal

pub returns : goal.returns
returns c = units_answer searches.units_answer
