use Rattle.saturate.proofs.UnitLaws.{units_answer}
use Rattle.saturate.proofs.laws.unit_law.Goals as goal

pub returns : goal.returns
returns c = units_answer
