use Rattle.calculus.proofs.SatisfactionLaws.{satisfaction}
use Rattle.calculus.proofs.laws.satisfaction_law.Goals as goal

pub returns : goal.returns
returns c = satisfaction
