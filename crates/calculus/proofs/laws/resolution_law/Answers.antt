use Rattle.calculus.proofs.SatisfactionLaws.{resolution}
use Rattle.calculus.proofs.laws.resolution_law.Goals as goal

pub returns : goal.returns
returns c = resolution
