use Rattle.calculus.proofs.SatisfactionLaws.{negations_refute}
use Rattle.calculus.proofs.laws.negation_law.Goals as goal

pub returns : goal.returns
returns c = negations_refute
