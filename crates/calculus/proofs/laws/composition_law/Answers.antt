use Rattle.calculus.proofs.SatisfactionLaws.{clauses_compose}
use Rattle.calculus.proofs.laws.composition_law.Goals as goal

pub returns : goal.returns
returns c = clauses_compose
