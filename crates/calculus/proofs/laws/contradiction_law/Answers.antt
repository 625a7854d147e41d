use Rattle.calculus.proofs.QueryLaws.{contradiction_evidence}
use Rattle.calculus.proofs.laws.contradiction_law.Goals as goal

pub returns : goal.returns
returns c = contradiction_evidence
