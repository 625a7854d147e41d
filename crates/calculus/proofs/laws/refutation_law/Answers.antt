use Rattle.calculus.proofs.QueryLaws.{evidence_refutes}
use Rattle.calculus.proofs.laws.refutation_law.Goals as goal

pub returns : goal.returns
returns c = evidence_refutes
