use Rattle.calculus.proofs.QueryLaws.{query_evidence}
use Rattle.calculus.proofs.laws.query_law.Goals as goal

pub returns : goal.returns
returns c = query_evidence
