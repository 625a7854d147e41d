use Rattle.calculus.proofs.InstanceLaws.{evidence_is_of_uses}
use Rattle.calculus.proofs.laws.uses_law.Goals as goal

pub returns : goal.returns
returns c = evidence_is_of_uses
