use Rattle.calculus.proofs.VariableLaws.{evidence_is_of_variables}
use Rattle.calculus.proofs.laws.variables_law.Goals as goal

pub returns : goal.returns
returns c = evidence_is_of_variables
