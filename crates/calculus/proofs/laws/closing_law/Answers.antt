use Rattle.calculus.proofs.VariableLaws.{ground_pairs_close}
use Rattle.calculus.proofs.laws.closing_law.Goals as goal

pub returns : goal.returns
returns c = ground_pairs_close
