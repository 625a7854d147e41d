use Rattle.calculus.proofs.RenamingLaws.{tidy_again}
use Rattle.calculus.proofs.laws.idempotence_law.Goals as goal

pub returns : goal.returns
returns c = tidy_again
