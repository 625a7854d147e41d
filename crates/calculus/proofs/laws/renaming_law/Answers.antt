use Rattle.calculus.proofs.RenamingLaws.{tidies_alike}
use Rattle.calculus.proofs.laws.renaming_law.Goals as goal

pub returns : goal.returns
returns c = tidies_alike
