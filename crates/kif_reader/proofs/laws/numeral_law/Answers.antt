use Rattle.kif_reader.proofs.NumeralLaws.{numeral-Decides}
use Rattle.kif_reader.proofs.laws.numeral_law.Goals as goal

pub returns : goal.returns
returns c = numeral-Decides
