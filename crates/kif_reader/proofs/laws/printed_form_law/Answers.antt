use Rattle.kif_reader.proofs.PrintedLaws.{printed_form}
use Rattle.kif_reader.proofs.laws.printed_form_law.Goals as goal

pub returns : goal.returns
returns c = printed_form
