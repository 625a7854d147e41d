use Rattle.translate.proofs.LeftOutLaws.{left_out_are_ascending, left_out_are_placed}
use Rattle.translate.proofs.laws.left_out_law.Goals as goal

pub returns : goal.returns
returns c = record { ascending = left_out_are_ascending; placed = left_out_are_placed }
