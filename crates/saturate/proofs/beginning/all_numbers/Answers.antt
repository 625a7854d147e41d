use Rattle.std.proofs.Common.{arith}
use Rattle.saturate.proofs.BeginningLaws.{numbers_more}
use Rattle.saturate.proofs.beginning.all_numbers.Goals as goal

pub loop-number-preserved : goal.loop-number-preserved
loop-number-preserved c = grind (arith, numbers_more)
