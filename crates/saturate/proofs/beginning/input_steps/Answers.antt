use Rattle.std.proofs.Common.{arith}
use Rattle.saturate.proofs.BeginningLaws.{mapped_more}
use Rattle.saturate.proofs.beginning.input_steps.Goals as goal

pub loop-number-preserved : goal.loop-number-preserved
loop-number-preserved c = grind (arith, mapped_more)
