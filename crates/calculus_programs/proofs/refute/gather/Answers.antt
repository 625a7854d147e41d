use Rattle.std.proofs.Common.{arith}
use Rattle.calculus_programs.proofs.ChoiceLaws.{gathered_more}
use Rattle.calculus_programs.proofs.refute.gather.Goals as goal

pub loop-literal-preserved : goal.loop-literal-preserved
loop-literal-preserved c =
    let more = gathered_more c.args.atoms.now c.items-literal-items.result.now c.loop-literal.literal-index c.literal-item.result c.loop-literal-test.true c.literal-item.is in
    grind (arith, more)
