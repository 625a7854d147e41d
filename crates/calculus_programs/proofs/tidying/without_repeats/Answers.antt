use Rattle.std.proofs.Common.{arith}
use Rattle.calculus_programs.proofs.TidyingLaws.{without_more}
use Rattle.calculus_programs.proofs.tidying.without_repeats.Goals as goal

pub loop-literal-preserved : goal.loop-literal-preserved
loop-literal-preserved c =
    let more = without_more c.args.literals.now c.loop-literal.literal-index c.literal-item.result c.loop-literal-test.true c.literal-item.is in
    grind (arith, more)
