use Rattle.std.proofs.Common.{arith}
use Rattle.calculus_programs.proofs.TidyingLaws.{numbered_more}
use Rattle.calculus_programs.proofs.tidying.numbered.Goals as goal

pub loop-at-preserved : goal.loop-at-preserved
loop-at-preserved c =
    let more = numbered_more c.args.names.now c.loop-at.at c.index-names-at.result c.in_ok-new_name.field-0 c.loop-at-test.true c.index-names-at.is c.in_ok-new_name.ensures in
    grind (arith, more, c.in_ok-push.ensures.ok, c.in_ok-variable.ensures)
