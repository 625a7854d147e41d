use Rattle.std.proofs.Common.{arith, append_assoc}
use Rattle.kif_tree.specs.Subst.{filling_of}
use Rattle.calculus_programs.proofs.TidyingLaws.{fill_more}
use Rattle.calculus_programs.proofs.tidying.append_filled.Goals as goal

pub loop-literal-preserved : goal.loop-literal-preserved
loop-literal-preserved c =
    let more = fill_more (filling_of c.args.unnamed c.args.pairs.now) c.args.literals.now c.loop-literal.literal-index c.literal-item.result c.in_ok-atom.atom c.loop-literal-test.true c.literal-item.is c.in_ok-atom.ensures in
    grind (arith, append_assoc, more, c.in_ok-push.ensures.ok)
