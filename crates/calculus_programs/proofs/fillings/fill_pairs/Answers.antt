use Rattle.std.proofs.Common.{arith}
use Rattle.kif_tree.specs.Subst.{value_of}
use Rattle.calculus_programs.proofs.FillingLaws.{pairs_more}
use Rattle.calculus_programs.proofs.fillings.fill_pairs.Goals as goal

pub loop-pair-preserved : goal.loop-pair-preserved
loop-pair-preserved c =
    let more = pairs_more (value_of c.args.filling.now) c.args.pairs.now c.loop-pair.pair-index c.pair-item.result c.in_ok-variable.variable c.in_ok-term.term
    c.loop-pair-test.true c.pair-item.is c.in_ok-variable.ensures c.in_ok-term.ensures in
    grind (arith, more, c.in_ok-push.ensures.ok)
