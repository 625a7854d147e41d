use Rattle.std.proofs.Common.{sym, ◌∙◌}
use Rattle.calculus_programs.proofs.QuickLaws.{next_kept}
use Rattle.calculus_programs.proofs.quick.has_repeats.Goals as goal

pub loop-at-preserved : goal.loop-at-preserved
loop-at-preserved c = next_kept c.args.literals.now c.loop-at.at c.index-literals-at.result c.loop-at-test.true c.index-literals-at.is c.loop-at.invariant (sym c.stands_in.ensures ∙ c.if-stands_in.false)
