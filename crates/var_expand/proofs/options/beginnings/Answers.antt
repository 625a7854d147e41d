use Rattle.std.proofs.Common.{◌∙◌, refl, arith, ◌+◌}
use Rattle.std.proofs.lemmas.List.{take_all}
use Rattle.var_expand.specs.Choices.{beginnings}
use Rattle.var_expand.proofs.ListLaws.{beginnings_more, length-beginnings}
use Rattle.var_expand.proofs.options.beginnings.Goals as goal

pub loop-at-preserved : goal.loop-at-preserved
loop-at-preserved c = let more = beginnings_more c.args.forms.now c.loop-at.at (c.loop-at.at + 1) refl c.loop-at-test.true in cc (more, c.loop-at.invariant, c.in_ok-push.ensures.ok)

pub returns : goal.returns
returns c = c.loop-at.invariant ∙ take_all c.loop-at.at (beginnings c.args.forms.now) (omega (arith, length-beginnings c.args.forms.now, c.loop-at-test.false))
