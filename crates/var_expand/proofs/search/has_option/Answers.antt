use Rattle.std.proofs.Common.{◌∙◌, ap}
use Rattle.var_expand.specs.Offered.{Offered}
use Rattle.var_expand.proofs.SoundLaws.{hopeless_loop}
use Rattle.var_expand.proofs.search.has_option.Goals as goal

pub returns-clause-sound : goal.returns-clause-sound
returns-clause-sound c = λ _. hopeless_loop c.args.problem.now c.args.offer.now c.args.choice.now.items c.items-option-items.result.now c.loop-option.option-index c.requires
    (c.items-option-items.ensures ∙ ap (λ (offer : Offered). offer.allowed) c.offer.view_is) c.loop-option-test.false c.loop-option.invariant.hopeless
