use Rattle.std.proofs.Common.{◌∙◌, sym, ap, true}
use Rattle.var_expand.specs.Offered.{Offered}
use Rattle.var_expand.specs.Search.{passes, IsOffer}
use Rattle.var_expand.proofs.LoopLaws.{first_of_each}
use Rattle.var_expand.proofs.SoundLaws.{hopeless_now, hopeless_loop}
use Rattle.var_expand.proofs.search.+complete.Goals as goal

pub completes-returns-clause-sound : goal.completes-returns-clause-sound
completes-returns-clause-sound t c = λ _. hopeless_loop c.args.problem.now c.offer-item.result c.args.choice.now.items c.items-option-items.result.now c.loop-option.option-index
    (first_of_each (IsOffer c.args.problem.now) c.args.offers.now c.offer-item.result c.in-len1-up.len_at_least c.offer-item.is c.requires.offers)
    (c.items-option-items.ensures ∙ ap (λ (offer : Offered). offer.allowed) c.offer.view_is) c.loop-option-test.false c.loop-option.invariant.hopeless

pub may_complete-returns-then-not-passes-clause-sound : goal.may_complete-returns-then-not-passes-clause-sound
may_complete-returns-then-not-passes-clause-sound t c = λ _. hopeless_now c.args.problem.now c.args.choice.now.items
    (ap (passes c.args.problem.now true) (sym c.as_slice.ensures.value) ∙ sym c.passes.ensures ∙ c.if-not-passes.true)
