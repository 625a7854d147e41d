use Rattle.std.proofs.Common.{◌∙◌, sym, ap, true}
use Rattle.var_expand.specs.Search.{passes}
use Rattle.var_expand.proofs.SoundLaws.{hopeless_now}
use Rattle.var_expand.proofs.search.can_go_on.Goals as goal

pub returns-then-not-passes-clause-sound : goal.returns-then-not-passes-clause-sound
returns-then-not-passes-clause-sound c = λ _. hopeless_now c.args.problem.now c.args.choice.now.items
    (ap (passes c.args.problem.now true) (sym c.as_slice.ensures.value) ∙ sym c.passes.ensures ∙ c.if-not-passes.true)
