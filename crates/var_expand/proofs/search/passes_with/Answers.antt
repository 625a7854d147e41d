use Rattle.std.proofs.Common.{◌≡◌, ◌∙◌, sym, ap, ◌++◌, ◌∷◌, [], true}
use Rattle.var_expand.specs.Choices.{sets}
use Rattle.var_expand.specs.Search.{passes}
use Rattle.var_expand.proofs.SoundLaws.{hopeless_now}
use Rattle.var_expand.proofs.search.passes_with.Goals as goal

pub returns-clause-sound : goal.returns-clause-sound
returns-clause-sound c = λ e.
    let same : c.args.choice.now.items ++ sets c.args.variable.now c.args.becomes.now ∷ [] ≡ c.as_slice.result.now = cc (c.in_ok-push.ensures, c.as_slice.ensures.value) in
    hopeless_now c.args.problem.now _ (ap (passes c.args.problem.now true) same ∙ sym c.passes-may.ensures ∙ e)
