use Rattle.std.proofs.Common.{◌∙◌, ap, ap₂}
use Rattle.var_expand.specs.Search.{words_lead, condition_passes}
use Rattle.var_expand.proofs.ConditionLaws.{above_is}
use Rattle.var_expand.proofs.fitting.condition_fits.Goals as goal

pub returns-in-Some-Some : goal.returns-in-Some-Some
returns-in-Some-Some c =
    above_is c.args.taxonomy.now.links c.condition.inside.kind c.in-Some-Some.low.now c.in-Some-Some.high.now c.is_above.result c.is_above.ensures
    ∙ ap₂ (words_lead c.args.taxonomy.now.links c.args.partly (record { kind = c.condition.inside.kind; low = c.condition.inside.low.now; high = c.condition.inside.high.now })) c.in-Some-Some.ensures c.in-Some-Some.ensures'
    ∙ ap (condition_passes c.args.taxonomy.now.links c.args.partly c.args.choice.now) c.condition.view_is
