use Rattle.std.proofs.Common.{◌∙◌}
use Rattle.signatures.proofs.ArityLaws.{own_by_class}
use Rattle.signatures.proofs.arities.own_arity.Goals as goal

pub returns : goal.returns
returns c = λ forms valences told.
    own_by_class forms c.args.taxonomy.now.links c.args.word.now c.by_class.result told c.in_default.ensures (c.in_default-get.ensures.value ∙ valences c.args.word.now) c.by_class.ensures
