use Rattle.std.proofs.Common.{subst, sym}
use Rattle.kif_reader.specs.Spelling.{Spells}
use Rattle.clause_form.proofs.QueryLaws.{answered, spells_alone}
use Rattle.clause_form.proofs.query.negate_query.Goals as goal

pub returns-clause-equivalent : goal.returns-clause-equivalent
returns-clause-equivalent c =
    let text = c.args.text.now in
    let forms = c.as_slice.result.now in
    let located = c.located-item.result in
    let spells : Spells 0 text forms = subst (Spells 0 text) (sym c.as_slice.ensures.value) c.in-Ok.ensures.forms in
    answered text located (spells_alone text forms located c.in-len1.len_at_least c.in-len1.len_below c.located-item.is spells) c.negate_form.result c.negate_form.ensures
