use Rattle.std.proofs.Common.{◌∙◌, sym, ap, Bool}
use Rattle.clause_form.specs.Sizes.{by_sign, capped, sizes}
use Rattle.clause_form.specs.declared.counting.Sizes.{Sizes}
use Rattle.clause_form.proofs.CountLaws.{counts_clauses}
use Rattle.clause_form.proofs.counting.count_read.Goals as goal

pub returns-then-sign : goal.returns-then-sign
returns-then-sign c = λ prefix scope counts.
    ap (λ (found : Sizes). found.positive) c.sizes_of-sizes.ensures
    ∙ sym (ap capped (counts_clauses prefix c.args.form.now c.args.sign scope counts ∙ ap (λ (sign : Bool). by_sign sign (sizes c.args.form.now)) c.if-sign.true))

pub returns : goal.returns
returns c = λ prefix scope counts.
    ap (λ (found : Sizes). found.negative) c.sizes_of-sizes.ensures
    ∙ sym (ap capped (counts_clauses prefix c.args.form.now c.args.sign scope counts ∙ ap (λ (sign : Bool). by_sign sign (sizes c.args.form.now)) c.if-sign.false))
