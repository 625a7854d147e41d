use Rattle.std.proofs.Common.{inl}
use Rattle.std.proofs.lemmas.Result.{err_from_is_err_and}
use Rattle.clause_form.proofs.query.negate_form.Goals as goal

pub returns-in_err-negated : goal.returns-in_err-negated
returns-in_err-negated c =
    let p = err_from_is_err_and c.from_residual.result c.from_residual.ensures.1 in
    rw p.1 (inl p.2)
