use Rattle.sigma_app.proofs.QueryLaws.{clause_set, query_answered}
use Rattle.std.proofs.Common.{◌∙◌}
use Rattle.sigma_app.proofs.query.query_reply.Goals as goal

pub of-requires-3 : goal.of-requires-3
of-requires-3 c = clause_set c.args.forms.now c.in-Made.translated c.requires.shaped (rw c.in-Made.is at c.in_ok-translated.ensures)

pub returns : goal.returns
returns c =
    query_answered c.args.query.now c.args.limits c.args.parts.now c.args.forms.now c.in-Made.translated c.items.result.now c.in_ok-set.set (rw c.in-Made.is at c.in_ok-translated.ensures)
    (c.items.ensures ∙ c.in_ok-names.ensures) c.in_ok-set.ensures c.set_reply.result c.set_reply.ensures
