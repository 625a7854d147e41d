use Rattle.sigma_app.proofs.QueryLaws.{outcome_answers}
use Rattle.sigma_app.proofs.query.set_reply.Goals as goal

pub returns-in-Ok : goal.returns-in-Ok
returns-in-Ok c =
    outcome_answers c.args.query.now c.args.limits c.args.names.now c.args.set.now c.in-Ok.outcome c.in-Ok.ensures.asked c.outcome_reply.result c.outcome_reply.ensures
