use Rattle.infer.specs.Checks.{clauses_of}
use Rattle.saturate.specs.Runs.{clauses}
use Rattle.answers.proofs.RestLaws.{parents_come_before}
use Rattle.answers.proofs.outcome.answer_of.Goals as goal

pub proof_of-requires-clause-earlier : goal.proof_of-requires-clause-earlier
proof_of-requires-clause-earlier c =
    parents_come_before (clauses_of c.args.reached.now.inputs) c.args.reached.now.steps (clauses c.args.reached.now) c.requires.sound.derivation
