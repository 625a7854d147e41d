use Rattle.sigma_app.specs.Requests.{meaning_of}
use Rattle.sigma_app.proofs.ToolLaws.{obtains, obtains_usage}
use Rattle.sigma_app.proofs.tool.reply_to.Goals as goal

pub returns-in-Ok-clause-reply : goal.returns-in-Ok-clause-reply
returns-in-Ok-clause-reply g c =
    obtains c.args.words.now (meaning_of c.in-Ok.request) (g.F.Files.told c.args.files.now) (g.F.Files.faults c.args.files.now) (g.F.Files.faults c.request_reply.new.files) c.in-Ok.ensures
    c.request_reply.result c.request_reply.ensures.reply

pub returns-in-Err-Usage-clause-reply : goal.returns-in-Err-Usage-clause-reply
returns-in-Err-Usage-clause-reply g c =
    obtains_usage c.args.words.now (g.F.Files.told c.args.files.now) (g.F.Files.faults c.args.files.now) (rw c.in-Err-Usage.field-0-is at c.in-Err-Usage.ensures) c.usage.result c.usage.ensures
