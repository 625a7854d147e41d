use Rattle.std.proofs.Common.{sym, subst}
use Rattle.kif_tree.specs.Places.{PlacesDiffer}
use Rattle.sigma_app.specs.Requests.{texts}
use Rattle.sigma_app.specs.Tool.{OnChecked}
use Rattle.sigma_app.proofs.ToolLaws.{named_found, named_stopped, gathered_apart}
use Rattle.sigma_app.proofs.tool.check_reply.Goals as goal

pub diagnostics_reply-requires : goal.diagnostics_reply-requires
diagnostics_reply-requires g c =
    subst PlacesDiffer (sym c.as_slice.ensures.value)
    (gathered_apart (texts c.args.paths.now) (g.F.Files.told c.args.files.now) (g.F.Files.faults c.args.files.now) (g.F.Files.faults c.gather.new.files) c.in-Found.found
    (rw c.in-Found.is at c.in_ok-found.ensures.gathers))

pub returns-in-Found-clause-reply : goal.returns-in-Found-clause-reply
returns-in-Found-clause-reply g c =
    named_found OnChecked (texts c.args.paths.now) (g.F.Files.told c.args.files.now) (g.F.Files.faults c.args.files.now) (g.F.Files.faults c.gather.new.files) c.in-Found.found
    (rw c.in-Found.is at c.in_ok-found.ensures.gathers)
    c.diagnostics_reply.result (rw c.as_slice.ensures.value at rw c.items.ensures at c.diagnostics_reply.ensures)

pub returns-in-Stopped-clause-reply : goal.returns-in-Stopped-clause-reply
returns-in-Stopped-clause-reply g c =
    named_stopped OnChecked c.in-Stopped.reply.status c.in-Stopped.reply.text (texts c.args.paths.now) (g.F.Files.told c.args.files.now) (g.F.Files.faults c.args.files.now)
    (g.F.Files.faults c.gather.new.files) (rw c.in-Stopped.is at c.in_ok-found.ensures.gathers)
