use Rattle.std.proofs.Common.{List, sym, subst}
use Rattle.std.specs.Borrow.{Bor}
use Rattle.kif_tree.specs.Terms.{Bytes}
use Rattle.sigma_app.specs.declared.gather.Gathering.TheVariants.{Found, Stopped}
use Rattle.sigma_app.specs.Requests.{asked_value, texts}
use Rattle.sigma_app.specs.Run.{Gathers}
use Rattle.translate.specs.Inputs.{AreShaped}
use Rattle.sigma_app.proofs.ToolLaws.{ask_found, ask_stopped, gathered_shaped}
use Rattle.sigma_app.proofs.tool.ask_reply.Goals as goal

pub query_reply-requires-clause-shaped : goal.query_reply-requires-clause-shaped
query_reply-requires-clause-shaped g c =
    subst AreShaped (sym c.as_slice-in-Found.ensures.value)
    (gathered_shaped (texts c.as_slice.result.now) (g.F.Files.told c.args.files.now) (g.F.Files.faults c.args.files.now) (g.F.Files.faults c.gather.new.files) c.in-Found.found
    (rw c.in-Found.is at c.in_ok-found.ensures.gathers))

pub returns-in-Found-clause-reply : goal.returns-in-Found-clause-reply
returns-in-Found-clause-reply g c =
    ask_found (asked_value c.args.ask.now) c.in-Some.limits (g.F.Files.told c.args.files.now) (g.F.Files.faults c.args.files.now) (g.F.Files.faults c.gather.new.files) c.in-Found.found
    c.in-Some.ensures
    (subst (λ (files : List (Bor Bytes)). Gathers (texts files) (g.F.Files.told c.args.files.now) (g.F.Files.faults c.args.files.now) (g.F.Files.faults c.gather.new.files) (Found c.in-Found.found))
    c.as_slice.ensures.value (rw c.in-Found.is at c.in_ok-found.ensures.gathers))
    c.query_reply.result (rw c.as_bytes.ensures.value at rw c.as_slice-in-Found.ensures.value at rw c.items.ensures at c.query_reply.ensures)

pub returns-in-Stopped-clause-reply : goal.returns-in-Stopped-clause-reply
returns-in-Stopped-clause-reply g c =
    ask_stopped (asked_value c.args.ask.now) c.in-Some.limits (g.F.Files.told c.args.files.now) (g.F.Files.faults c.args.files.now) (g.F.Files.faults c.gather.new.files) c.in-Stopped.reply
    c.in-Some.ensures
    (subst (λ (files : List (Bor Bytes)). Gathers (texts files) (g.F.Files.told c.args.files.now) (g.F.Files.faults c.args.files.now) (g.F.Files.faults c.gather.new.files) (Stopped c.in-Stopped.reply))
    c.as_slice.ensures.value (rw c.in-Stopped.is at c.in_ok-found.ensures.gathers))
