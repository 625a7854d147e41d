use Rattle.sigma_app.proofs.RunLaws as run
use Rattle.sigma_app.proofs.tool.run_tool.Goals as goal

pub returns-in-Ok-clause-answered : goal.returns-in-Ok-clause-answered
returns-in-Ok-clause-answered g c =
    run.answered c.args.words.now (g.F.Files.told c.args.files.now) (g.F.Files.faults c.args.files.now) (g.F.Files.faults c.reply_to.new.files) c.in-Ok.reply.status c.in-Ok.reply.text
    (g.S.Sink.told c.args.out.now) (g.S.Sink.told c.print_reply.new.out) (g.S.Sink.faults c.args.out.now) (g.S.Sink.faults c.print_reply.new.out) c.print_reply.result c.in-Ok.ensures.reply
    c.print_reply.ensures

pub returns-in-Ok-clause-usage : goal.returns-in-Ok-clause-usage
returns-in-Ok-clause-usage g c =
    run.usage_only c.args.words.now (g.F.Files.told c.args.files.now) (g.F.Files.faults c.args.files.now) (g.F.Files.faults c.reply_to.new.files) c.in-Ok.reply.status c.in-Ok.reply.text
    (g.S.Sink.told c.args.out.now) (g.S.Sink.told c.print_reply.new.out) (g.S.Sink.faults c.args.out.now) (g.S.Sink.faults c.print_reply.new.out) c.print_reply.result c.in-Ok.ensures.reply
    c.print_reply.ensures

pub returns-in-Ok-clause-refused : goal.returns-in-Ok-clause-refused
returns-in-Ok-clause-refused g c =
    run.refused c.args.words.now (g.F.Files.told c.args.files.now) (g.F.Files.faults c.args.files.now) (g.F.Files.faults c.reply_to.new.files) c.in-Ok.reply.status c.in-Ok.reply.text
    (g.S.Sink.told c.args.out.now) (g.S.Sink.told c.print_reply.new.out) (g.S.Sink.faults c.args.out.now) (g.S.Sink.faults c.print_reply.new.out) c.print_reply.result c.in-Ok.ensures.reply
    c.print_reply.ensures

pub returns-in-Ok-clause-file_fault : goal.returns-in-Ok-clause-file_fault
returns-in-Ok-clause-file_fault g c =
    run.file_fault c.args.words.now (g.F.Files.told c.args.files.now) (g.F.Files.faults c.args.files.now) (g.F.Files.faults c.reply_to.new.files) c.in-Ok.reply.status c.in-Ok.reply.text
    (g.S.Sink.told c.args.out.now) (g.S.Sink.told c.print_reply.new.out) (g.S.Sink.faults c.args.out.now) (g.S.Sink.faults c.print_reply.new.out) c.print_reply.result c.in-Ok.ensures.reply
    c.print_reply.ensures

pub returns-in-Ok-clause-file_cause : goal.returns-in-Ok-clause-file_cause
returns-in-Ok-clause-file_cause g c =
    run.file_cause c.args.words.now (g.F.Files.told c.args.files.now) (g.F.Files.faults c.args.files.now) (g.F.Files.faults c.reply_to.new.files) c.in-Ok.reply.status c.in-Ok.reply.text
    (g.S.Sink.told c.args.out.now) (g.S.Sink.told c.print_reply.new.out) (g.S.Sink.faults c.args.out.now) (g.S.Sink.faults c.print_reply.new.out) c.print_reply.result c.in-Ok.ensures.reply
    c.print_reply.ensures

pub returns-in-Ok-clause-write_fault : goal.returns-in-Ok-clause-write_fault
returns-in-Ok-clause-write_fault g c =
    run.write_fault c.args.words.now (g.F.Files.told c.args.files.now) (g.F.Files.faults c.args.files.now) (g.F.Files.faults c.reply_to.new.files) c.in-Ok.reply.status c.in-Ok.reply.text
    (g.S.Sink.told c.args.out.now) (g.S.Sink.told c.print_reply.new.out) (g.S.Sink.faults c.args.out.now) (g.S.Sink.faults c.print_reply.new.out) c.print_reply.result c.in-Ok.ensures.reply
    c.print_reply.ensures

pub returns-in-Ok-clause-write_prefix : goal.returns-in-Ok-clause-write_prefix
returns-in-Ok-clause-write_prefix g c =
    run.write_prefix c.args.words.now (g.F.Files.told c.args.files.now) (g.F.Files.faults c.args.files.now) (g.F.Files.faults c.reply_to.new.files) c.in-Ok.reply.status c.in-Ok.reply.text
    (g.S.Sink.told c.args.out.now) (g.S.Sink.told c.print_reply.new.out) (g.S.Sink.faults c.args.out.now) (g.S.Sink.faults c.print_reply.new.out) c.print_reply.result c.in-Ok.ensures.reply
    c.print_reply.ensures

pub returns-in-Ok-clause-memory_prefix : goal.returns-in-Ok-clause-memory_prefix
returns-in-Ok-clause-memory_prefix g c =
    run.memory_prefix c.args.words.now (g.F.Files.told c.args.files.now) (g.F.Files.faults c.args.files.now) (g.F.Files.faults c.reply_to.new.files) c.in-Ok.reply.status c.in-Ok.reply.text
    (g.S.Sink.told c.args.out.now) (g.S.Sink.told c.print_reply.new.out) (g.S.Sink.faults c.args.out.now) (g.S.Sink.faults c.print_reply.new.out) c.print_reply.result c.in-Ok.ensures.reply
    c.print_reply.ensures
