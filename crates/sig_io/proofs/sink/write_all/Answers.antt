use Rattle.std.proofs.Common.{◌∙◌}
use Rattle.sig_io.proofs.ToldLaws.{grown}
use Rattle.sig_io.proofs.sink.write_all.Goals as goal

pub loop-written-preserved : goal.loop-written-preserved
loop-written-preserved g c =
    let before = c.loop-written.invariant in
    let wrote = c.in_ok-count.ensures in
    let both = grown (g.S.Sink.told c.write.new.self) (g.S.Sink.told c.loop-written.out) (g.S.Sink.told c.args.out.now)
    c.args.piece.now c.loop-written.written c.in_ok-count.count before.0 wrote.bound before.1 wrote.told in
    (both.0, both.1, wrote.cause ∙ before.2)
