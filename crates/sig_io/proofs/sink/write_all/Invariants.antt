use Rattle.std.proofs.Common.{length, ◌-◌, ◌≡◌, ◌≤◌, take}
use Rattle.std.specs.Io.KnownBytes.{append_known}
use Rattle.sig_io.proofs.sink.write_all.Given as goal

abbrev pub invariant-loop-written : goal.invariant-loop-written
invariant-loop-written g l = (l.written ≤ length l.piece)
    × (g.S.Sink.told l.out ≡ append_known (g.S.Sink.told l.fn.out) (take l.written l.piece))
    × (g.S.Sink.faults l.out ≡ g.S.Sink.faults l.fn.out)

abbrev pub decreases-loop-written : goal.decreases-loop-written
decreases-loop-written g l = length l.piece - l.written
