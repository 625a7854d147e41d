use Rattle.std.proofs.Common.{take}
use Rattle.signatures.specs.Layers.{Passes}
use Rattle.signatures.proofs.nearest.pass_on.Given as goal

abbrev pub invariant-loop-low : goal.invariant-loop-low
invariant-loop-low g l = Passes l.own l.fn.notes l.notes l.fn.next l.next l.distance l.near (take l.low-index l.lows)
