use Rattle.std.proofs.Common.{take}
use Rattle.diagnose.specs.SoFar.{AreSoFar}
use Rattle.diagnose.proofs.list.diagnose.Given as goal

abbrev pub invariant-loop-located : goal.invariant-loop-located
invariant-loop-located l = AreSoFar l.forms (take l.located-index l.forms) l.seen l.list.items
