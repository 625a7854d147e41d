use Rattle.std.proofs.Common.{take, drop}
use Rattle.diagnose.specs.Merged.{AreMergedSoFar}
use Rattle.diagnose.proofs.merged.merge.Given as goal

abbrev pub invariant-loop-located : goal.invariant-loop-located
invariant-loop-located l = AreMergedSoFar l.forms (take l.located-index l.forms) (drop l.located-index l.forms) l.first l.second l.first_left l.second_left l.list.items
