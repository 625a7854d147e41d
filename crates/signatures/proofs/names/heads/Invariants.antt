use Rattle.std.proofs.Common.{take}
use Rattle.signatures.specs.Marks.{AreMarked}
use Rattle.signatures.specs.Relations.{heads_a_list}
use Rattle.signatures.proofs.names.heads.Given as goal

abbrev pub invariant-loop-located : goal.invariant-loop-located
invariant-loop-located l = AreMarked (heads_a_list (take l.located-index l.forms)) l.marks
