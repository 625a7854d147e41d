use Rattle.std.proofs.Common.{take}
use Rattle.signatures.specs.OwnArities.{AreValences}
use Rattle.signatures.proofs.arities.valences.Given as goal

abbrev pub invariant-loop-located : goal.invariant-loop-located
invariant-loop-located l = AreValences (take l.located-index l.forms) l.table
