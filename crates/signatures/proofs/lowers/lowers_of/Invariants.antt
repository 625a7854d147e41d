use Rattle.std.proofs.Common.{take}
use Rattle.signatures.specs.Lowers.{AreLowers}
use Rattle.signatures.proofs.lowers.lowers_of.Given as goal

abbrev pub invariant-loop-located : goal.invariant-loop-located
invariant-loop-located l = AreLowers (take l.located-index l.forms) l.table
