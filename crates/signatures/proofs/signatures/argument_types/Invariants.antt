use Rattle.std.proofs.Common.{take}
use Rattle.signatures.proofs.ArgumentLaws.{AreSoFar}
use Rattle.signatures.proofs.signatures.argument_types.Given as goal

abbrev pub invariant-loop-located : goal.invariant-loop-located
invariant-loop-located l = AreSoFar l.forms (take l.located-index l.forms) l.own l.tables
