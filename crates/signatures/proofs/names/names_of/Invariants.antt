use Rattle.std.proofs.Common.{take}
use Rattle.signatures.specs.Names.{HasNames, AreNames}
use Rattle.signatures.specs.Relations.{is_snapshot_word}
use Rattle.signatures.proofs.names.names_of.Given as goal

abbrev pub invariant-loop-located : goal.invariant-loop-located
invariant-loop-located l = HasNames l.heads l.arities l.found × AreNames l.heads l.arities (is_snapshot_word (take l.located-index l.forms)) l.found.ordered
