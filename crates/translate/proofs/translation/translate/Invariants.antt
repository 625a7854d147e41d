use Rattle.std.proofs.Common.{take}
use Rattle.translate.specs.Translation.{IsWhole}
use Rattle.translate.proofs.translation.translate.Given as goal

abbrev pub invariant-loop-located : goal.invariant-loop-located
invariant-loop-located l = IsWhole l.taxonomy.links l.signatures (take l.located-index l.forms) l.translated
