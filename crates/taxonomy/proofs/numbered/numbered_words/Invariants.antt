use Rattle.std.proofs.Common.{take}
use Rattle.taxonomy.specs.Numbered.{AreWords}
use Rattle.taxonomy.specs.Names.{AreNumbered, Extends}
use Rattle.taxonomy.proofs.numbered.numbered_words.Given as goal

abbrev pub invariant-loop-part : goal.invariant-loop-part
invariant-loop-part l = AreNumbered l.names.keys.entries l.names.places.items l.names.words.items × Extends l.fn.names.words.items l.names.words.items × AreWords (take l.part-index l.parts) l.names.words.items l.numbers
