use Rattle.taxonomy.proofs.ReorderLaws.{AreTaken}
use Rattle.taxonomy.proofs.reorder.moved_words.Given as goal

abbrev pub invariant-loop-number : goal.invariant-loop-number
invariant-loop-number l = AreTaken l.order l.number-index l.fn.words.items l.words.items l.moved.items
