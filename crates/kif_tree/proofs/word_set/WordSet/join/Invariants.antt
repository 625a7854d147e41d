use Rattle.std.proofs.Common.{◌≡◌, ◌||◌, length}
use Rattle.kif_tree.specs.Shape.{is_among}
use Rattle.kif_tree.specs.Terms.{Bytes}
use Rattle.kif_tree.specs.WordSets.{texts}
use Rattle.kif_tree.proofs.word_set.WordSet.join.Given as goal

abbrev pub invariant-loop-word : goal.invariant-loop-word
invariant-loop-word l = (word : Bytes) → (is_among l.self word || is_among (texts l.words) word) ≡ (is_among l.fn.self word || is_among l.fn.other word)

abbrev pub decreases-loop-word : goal.decreases-loop-word
decreases-loop-word l = length l.words.keys
