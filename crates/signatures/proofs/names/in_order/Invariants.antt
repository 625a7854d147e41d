use Rattle.std.proofs.Common.{◌≡◌, ◌++◌, length}
use Rattle.signatures.specs.Marks.{key_words}
use Rattle.signatures.proofs.names.in_order.Given as goal

abbrev pub invariant-loop-word : goal.invariant-loop-word
invariant-loop-word l = l.found.items ++ key_words l.words ≡ key_words l.initial.words

abbrev pub decreases-loop-word : goal.decreases-loop-word
decreases-loop-word l = length l.words.entries
