use Rattle.std.proofs.Common.{◌≡◌, ◌&&◌, take}
use Rattle.kif_tree.specs.Shape.{is_among}
use Rattle.kif_tree.specs.Terms.{Bytes}
use Rattle.signatures.specs.Tables.{arity_in}
use Rattle.diagnose.specs.WordFaults.{is_unstated}
use Rattle.diagnose.proofs.words.unstated_words.Given as goal

abbrev pub invariant-loop-name : goal.invariant-loop-name
invariant-loop-name l = (word : Bytes) → is_among l.words word ≡ (is_among (take l.name-index l.name-items) word && is_unstated (arity_in l.fn.signatures word))
