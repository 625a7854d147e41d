use Rattle.std.proofs.Common.{◌≡◌, ◌↔◌, take, true}
use Rattle.kif_tree.specs.Shape.{is_among}
use Rattle.kif_tree.specs.Terms.{Bytes}
use Rattle.diagnose.specs.ClassWords.{HasSubclassForm}
use Rattle.diagnose.proofs.arguments.class_words.Given as goal

abbrev pub invariant-loop-located : goal.invariant-loop-located
invariant-loop-located l = (word : Bytes) → (is_among l.words word ≡ true) ↔ HasSubclassForm (take l.located-index l.forms) word
