use Rattle.std.proofs.Common.{arith}
use Rattle.std.proofs.lemmas.List.{take_all}
use Rattle.std.proofs.lemmas.List.Folds.{list_any_at}
use Rattle.kif_tree.proofs.ShapeLaws.{has_word_laws}
use Rattle.kif_tree.proofs.shape.+has_word.Goals as goal

pub returns-then-has_word : goal.returns-then-has_word
returns-then-has_word t c = grind (arith, has_word_laws, list_any_at)

pub returns-after-loop-part : goal.returns-after-loop-part
returns-after-loop-part t c = grind (arith, has_word_laws, take_all)
