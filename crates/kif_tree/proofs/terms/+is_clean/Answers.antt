use Rattle.std.proofs.Common.{arith}
use Rattle.std.proofs.lemmas.List.{take_all}
use Rattle.std.proofs.lemmas.List.Folds.{list_all_at}
use Rattle.kif_tree.proofs.TermLaws.{clean_laws}
use Rattle.kif_tree.proofs.terms.+is_clean.Goals as goal

pub returns-then-not-is_clean : goal.returns-then-not-is_clean
returns-then-not-is_clean t c = grind (arith, clean_laws, list_all_at)

pub returns-after-loop-part : goal.returns-after-loop-part
returns-after-loop-part t c = grind (arith, clean_laws, take_all)
