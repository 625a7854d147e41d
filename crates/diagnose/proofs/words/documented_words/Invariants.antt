use Rattle.std.proofs.Common.{◌≡◌, take}
use Rattle.std.specs.List.{list_any}
use Rattle.kif_tree.specs.Shape.{is_among}
use Rattle.kif_tree.specs.Terms.{Bytes}
use Rattle.diagnose.specs.Words.{documents}
use Rattle.diagnose.proofs.words.documented_words.Given as goal

abbrev pub invariant-loop-located : goal.invariant-loop-located
invariant-loop-located l = (word : Bytes) → is_among l.words word ≡ list_any (documents word) (take l.located-index l.forms)
