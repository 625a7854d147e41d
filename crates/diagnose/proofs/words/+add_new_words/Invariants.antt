use Rattle.std.proofs.Common.{take}
use Rattle.std.specs.List.{list_any}
use Rattle.kif_tree.specs.Shape.{has_word}
use Rattle.diagnose.specs.Found.{Adds}
use Rattle.diagnose.specs.WordFaults.{IsFault, IsNew, Gains}
use Rattle.diagnose.proofs.words.+add_new_words.Given as goal

abbrev pub invariant-loop-part : goal.invariant-loop-part
invariant-loop-part l = record {
  gains : Gains (λ word. list_any (has_word word) (take l.part-index l.part-items)) l.fn.seen l.seen;
  adds : Adds (IsNew (IsFault l.taxonomy l.tables l.place) l.fn.seen (λ word. list_any (has_word word) (take l.part-index l.part-items))) l.fn.found.items l.found.items;
}
