use Rattle.std.proofs.Common.{◌≡◌, ◌||◌, take}
use Rattle.std.specs.List.{list_any}
use Rattle.kif_tree.specs.Terms.{Bytes}
use Rattle.signatures.specs.Marks.{has}
use Rattle.signatures.specs.Relations.{heads}
use Rattle.signatures.proofs.names.+mark_heads.Given as goal

abbrev pub invariant-loop-part : goal.invariant-loop-part
invariant-loop-part l = (word : Bytes) → has l.marks word ≡ (has l.initial.marks word || list_any (heads word) (take l.part-index l.part-items))
