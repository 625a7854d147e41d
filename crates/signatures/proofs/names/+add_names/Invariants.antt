use Rattle.std.proofs.Common.{take}
use Rattle.std.specs.List.{list_any}
use Rattle.kif_tree.specs.Shape.{has_word}
use Rattle.signatures.specs.Names.{AddsNames}
use Rattle.signatures.proofs.names.+add_names.Given as goal

abbrev pub invariant-loop-part : goal.invariant-loop-part
invariant-loop-part l = AddsNames l.heads l.arities (λ word. list_any (has_word word) (take l.part-index l.part-items)) l.fn.found l.found
