use Rattle.std.proofs.Common.{List, take}
use Rattle.kif_tree.specs.Names.{lists}
use Rattle.kif_tree.specs.declared.place.Located.{Located}
use Rattle.diagnose.specs.Found.{Adds, OfSome}
use Rattle.diagnose.specs.Given.{AreGiven}
use Rattle.diagnose.specs.OfLists.{IsOfParts}
use Rattle.diagnose.proofs.arguments.+add_of_form.Given as goal

abbrev pub invariant-loop-part : goal.invariant-loop-part
invariant-loop-part l =
    (forms : List Located) → AreGiven forms l.fn.given → Adds (OfSome (λ part. OfSome (IsOfParts forms l.fn.place) (lists part)) (take l.part-index l.part-items)) l.initial.found.items l.found.items
