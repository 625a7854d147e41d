use Rattle.std.proofs.Common.{List, take}
use Rattle.kif_tree.specs.declared.place.Located.{Located}
use Rattle.diagnose.specs.Found.{Adds, OfSome}
use Rattle.diagnose.specs.Given.{AreGiven}
use Rattle.diagnose.specs.OfLists.{IsOfType}
use Rattle.diagnose.proofs.arguments.add_of_argument.Given as goal

abbrev pub invariant-loop-type_told : goal.invariant-loop-type_told
invariant-loop-type_told l =
    (forms : List Located) → AreGiven forms l.fn.given → Adds (OfSome (IsOfType forms l.fn.place l.argument) (take l.type_told-index l.type_told-items)) l.initial.found.items l.found.items
