use Rattle.std.proofs.Common.{◌≡◌, List}
use Rattle.std.specs.Prelude.{min}
use Rattle.kif_tree.specs.declared.place.Located.{Located}
use Rattle.diagnose.specs.Found.{Adds}
use Rattle.diagnose.specs.Given.{AreGiven}
use Rattle.diagnose.specs.OfLists.{IsOfTypes}
use Rattle.diagnose.proofs.arguments.add_of_types.Given as goal

abbrev pub invariant-loop-argument : goal.invariant-loop-argument
invariant-loop-argument l = record {
  counts : l.number ≡ min l.argument-index 4294967295;
  adds : (forms : List Located) → AreGiven forms l.fn.given → Adds (IsOfTypes forms l.fn.place l.head l.arguments l.argument-index) l.initial.found.items l.found.items;
}
