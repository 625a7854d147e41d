-- Laws of the definitions.
use Rattle.std.specs.Prelude.{◌≡◌, List}
use Rattle.kif_tree.specs.Places.{PlacesDiffer}
use Rattle.kif_tree.specs.declared.place.Located.{Located}
use Rattle.diagnose.specs.declared.diagnostic.Diagnostic.{Diagnostic}
use Rattle.diagnose.specs.Diagnostics.{AreDiagnostics}

-- forms at different places have one list of diagnostics at most
abbrev pub OneList : Type 0
OneList = (forms : List Located) (a b : List Diagnostic) → PlacesDiffer forms → AreDiagnostics forms a → AreDiagnostics forms b → a ≡ b
