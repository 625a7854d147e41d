-- Laws of the definitions.
use Rattle.std.specs.Prelude.{List}
use Rattle.kif_tree.specs.declared.place.Located.{Located}
use Rattle.signatures.specs.declared.signatures.Signatures.{Signatures}
use Rattle.signatures.specs.OneTables.{SameTables}
use Rattle.signatures.specs.Tables.{AreSignatures}

-- forms have one set of tables at most, by what the tables have of each word
abbrev pub TablesAreOne : Type 0
TablesAreOne = (forms : List Located) (first second : Signatures) → AreSignatures forms first → AreSignatures forms second → SameTables first second
