-- Diagnostics of the forms gone through.
use Rattle.std.specs.Prelude.{◌≡◌, ◌⊎◌, ◌↔◌, List, Contains}
use Rattle.kif_tree.specs.Terms.{Bytes}
use Rattle.kif_tree.specs.declared.place.Located.{Located}
use Rattle.kif_tree.specs.declared.place.Place.{Place}
use Rattle.taxonomy.specs.Told.{links, told_taxonomy, ToldTaxonomy}
use Rattle.signatures.specs.Tables.{AreSignatures}
use Rattle.signatures.specs.declared.signatures.Signatures.{Signatures}
use Rattle.diagnose.specs.declared.diagnostic.Diagnostic.{Diagnostic}
use Rattle.diagnose.specs.declared.list.Tables.{Tables}
use Rattle.diagnose.specs.Arguments.{IsClassWord}
use Rattle.diagnose.specs.Diagnostics.{IsOfWord, IsOfForm, IsDiagnostic, AreAscending}
use Rattle.diagnose.specs.Order.{ArePositions}
use Rattle.diagnose.specs.WordTables.{AreWords, IsDocumented, IsUnstated, AreSeen}

-- the tables are those of the forms
pub record AreTables (forms : List Located) (taxonomy : ToldTaxonomy) (signatures : Signatures) (tables : Tables) : Type 0 where
  pub told : taxonomy ≡ told_taxonomy forms
  pub signed : AreSignatures forms signatures
  pub documented : AreWords (IsDocumented forms) tables.words.documented
  pub unstated : AreWords (IsUnstated forms) tables.words.unstated
  pub classes : AreWords (IsClassWord (links forms)) tables.class_words
  pub positions : ArePositions forms tables.positions

-- a diagnostic of the form at its place
abbrev pub IsAt : List Located → Located → Diagnostic → Type 0
IsAt forms located d = (d.place ≡ located.place) × (IsOfWord forms d ⊎ IsOfForm forms located.form d)

-- one of the forms stands at the place
pub record HasPlace (forms : List Located) (place : Place) : Type 0 where
  pub located : Located
  pub among : Contains forms located
  pub at : located.place ≡ place

-- the words and the diagnostics of the forms gone through
pub record AreSoFar (forms gone : List Located) (seen : List Bytes) (list : List Diagnostic) : Type 0 where
  pub words : AreSeen gone seen
  pub ascending : AreAscending forms list
  pub exactly : (d : Diagnostic) → Contains list d ↔ (IsDiagnostic forms d × HasPlace gone d.place)
