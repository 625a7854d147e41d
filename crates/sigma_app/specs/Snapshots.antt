-- The translation of the forms of all files, which may pass the limit of a snapshot.
use Rattle.std.specs.Prelude.{◌⊎◌, ◌↔◌, ℕ, List, [], ◌∷◌, ◌++◌, codes, Contains}
use Rattle.kif_tree.specs.declared.place.LoadName.{LoadName}
use Rattle.kif_tree.specs.declared.place.Located.{Located}
use Rattle.kif_tree.specs.declared.place.Place.{Place}
use Rattle.kif_tree.specs.Printed.{place_text}
use Rattle.kif_tree.specs.Terms.{Bytes}
use Rattle.taxonomy.specs.Told.{links}
use Rattle.signatures.specs.Tables.{AreSignatures}
use Rattle.signatures.specs.declared.signatures.Signatures.{Signatures}
use Rattle.diagnose.specs.declared.diagnostic.Diagnostic.{Diagnostic}
use Rattle.diagnose.specs.Diagnostics.{IsDiagnostic, AreAscending}
use Rattle.translate.specs.Translation.{IsWhole, IsFullAt}
use Rattle.translate.specs.declared.translated.Translated.{Translated}

-- `limit snapshot NAME:LINE:COLUMN`
abbrev pub snapshot_text : List LoadName → Place → Bytes
snapshot_text names place = codes "limit snapshot " ++ (place_text names place ++ 10 ∷ [])

-- what the forms give, by the tables that are made of them
pub record HaveTranslation (forms : List Located) (translated : Translated) : Type 0 where
  pub signatures : Signatures
  pub tables : AreSignatures forms signatures
  pub whole : IsWhole (links forms) signatures forms translated

-- with the form at this place they have more clauses than a snapshot may have
pub record AreFull (forms : List Located) (place : Place) : Type 0 where
  pub signatures : Signatures
  pub tables : AreSignatures forms signatures
  pub full : IsFullAt (links forms) signatures forms place

-- all diagnostics of the forms, those of forms that are left out among them, in order, each once
pub record AreAllDiagnostics (forms : List Located) (translated : Translated) (list : List Diagnostic) : Type 0 where
  pub ascending : AreAscending forms list
  pub exactly : (d : Diagnostic) → Contains list d ↔ (IsDiagnostic forms d ⊎ Contains translated.left_out d)
