-- The translation of a list of forms.
use Rattle.std.specs.Prelude.{◌≡◌, ◌≤◌, ◌<◌, ◌+◌, List, [], ◌∷◌, ◌++◌, length}
use Rattle.kif_tree.specs.declared.place.Located.{Located}
use Rattle.kif_tree.specs.declared.place.Place.{Place}
use Rattle.taxonomy.specs.Told.{Link}
use Rattle.signatures.specs.declared.signatures.Signatures.{Signatures}
use Rattle.translate.specs.Pieces.{IsPiece}
use Rattle.translate.specs.declared.translated.Translated.{Translated}
use Rattle.translate.specs.declared.translated.TranslateError.{TranslateError}
use Rattle.translate.specs.declared.translated.TranslateError.TheVariants as errors

-- one piece for each form, in order
abbrev pub ArePieces : List Link → Signatures → List Located → List Translated → Type 0
ArePieces links signatures [] [] = Unit {0}
ArePieces links signatures (located ∷ forms) (piece ∷ pieces) = IsPiece links signatures located piece × ArePieces links signatures forms pieces
ArePieces links signatures _ _ = ⊥

abbrev pub joined : Translated → Translated → Translated
joined a b = record { inputs = a.inputs ++ b.inputs; guarded = a.guarded ++ b.guarded; left_out = a.left_out ++ b.left_out }

abbrev pub all_of : List Translated → Translated
all_of [] = record { inputs = []; guarded = []; left_out = [] }
all_of (piece ∷ pieces) = joined piece (all_of pieces)

-- what the forms give, one after the other
pub record IsTranslation (links : List Link) (signatures : Signatures) (forms : List Located) (translated : Translated) : Type 0 where
  pub pieces : List Translated
  pub each : ArePieces links signatures forms pieces
  pub is : translated ≡ all_of pieces

-- with this form there are more clauses than a snapshot may have, and not before
pub record IsFullAt (links : List Link) (signatures : Signatures) (forms : List Located) (place : Place) : Type 0 where
  pub before : List Located
  pub located : Located
  pub after : List Located
  pub stand : forms ≡ before ++ located ∷ after
  pub at : place ≡ located.place
  pub so_far : Translated
  pub translated : IsTranslation links signatures before so_far
  pub room : length so_far.inputs ≤ 400000
  pub piece : Translated
  pub gives : IsPiece links signatures located piece
  pub passes : 400000 < length so_far.inputs + length piece.inputs

-- a translation within the limit
pub record IsWhole (links : List Link) (signatures : Signatures) (forms : List Located) (translated : Translated) : Type 0 where
  pub translation : IsTranslation links signatures forms translated
  pub within : length translated.inputs ≤ 400000

abbrev pub IsFull : List Link → Signatures → List Located → TranslateError → Type 0
IsFull links signatures forms (errors.SnapshotFull place) = IsFullAt links signatures forms place
IsFull links signatures forms errors.NoMemory = ⊥
