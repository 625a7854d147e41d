-- Laws of the definitions.
use Rattle.std.specs.Prelude.{◌≡◌, List, true, false}
use Rattle.kif_tree.specs.declared.form.Form.{Form}
use Rattle.kif_tree.specs.declared.place.Located.{Located}
use Rattle.kif_tree.specs.declared.place.Place.{Place}
use Rattle.kif_tree.specs.Names.{is_function_word}
use Rattle.kif_tree.specs.Profile.{is_in_profile}
use Rattle.kif_tree.specs.Shape.{is_among}
use Rattle.taxonomy.specs.Told.{Link}
use Rattle.signatures.specs.Arities.{shown_heads}
use Rattle.signatures.specs.Relations.{is_shown}
use Rattle.signatures.specs.Tables.{AreSignatures}
use Rattle.signatures.specs.declared.signatures.Signatures.{Signatures}
use Rattle.diagnose.specs.Diagnostics.{AreAscending}
use Rattle.diagnose.specs.Merged.{ArePlaced}
use Rattle.translate.specs.Pieces.{IsPiece}
use Rattle.translate.specs.PlainForms.{IsPlainForm, itself}
use Rattle.translate.specs.Translation.{IsTranslation, IsWhole, IsFullAt}
use Rattle.translate.specs.declared.translated.Translated.{Translated}

-- ---- one translation, by any two tables that are right for the same forms, be they those that are translated or others

abbrev pub TranslationsAreOne : Type 0
TranslationsAreOne = (links : List Link) (told forms : List Located) (first second : Signatures) (a b : Translated) → AreSignatures told first → AreSignatures told second
    → IsTranslation links first forms a → IsTranslation links second forms b → a ≡ b

abbrev pub WholesAreOne : Type 0
WholesAreOne = (links : List Link) (told forms : List Located) (first second : Signatures) (a b : Translated) → AreSignatures told first → AreSignatures told second
    → IsWhole links first forms a → IsWhole links second forms b → a ≡ b

-- the limit is passed at one place
abbrev pub FullAtOne : Type 0
FullAtOne = (links : List Link) (told forms : List Located) (first second : Signatures) (p q : Place) → AreSignatures told first → AreSignatures told second
    → IsFullAt links first forms p → IsFullAt links second forms q → p ≡ q

-- or nowhere
abbrev pub WholeIsNotFull : Type 0
WholeIsNotFull = (links : List Link) (told forms : List Located) (first second : Signatures) (translated : Translated) (place : Place) → AreSignatures told first → AreSignatures told second
    → IsWhole links first forms translated → IsFullAt links second forms place → ⊥

-- ---- what is left out: the diagnostics come in order of the forms, each at the place of its form

abbrev pub LeftOutAreAscending : Type 0
LeftOutAreAscending = (links : List Link) (signatures : Signatures) (forms : List Located) (translated : Translated) → IsTranslation links signatures forms translated → AreAscending forms translated.left_out

abbrev pub LeftOutArePlaced : Type 0
LeftOutArePlaced = (links : List Link) (signatures : Signatures) (forms : List Located) (translated : Translated) → IsTranslation links signatures forms translated → ArePlaced forms translated.left_out

-- ---- plain forms

-- one that isn't only shown gives itself as its one clause
abbrev pub PlainGivesItself : Type 0
PlainGivesItself = (links : List Link) (signatures : Signatures) (located : Located) (piece : Translated) → IsPlainForm located.form → is_shown located.form ≡ false → is_in_profile located.form ≡ true
    → IsPiece links signatures located piece → piece ≡ itself located

-- each whose head doesn't name a function is in the profile
abbrev pub PlainIsInProfile : Type 0
PlainIsInProfile = (f : Form) (plain : IsPlainForm f) → is_function_word plain.head ≡ false → is_in_profile f ≡ true

-- each whose head isn't one of those of forms that are only shown isn't only shown
abbrev pub PlainIsNotShown : Type 0
PlainIsNotShown = (f : Form) (plain : IsPlainForm f) → is_among shown_heads plain.head ≡ false → is_shown f ≡ false
