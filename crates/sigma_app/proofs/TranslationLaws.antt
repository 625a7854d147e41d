-- What the tool takes from a translation, and from its list of diagnostics.
use Rattle.std.proofs.Common.{◌≡◌, ◌⊎◌, List, Result, Ok, Err, inl, inr, sym, subst, ◌∙◌}
use Rattle.std.specs.Prelude.{Contains, IfOk}
use Rattle.std.specs.declared.alloc.Global.{Global}
use Rattle.std.specs.declared.vec.Vec.{Vec}
use Rattle.sigma_base.specs.declared.memory.NoMemory.{NoMemory}
use Rattle.kif_tree.specs.declared.place.LoadName.{LoadName}
use Rattle.kif_tree.specs.declared.place.Located.{Located}
use Rattle.kif_tree.specs.declared.place.Place.{Place}
use Rattle.kif_tree.specs.Places.{PlacesDiffer}
use Rattle.taxonomy.specs.Told.{ToldTaxonomy, told_taxonomy, links}
use Rattle.signatures.specs.Tables.{AreSignatures}
use Rattle.signatures.specs.declared.signatures.Signatures.{Signatures}
use Rattle.diagnose.specs.declared.diagnostic.Diagnostic.{Diagnostic}
use Rattle.diagnose.specs.Diagnostics.{IsDiagnostic, AreAscending, AreDiagnostics}
use Rattle.diagnose.specs.Merged.{ArePlaced, AreMerged}
use Rattle.diagnose.proofs.OneListLaws.{same_lists}
use Rattle.translate.specs.Translation.{IsWhole, IsFullAt, IsFull}
use Rattle.translate.specs.declared.translated.Translated.{Translated}
use Rattle.translate.specs.declared.translated.TranslateError.{TranslateError}
use Rattle.translate.specs.declared.translated.TranslateError.TheVariants as errors
use Rattle.translate.proofs.LeftOutLaws.{left_out_are_ascending, left_out_are_placed}
use Rattle.translate.proofs.OneTranslationLaws.{wholes_are_one, full_at_one, whole_is_not_full}
use Rattle.sigma_app.specs.declared.files.Part.{Part}
use Rattle.sigma_app.specs.declared.reply.Reply.{Reply}
use Rattle.sigma_app.specs.Files.{load_names}
use Rattle.sigma_app.specs.Snapshots.{snapshot_text, HaveTranslation, AreFull, AreAllDiagnostics}
use Rattle.sigma_app.specs.Tool.{Is, IsSnapshotFull}

-- ---- translations are one

pub left_out_placed : (forms : List Located) (translated : Translated) → HaveTranslation forms translated → AreAscending forms translated.left_out × ArePlaced forms translated.left_out
left_out_placed forms translated have =
    (left_out_are_ascending (links forms) have.signatures forms translated have.whole.translation, left_out_are_placed (links forms) have.signatures forms translated have.whole.translation)

pub translations_one : (forms : List Located) (a b : Translated) → HaveTranslation forms a → HaveTranslation forms b → a ≡ b
translations_one forms a b have other = wholes_are_one (links forms) forms forms have.signatures other.signatures a b have.tables other.tables have.whole other.whole

pub full_once : (forms : List Located) (p q : Place) → AreFull forms p → AreFull forms q → p ≡ q
full_once forms p q full other = full_at_one (links forms) forms forms full.signatures other.signatures p q full.tables other.tables full.full other.full

pub not_full : (forms : List Located) (translated : Translated) (place : Place) → HaveTranslation forms translated → AreFull forms place → ⊥
not_full forms translated place have full = whole_is_not_full (links forms) forms forms have.signatures full.signatures translated place have.tables full.tables have.whole full.full

-- ---- all diagnostics of forms

-- merged from those of the forms and those of forms that are left out
pub all_listed : (forms : List Located) (translated : Translated) (first second list : List Diagnostic) → AreDiagnostics forms first → second ≡ translated.left_out → AreMerged forms first second list
    → AreAllDiagnostics forms translated list
all_listed forms translated first second list are same merged = record { ascending = merged.ascending; exactly = λ d. (λ h. there d ((merged.exactly d).0 h), λ h. (merged.exactly d).1 (back d h)) }
  where
    there : (d : Diagnostic) → Contains first d ⊎ Contains second d → IsDiagnostic forms d ⊎ Contains translated.left_out d
    there d (inl h) = inl ((are.exactly d).0 h)
    there d (inr h) = inr (subst (λ (ds : List Diagnostic). Contains ds d) same h)

    back : (d : Diagnostic) → IsDiagnostic forms d ⊎ Contains translated.left_out d → Contains first d ⊎ Contains second d
    back d (inl h) = inl ((are.exactly d).1 h)
    back d (inr h) = inr (subst (λ (ds : List Diagnostic). Contains ds d) (sym same) h)

pub all_listed_ok : (forms : List Located) (translated : Translated) (first second : List Diagnostic) → AreDiagnostics forms first → second ≡ translated.left_out
    → (r : Result (Vec Diagnostic Global) NoMemory) → IfOk r (λ list. AreMerged forms first second list.items) → IfOk r (λ list. AreAllDiagnostics forms translated list.items)
all_listed_ok forms translated first second are same (Ok list) merged = all_listed forms translated first second list.items are same merged
all_listed_ok forms translated first second are same (Err error) merged = tt

-- they are one list
pub all_diagnostics_one : (forms : List Located) (translated : Translated) (a b : List Diagnostic) → PlacesDiffer forms → AreAllDiagnostics forms translated a → AreAllDiagnostics forms translated b → a ≡ b
all_diagnostics_one forms translated a b differ h k =
    same_lists forms differ a b h.ascending k.ascending (λ d c. (k.exactly d).1 ((h.exactly d).0 c)) (λ d c. (h.exactly d).1 ((k.exactly d).0 c))

-- ---- by the tables that are made of the forms

pub have_translation : (forms : List Located) (taxonomy : ToldTaxonomy) (signatures : Signatures) (translated : Translated) → taxonomy ≡ told_taxonomy forms → AreSignatures forms signatures
    → IsWhole taxonomy.links signatures forms translated → HaveTranslation forms translated
have_translation forms taxonomy signatures translated told tables whole =
    record { signatures = signatures; tables = tables; whole = subst (λ (t : ToldTaxonomy). IsWhole t.links signatures forms translated) told whole }

full_by : (forms : List Located) (taxonomy : ToldTaxonomy) (signatures : Signatures) (error : TranslateError) (place : Place) → error ≡ errors.SnapshotFull place
    → (error ≡ errors.NoMemory) ⊎ IsFull taxonomy.links signatures forms error → IsFullAt taxonomy.links signatures forms place
full_by forms taxonomy signatures error place e (inl none) = let no_way : errors.SnapshotFull place ≡ errors.NoMemory = sym e ∙ none in absurd (cc)
full_by forms taxonomy signatures error place e (inr full) = subst (IsFull taxonomy.links signatures forms) e full

pub snapshot_full : (parts : List Part) (forms : List Located) (taxonomy : ToldTaxonomy) (signatures : Signatures) (error : TranslateError) (place : Place) (names : List LoadName) (reply : Reply)
    → taxonomy ≡ told_taxonomy forms → AreSignatures forms signatures → error ≡ errors.SnapshotFull place → (error ≡ errors.NoMemory) ⊎ IsFull taxonomy.links signatures forms error
    → names ≡ load_names parts → Is 6 (snapshot_text names place) reply.status reply.text → IsSnapshotFull parts forms reply.status reply.text
snapshot_full parts forms taxonomy signatures error place names reply told tables e cause named is = record {
  place = place;
  full = record { signatures = signatures; tables = tables; full = subst (λ (t : ToldTaxonomy). IsFullAt t.links signatures forms place) told (full_by forms taxonomy signatures error place e cause) };
  is = subst (λ (ns : List LoadName). Is 6 (snapshot_text ns place) reply.status reply.text) named is;
}
