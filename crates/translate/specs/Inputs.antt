-- What is so of the clauses of shaped forms.
use Rattle.std.specs.Prelude.{◌≡◌, List, true}
use Rattle.sigma_base.specs.Lists.{Each}
use Rattle.kif_tree.specs.declared.clause.InputClause.{InputClause}
use Rattle.kif_tree.specs.declared.form.Form.{Form}
use Rattle.kif_tree.specs.declared.place.Located.{Located}
use Rattle.kif_tree.specs.Profile.{is_in_profile}
use Rattle.kif_tree.specs.Shape.{is_shaped}
use Rattle.taxonomy.specs.Told.{Link}
use Rattle.signatures.specs.Tables.{relations_in, AreSignatures}
use Rattle.signatures.specs.declared.signatures.Signatures.{Signatures}
use Rattle.var_expand.specs.Choices.{Choice, chosen_for, choices}
use Rattle.var_expand.specs.Replacement.{replaced}
use Rattle.var_expand.specs.Search.{Has}
use Rattle.type_guard.specs.Guarded as guards
use Rattle.clause_form.specs.Sentences.{is_sentence, IsInput}
use Rattle.translate.specs.Translation.{IsTranslation}
use Rattle.translate.specs.declared.translated.Guarded.{Guarded}
use Rattle.translate.specs.declared.translated.Translated.{Translated}

-- the forms have the shape that those of a text have
abbrev pub AreShaped : List Located → Type 0
AreShaped forms = Each (λ (located : Located). is_shaped located.form ≡ true) forms

-- of shaped forms, by the tables that were made of them, each clause is proper and has no answer literals
abbrev pub AreInputs : List Located → Signatures → Translated → Type 0
AreInputs forms signatures translated = AreShaped forms → AreSignatures forms signatures → Each (λ (input : InputClause). IsInput input.clause) translated.inputs

-- and each guarded variant is a sentence
abbrev pub AreSentences : List Located → Signatures → Translated → Type 0
AreSentences forms signatures translated = AreShaped forms → AreSignatures forms signatures → Each (λ (variant : Guarded). is_sentence variant.form ≡ true) translated.guarded

-- ---- the laws

-- a shaped form in the profile is a sentence after each choice for its predicate variables and row variables, by the tables of shaped forms
abbrev pub VariantsAreSentences : Type 0
VariantsAreSentences = (forms : List Located) (signatures : Signatures) → AreShaped forms → AreSignatures forms signatures
    → (f : Form) → is_shaped f ≡ true → is_in_profile f ≡ true → (choice : Choice) → Has (choices (relations_in signatures) (chosen_for f)) choice → is_sentence (replaced f choice) ≡ true

-- a sentence stays one when its free variables are quantified and its quantifiers guarded
abbrev pub GuardedAreSentences : Type 0
GuardedAreSentences = (signatures : Signatures) (f : Form) → is_sentence f ≡ true → is_sentence (guards.guarded signatures (guards.closed f)) ≡ true

abbrev pub TranslationsAreInputs : Type 0
TranslationsAreInputs = (links : List Link) (signatures : Signatures) (forms : List Located) (translated : Translated) → IsTranslation links signatures forms translated → AreInputs forms signatures translated

abbrev pub TranslationsAreSentences : Type 0
TranslationsAreSentences = (links : List Link) (signatures : Signatures) (forms : List Located) (translated : Translated) → IsTranslation links signatures forms translated → AreSentences forms signatures translated
