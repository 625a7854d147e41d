-- What shaped forms give: sentences, and proper clauses without answer literals.
use Rattle.std.proofs.Common.{◌≡◌, ℕ, ◌+◌, List, [], ◌∷◌, map, filter, length, Bool, true, false, not, ◌&&◌, ◌||◌, nat_lt, if◌then◌else◌, codes, refl, sym, ap, ◌∙◌, subst}
use Rattle.std.specs.List.{list_any, flat_map}
use Rattle.std.specs.Str.{bytes_eq}
use Rattle.std.proofs.lemmas.Slice.Eq.{bytes_eq-Decides}
use Rattle.sigma_base.specs.Lists.{Each, each_append, each_filter}
use Rattle.kif_tree.specs.declared.clause.InputClause.{InputClause}
use Rattle.kif_tree.specs.declared.form.Form.{Form}
use Rattle.kif_tree.specs.declared.place.Located.{Located}
use Rattle.kif_tree.specs.declared.place.Place.{Place}
use Rattle.kif_tree.specs.Profile.{is_in_profile}
use Rattle.kif_tree.specs.Shape.{has_word, is_shaped}
use Rattle.kif_tree.specs.Terms.{Bytes}
use Rattle.taxonomy.specs.Told.{Link}
use Rattle.signatures.specs.Relations.{is_shown, is_snapshot_word, IsRelationName}
use Rattle.signatures.specs.Tables.{relations_in, AreSignatures}
use Rattle.signatures.specs.declared.signatures.Signatures.{Signatures}
use Rattle.signatures.proofs.NameLaws.{among_contains}
use Rattle.calculus.proofs.TruthLaws.{both, false_true, negated}
use Rattle.var_expand.specs.Choices.{Choice, choices, chosen_for, predicate_variables}
use Rattle.var_expand.specs.Expansion.{nothing_fits, variants_by, outcome}
use Rattle.var_expand.specs.Replacement.{replaced}
use Rattle.var_expand.specs.Search.{Has}
use Rattle.var_expand.specs.declared.expanded.Expanded.TheVariants as expanded
use Rattle.var_expand.proofs.MemberLaws.{each_where, each_mapped, each_flat}
use Rattle.type_guard.specs.Guarded as guards
use Rattle.clause_form.specs.Sentences.{is_sentence, IsInput}
use Rattle.clause_form.specs.declared.conversion.ClauseForm.{ClauseForm}
use Rattle.clause_form.specs.declared.conversion.ClauseForm.TheVariants.{Clauses, TooMany}
use Rattle.clause_form.proofs.InputLaws.{sentences_give_inputs}
use Rattle.translate.specs.Inputs.{AreShaped, VariantsAreSentences, GuardedAreSentences, TranslationsAreInputs, TranslationsAreSentences}
use Rattle.translate.specs.Pieces as spec
use Rattle.translate.specs.Pieces.{IsPiece, IsPieceWhere, IsOfExpansion}
use Rattle.translate.specs.Translation.{ArePieces, IsTranslation, all_of}
use Rattle.translate.specs.declared.translated.Guarded.{Guarded}
use Rattle.translate.specs.declared.translated.Translated.{Translated}
use Rattle.translate.proofs.GuardLaws.{IsSentence, guarded_sentence}
use Rattle.translate.proofs.HeadLaws.{has_any}
use Rattle.translate.proofs.ReplaceLaws.{IsHead, replaced_sentence}

-- ---- relation names head atoms

none_among : (forms : List Located) → AreShaped forms → is_snapshot_word forms (codes "!answer") ≡ false
none_among [] shaped = refl
none_among (located ∷ forms) shaped =
    let absent = negated (has_word (codes "!answer") located.form) (both _ (not (has_word (codes "!answer") located.form)) shaped.0).1 in
    ap (λ b. (not (is_shown located.form) && b) || is_snapshot_word forms (codes "!answer")) absent ∙ go (not (is_shown located.form)) (none_among forms shaped.1)
  where
    go : (b : Bool) → is_snapshot_word forms (codes "!answer") ≡ false → ((b && false) || is_snapshot_word forms (codes "!answer")) ≡ false
    go true h = h
    go false h = h

head_name : (forms : List Located) → AreShaped forms → (word : Bytes) → IsRelationName forms word → IsHead word
head_name forms shaped word name = record { logical = name.not_logical; plain = go (bytes_eq (codes "!answer") word) refl }
  where
    go : (b : Bool) → bytes_eq (codes "!answer") word ≡ b → b ≡ false
    go true e = absurd (false_true (sym (none_among forms shaped) ∙ ap (is_snapshot_word forms) ((bytes_eq-Decides (codes "!answer") word).0 e) ∙ name.occurs))
    go false e = refl

abbrev AreHeads : Signatures → Type 0
AreHeads signatures = (word : Bytes) → Has (relations_in signatures) word → IsHead word

relation_heads : (forms : List Located) (signatures : Signatures) → AreShaped forms → AreSignatures forms signatures → AreHeads signatures
relation_heads forms signatures shaped tables word h =
    head_name forms shaped word ((tables.relations.exactly word).0 (among_contains (relations_in signatures) word (has_any (bytes_eq word) (relations_in signatures) word h ((bytes_eq-Decides word word).1 refl))))

pub variants_are_sentences : VariantsAreSentences
variants_are_sentences forms signatures shaped tables f own profiled choice h = replaced_sentence (relations_in signatures) (relation_heads forms signatures shaped tables) f own profiled choice h

pub guarded_are_sentences : GuardedAreSentences
guarded_are_sentences = guarded_sentence

-- ---- pieces

-- guarded variants that are sentences, and clauses that are inputs
record IsSound (translated : Translated) : Type 0 where
  pub guarded : Each (λ (variant : Guarded). is_sentence variant.form ≡ true) translated.guarded
  pub inputs : Each (λ (input : InputClause). IsInput input.clause) translated.inputs

variant_inputs : (variant : Guarded) → is_sentence variant.form ≡ true → Each (λ (input : InputClause). IsInput input.clause) (spec.inputs_of variant)
variant_inputs variant h = each_mapped (λ (input : InputClause). IsInput input.clause) _ (spec.clauses_in (spec.form_of variant)) (go (spec.form_of variant) refl)
  where
    go : (answer : ClauseForm) → spec.form_of variant ≡ answer → Each IsInput (spec.clauses_in answer)
    go (Clauses clauses) e = sentences_give_inputs (spec.base_of variant) variant.form h clauses e
    go TooMany e = tt

numbered_sentences : (place : Place) (number : ℕ) (fs : List Form) → Each IsSentence fs → Each (λ (variant : Guarded). is_sentence variant.form ≡ true) (spec.numbered place number fs)
numbered_sentences place number [] each = tt
numbered_sentences place number (f ∷ fs) each = (each.0, numbered_sentences place (number + 1) fs each.1)

variants_sound : (located : Located) (variants : List Guarded) → Each (λ (variant : Guarded). is_sentence variant.form ≡ true) variants → IsSound (spec.of_variants located variants)
variants_sound located variants each = go (list_any (λ (variant : Guarded). spec.is_too_many (spec.form_of variant)) variants)
  where
    all : (vs : List Guarded) → Each (λ (variant : Guarded). is_sentence variant.form ≡ true) vs → Each (λ (variant : Guarded). Each (λ (input : InputClause). IsInput input.clause) (spec.inputs_of variant)) vs
    all [] h = tt
    all (variant ∷ vs) h = (variant_inputs variant h.0, all vs h.1)

    go : (b : Bool) → IsSound (if b then spec.left_out located 13 (spec.head_text located) else record { inputs = flat_map spec.inputs_of variants; guarded = variants; left_out = [] })
    go true = record { guarded = tt; inputs = tt }
    go false = record { guarded = each; inputs = each_flat (λ (input : InputClause). IsInput input.clause) spec.inputs_of variants (all variants each) }

expanded_sound : (signatures : Signatures) (located : Located) (fitting : List Choice) → Each (λ choice. is_sentence (replaced located.form choice) ≡ true) fitting
    → IsSound (spec.of_expanded signatures located (outcome located.form fitting))
expanded_sound signatures located fitting each = go (nat_lt 20000 (length fitting))
  where
    none : (predicates : List Form) → IsSound (spec.of_expanded signatures located (nothing_fits predicates))
    none [] = record { guarded = tt; inputs = tt }
    none (variable ∷ predicates) = record { guarded = tt; inputs = tt }

    guards_all : (fs : List Form) → Each IsSentence fs → Each IsSentence (map (λ (variant : Form). guards.guarded signatures (guards.closed variant)) fs)
    guards_all [] h = tt
    guards_all (f ∷ fs) h = (guarded_sentence signatures f h.0, guards_all fs h.1)

    some : (choices : List Choice) → Each (λ choice. is_sentence (replaced located.form choice) ≡ true) choices → IsSound (spec.of_expanded signatures located (variants_by located.form choices))
    some [] h = none (predicate_variables located.form)
    some (choice ∷ more) h =
        let variants = map (replaced located.form) (choice ∷ more) in
        variants_sound located (spec.guarded_variants signatures located.place variants)
        (numbered_sentences located.place 1 (map (λ (variant : Form). guards.guarded signatures (guards.closed variant)) variants)
        (guards_all variants (each_mapped IsSentence (replaced located.form) (choice ∷ more) h)))

    go : (b : Bool) → IsSound (spec.of_expanded signatures located (if b then expanded.TooMany else variants_by located.form fitting))
    go true = record { guarded = tt; inputs = tt }
    go false = some fitting each

piece_sound : (links : List Link) (signatures : Signatures) (located : Located) (piece : Translated) → AreHeads signatures → is_shaped located.form ≡ true → IsPiece links signatures located piece → IsSound piece
piece_sound links signatures located piece heads shaped gives = go (is_shown located.form) (is_in_profile located.form) refl gives
  where
    go : (shown profiled : Bool) → is_in_profile located.form ≡ profiled → IsPieceWhere shown profiled links signatures located piece → IsSound piece
    go true profiled e is = subst IsSound (sym is) (record { guarded = tt; inputs = tt })
    go false false e is = subst IsSound (sym is) (record { guarded = tt; inputs = tt })
    go false true e of =
        let all = choices (relations_in signatures) (chosen_for located.form) in
        let each = each_filter (λ choice. is_sentence (replaced located.form choice) ≡ true) of.expands.test all
        (each_where (λ choice. is_sentence (replaced located.form choice) ≡ true) all (λ choice h. replaced_sentence (relations_in signatures) heads located.form shaped e choice h)) in
        subst IsSound (sym (of.is ∙ ap (spec.of_expanded signatures located) of.expands.is)) (expanded_sound signatures located (filter of.expands.test all) each)

-- ---- all together

pieces_sound : (links : List Link) (signatures : Signatures) (forms : List Located) (pieces : List Translated) → AreHeads signatures → AreShaped forms → ArePieces links signatures forms pieces → IsSound (all_of pieces)
pieces_sound links signatures [] [] heads shaped each = record { guarded = tt; inputs = tt }
pieces_sound links signatures [] (piece ∷ pieces) heads shaped each = absurd each
pieces_sound links signatures (located ∷ forms) [] heads shaped each = absurd each
pieces_sound links signatures (located ∷ forms) (piece ∷ pieces) heads shaped each =
    let here = piece_sound links signatures located piece heads shaped.0 each.0 in
    let rest = pieces_sound links signatures forms pieces heads shaped.1 each.1 in
    record {
      guarded = each_append (λ (variant : Guarded). is_sentence variant.form ≡ true) piece.guarded (all_of pieces).guarded here.guarded rest.guarded;
      inputs = each_append (λ (input : InputClause). IsInput input.clause) piece.inputs (all_of pieces).inputs here.inputs rest.inputs;
    }

translation_sound : (links : List Link) (signatures : Signatures) (forms : List Located) (translated : Translated) → IsTranslation links signatures forms translated → AreShaped forms → AreSignatures forms signatures → IsSound translated
translation_sound links signatures forms translated is shaped tables =
    subst IsSound (sym is.is) (pieces_sound links signatures forms is.pieces (relation_heads forms signatures shaped tables) shaped is.each)

pub translations_are_inputs : TranslationsAreInputs
translations_are_inputs links signatures forms translated is shaped tables = (translation_sound links signatures forms translated is shaped tables).inputs

pub translations_are_sentences : TranslationsAreSentences
translations_are_sentences links signatures forms translated is shaped tables = (translation_sound links signatures forms translated is shaped tables).guarded
