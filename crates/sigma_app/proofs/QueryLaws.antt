-- What a query takes from the translation of the forms: a set of clauses, each at the place of a form.
use Rattle.std.proofs.Common.{◌≡◌, ℕ, ◌+◌, List, [], ◌∷◌, Bool, true, false, if◌then◌else◌, Some, Result, Ok, Err, inl, inr, refl, sym, ap, subst, arith}
use Rattle.std.specs.Prelude.{IfOk}
use Rattle.std.specs.List.{list_any}
use Rattle.sigma_base.specs.Lists.{Each, each_append, each_map, each_both}
use Rattle.kif_tree.specs.declared.clause.InputClause.{InputClause}
use Rattle.kif_tree.specs.declared.form.Form.{Form}
use Rattle.kif_tree.specs.declared.place.LoadName.{LoadName}
use Rattle.kif_tree.specs.declared.place.Located.{Located}
use Rattle.kif_tree.specs.declared.place.Place.{Place}
use Rattle.kif_tree.specs.Clauses.{Literals}
use Rattle.kif_tree.specs.Terms.{Bytes}
use Rattle.kif_tree.specs.Profile.{is_in_profile}
use Rattle.kif_tree.specs.Shape.{is_shaped}
use Rattle.kif_reader.proofs.SpellableLaws.{spelled_shaped}
use Rattle.taxonomy.specs.Told.{Link, links}
use Rattle.signatures.specs.Relations.{is_shown}
use Rattle.signatures.specs.declared.signatures.Signatures.{Signatures}
use Rattle.calculus.specs.Answers.{Among}
use Rattle.var_expand.specs.declared.expanded.Expanded.{Expanded}
use Rattle.var_expand.specs.declared.expanded.Expanded.TheVariants as expanded
use Rattle.var_expand.proofs.MemberLaws.{each_mapped, each_flat}
use Rattle.clause_form.specs.Sentences.{IsInput}
use Rattle.translate.specs.Inputs.{AreShaped}
use Rattle.translate.specs.Pieces as spec
use Rattle.translate.specs.Pieces.{IsPiece, IsPieceWhere}
use Rattle.translate.specs.Translation.{ArePieces, all_of}
use Rattle.translate.specs.declared.translated.Guarded.{Guarded}
use Rattle.translate.specs.declared.translated.Translated.{Translated}
use Rattle.translate.proofs.InputLaws.{translations_are_inputs}
use Rattle.unify.specs.ClauseSets.{IsThere, IsSetInput, IsClauseSet}
use Rattle.sigma_base.specs.declared.memory.NoMemory.{NoMemory}
use Rattle.saturate.specs.declared.limits.Limits.{Limits}
use Rattle.answers.specs.declared.outcome.Outcome.{Outcome}
use Rattle.answers.specs.Questions.{IsAsked}
use Rattle.sigma_app.specs.declared.files.Part.{Part}
use Rattle.sigma_app.specs.declared.reply.Reply.{Reply}
use Rattle.sigma_app.specs.Files.{load_names, SpellParts}
use Rattle.sigma_app.specs.Tool.{ShowsOutcome, OnSet, OnQuery}
use Rattle.sigma_app.specs.Snapshots.{HaveTranslation}
use Rattle.sigma_app.specs.Laws.{TranslationsAreSets}

-- ---- places of clauses

-- the clause comes from the form at the place
abbrev IsAt : Place → InputClause → Type 0
IsAt place input = input.place ≡ Some place

abbrev AreAt : Place → Translated → Type 0
AreAt place translated = Each (IsAt place) translated.inputs

abbrev IsVariantAt : Place → Guarded → Type 0
IsVariantAt place variant = variant.place ≡ place

numbered_at : (place : Place) (number : ℕ) (fs : List Form) → Each (IsVariantAt place) (spec.numbered place number fs)
numbered_at place number [] = tt
numbered_at place number (f ∷ fs) = (refl, numbered_at place (number + 1) fs)

variant_at : (place : Place) (variant : Guarded) → variant.place ≡ place → Each (IsAt place) (spec.inputs_of variant)
variant_at place variant e = each_mapped (IsAt place) _ (spec.clauses_in (spec.form_of variant)) (all (spec.clauses_in (spec.form_of variant)))
  where
    all : (clauses : List Literals) → Each (λ (clause : Literals). Some variant.place ≡ Some place) clauses
    all [] = tt
    all (clause ∷ clauses) = (ap Some e, all clauses)

variants_at : (place : Place) (located : Located) (variants : List Guarded) → Each (IsVariantAt place) variants → AreAt place (spec.of_variants located variants)
variants_at place located variants each = go (list_any (λ (variant : Guarded). spec.is_too_many (spec.form_of variant)) variants)
  where
    go : (b : Bool) → AreAt place (if b then spec.left_out located 13 (spec.head_text located) else spec.given_by variants)
    go true = tt
    go false =
        each_flat (IsAt place) spec.inputs_of variants
        (each_map (IsVariantAt place) (λ (variant : Guarded). Each (IsAt place) (spec.inputs_of variant)) (λ variant e. variant_at place variant e) variants each)

expanded_at : (signatures : Signatures) (located : Located) (outcome : Expanded) → AreAt located.place (spec.of_expanded signatures located outcome)
expanded_at signatures located (expanded.Variants variants) =
    variants_at located.place located (spec.guarded_variants signatures located.place variants) (numbered_at located.place 1 _)
expanded_at signatures located expanded.NoLength = tt
expanded_at signatures located expanded.NoRelation = tt
expanded_at signatures located expanded.TooMany = tt

piece_at : (links : List Link) (signatures : Signatures) (located : Located) (piece : Translated) → IsPiece links signatures located piece → AreAt located.place piece
piece_at links signatures located piece gives = go (is_shown located.form) (is_in_profile located.form) gives
  where
    go : (shown profiled : Bool) → IsPieceWhere shown profiled links signatures located piece → AreAt located.place piece
    go true profiled is = subst (AreAt located.place) (sym is) tt
    go false false is = subst (AreAt located.place) (sym is) tt
    go false true of = subst (AreAt located.place) (sym of.is) (expanded_at signatures located of.outcome)

-- the clause comes from one of the forms
pub record IsFromForm (forms : List Located) (input : InputClause) : Type 0 where
  pub located : Located
  pub among : Among located forms
  pub at : input.place ≡ Some located.place

later_form : (located : Located) (forms : List Located) (input : InputClause) → IsFromForm forms input → IsFromForm (located ∷ forms) input
later_form located forms input from = record { located = from.located; among = inr from.among; at = from.at }

pieces_from : (links : List Link) (signatures : Signatures) (forms : List Located) (pieces : List Translated) → ArePieces links signatures forms pieces
    → Each (IsFromForm forms) (all_of pieces).inputs
pieces_from links signatures [] [] each = tt
pieces_from links signatures [] (piece ∷ pieces) each = absurd each
pieces_from links signatures (located ∷ forms) [] each = absurd each
pieces_from links signatures (located ∷ forms) (piece ∷ pieces) each =
    each_append (IsFromForm (located ∷ forms)) piece.inputs (all_of pieces).inputs
    (each_map (IsAt located.place) (IsFromForm (located ∷ forms)) (λ input at. record { located = located; among = inl refl; at = at }) piece.inputs
    (piece_at links signatures located piece each.0))
    (each_map (IsFromForm forms) (IsFromForm (located ∷ forms)) (λ input from. later_form located forms input from) (all_of pieces).inputs
    (pieces_from links signatures forms pieces each.1))

-- each clause of a translation has the place of a form
pub inputs_from : (forms : List Located) (translated : Translated) → HaveTranslation forms translated → Each (IsFromForm forms) translated.inputs
inputs_from forms translated have =
    let is = have.whole.translation in
    subst (λ (t : Translated). Each (IsFromForm forms) t.inputs) (sym is.is) (pieces_from (links forms) have.signatures forms is.pieces is.each)

-- ---- the set of clauses

set_input : (forms : List Located) (input : InputClause) → IsInput input.clause × IsFromForm forms input → IsSetInput input
set_input forms input (own, from) = record { proper = own.proper; answerless = own.answerless; placed = subst IsThere (sym from.at) tt }

pub clause_set : (forms : List Located) (translated : Translated) → AreShaped forms → HaveTranslation forms translated → IsClauseSet translated.inputs
clause_set forms translated shaped have = record {
  each =
      each_map (λ (input : InputClause). IsInput input.clause × IsFromForm forms input) IsSetInput (set_input forms) translated.inputs
      (each_both (λ (input : InputClause). IsInput input.clause) (IsFromForm forms) translated.inputs
      (translations_are_inputs (links forms) have.signatures forms translated have.whole.translation shaped have.tables) (inputs_from forms translated have));
  few = let within = have.whole.within in omega (arith, within);
}

-- the forms of texts have their shape
pub spelled_parts_shaped : (parts : List Part) (forms : List Located) → SpellParts parts forms → AreShaped forms
spelled_parts_shaped [] forms spelled = subst AreShaped (sym spelled) tt
spelled_parts_shaped (part ∷ parts) forms (mine, rest, e, spells, more) =
    subst AreShaped (sym e)
    (each_append (λ (located : Located). is_shaped located.form ≡ true) mine rest (spelled_shaped part.number part.text mine spells) (spelled_parts_shaped parts rest more))

pub translations_are_sets : TranslationsAreSets
translations_are_sets parts forms translated spelled have = clause_set forms translated (spelled_parts_shaped parts forms spelled) have

-- ---- the reply to a query

abbrev Replied : Type 0
Replied = Result Reply NoMemory

pub outcome_answers : (query : Bytes) (limits : Limits) (names : List LoadName) (set : List InputClause) (outcome : Outcome) → IsAsked set query limits outcome
    → (r : Replied) → IfOk r (λ reply. ShowsOutcome names outcome reply.status reply.text) → IfOk r (λ reply. OnSet query limits names set reply.status reply.text)
outcome_answers query limits names set outcome asked (Ok reply) shows = inr (record { outcome = outcome; asked = asked; shows = shows })
outcome_answers query limits names set outcome asked (Err error) shows = tt

pub query_answered : (query : Bytes) (limits : Limits) (parts : List Part) (forms : List Located) (translated : Translated) (names : List LoadName) (set : List InputClause)
    → HaveTranslation forms translated → names ≡ load_names parts → set ≡ translated.inputs
    → (r : Replied) → IfOk r (λ reply. OnSet query limits names set reply.status reply.text) → IfOk r (λ reply. OnQuery query limits parts forms reply.status reply.text)
query_answered query limits parts forms translated names set have named same (Ok reply) answers =
    inl (record {
      translated = translated;
      have = have;
      answers =
          subst (λ (inputs : List InputClause). OnSet query limits (load_names parts) inputs reply.status reply.text) same
          (subst (λ (ns : List LoadName). OnSet query limits ns set reply.status reply.text) named answers);
    })
query_answered query limits parts forms translated names set have named same (Err error) answers = tt
