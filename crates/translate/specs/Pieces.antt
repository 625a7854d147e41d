-- What one form gives.
use Rattle.std.specs.Prelude.{◌≡◌, ◌<◌, ℕ, ◌+◌, List, [], ◌∷◌, map, length, Bool, true, false, if◌then◌else◌, Some, None}
use Rattle.std.specs.List.{list_any, flat_map}
use Rattle.kif_tree.specs.declared.clause.InputClause.{InputClause}
use Rattle.kif_tree.specs.declared.form.Form.{Form}
use Rattle.kif_tree.specs.declared.place.Located.{Located}
use Rattle.kif_tree.specs.declared.place.Place.{Place}
use Rattle.kif_tree.specs.Clauses.{Literals}
use Rattle.kif_tree.specs.Names.{parts_in}
use Rattle.kif_tree.specs.Printed.{form_text}
use Rattle.kif_tree.specs.Profile.{is_in_profile}
use Rattle.kif_tree.specs.Terms.{Bytes}
use Rattle.taxonomy.specs.Told.{Link}
use Rattle.signatures.specs.Relations.{is_shown}
use Rattle.signatures.specs.declared.signatures.Signatures.{Signatures}
use Rattle.var_expand.specs.Choices.{predicate_variables, row_variables}
use Rattle.var_expand.specs.Expansion.{IsExpansion}
use Rattle.var_expand.specs.declared.expanded.Expanded.{Expanded}
use Rattle.var_expand.specs.declared.expanded.Expanded.TheVariants as expanded
use Rattle.type_guard.specs.Guarded as guards
use Rattle.clause_form.specs.ClauseForms.{clause_form}
use Rattle.clause_form.specs.declared.conversion.ClauseForm.{ClauseForm}
use Rattle.clause_form.specs.declared.conversion.ClauseForm.TheVariants.{Clauses, TooMany}
use Rattle.clause_form.specs.declared.conversion.SkolemBase.{SkolemBase}
use Rattle.translate.specs.declared.translated.Guarded.{Guarded}
use Rattle.translate.specs.declared.translated.Translated.{Translated}
use Rattle.translate.specs.declared.translated.TranslateError.{TranslateError}
use Rattle.translate.specs.declared.translated.TranslateError.TheVariants as errors

-- ---- forms that are left out

abbrev pub nothing : Translated
nothing = record { inputs = []; guarded = []; left_out = [] }

abbrev pub left_out : Located → ℕ → Bytes → Translated
left_out located code term = record { inputs = []; guarded = []; left_out = record { code = code; place = located.place; term = term; other = None } ∷ [] }

-- the spelling of the first of the forms
abbrev pub first_text : List Form → Bytes
first_text [] = []
first_text (f ∷ fs) = form_text f

abbrev pub head_text : Located → Bytes
head_text located = first_text (parts_in located.form)

-- ---- variants and their clauses

abbrev pub numbered : Place → ℕ → List Form → List Guarded
numbered place number [] = []
numbered place number (f ∷ fs) = record { form = f; place = place; variant = number } ∷ numbered place (number + 1) fs

-- the variants, guarded and numbered from 1
abbrev pub guarded_variants : Signatures → Place → List Form → List Guarded
guarded_variants signatures place variants = numbered place 1 (map (λ (variant : Form). guards.guarded signatures (guards.closed variant)) variants)

abbrev pub base_of : Guarded → SkolemBase
base_of variant = record { load = variant.place.constituent; form = variant.place.form; variant = variant.variant }

abbrev pub form_of : Guarded → ClauseForm
form_of variant = clause_form (base_of variant) variant.form

abbrev pub is_too_many : ClauseForm → Bool
is_too_many (Clauses clauses) = false
is_too_many TooMany = true

abbrev pub clauses_in : ClauseForm → List Literals
clauses_in (Clauses clauses) = clauses
clauses_in TooMany = []

-- the clauses of a variant, each with its place and number
abbrev pub inputs_of : Guarded → List InputClause
inputs_of variant = map (λ (clause : Literals). record { clause = clause; place = Some variant.place; variant = variant.variant }) (clauses_in (form_of variant))

-- what variants give none of which has too many clauses
abbrev pub given_by : List Guarded → Translated
given_by variants = record { inputs = flat_map inputs_of variants; guarded = variants; left_out = [] }

-- a form with a variant of too many clauses gives no variant at all
abbrev pub of_variants : Located → List Guarded → Translated
of_variants located variants =
    if list_any (λ (variant : Guarded). is_too_many (form_of variant)) variants then left_out located 13 (head_text located)
    else given_by variants

abbrev pub of_expanded : Signatures → Located → Expanded → Translated
of_expanded signatures located (expanded.Variants variants) = of_variants located (guarded_variants signatures located.place variants)
of_expanded signatures located expanded.NoLength = left_out located 9 (first_text (row_variables located.form))
of_expanded signatures located expanded.NoRelation = left_out located 12 (first_text (predicate_variables located.form))
of_expanded signatures located expanded.TooMany = left_out located 10 (head_text located)

-- ---- forms

-- the form's expansion gives the piece
pub record IsOfExpansion (links : List Link) (signatures : Signatures) (located : Located) (piece : Translated) : Type 0 where
  pub outcome : Expanded
  pub expands : IsExpansion links signatures located.form outcome
  pub is : piece ≡ of_expanded signatures located outcome

-- by whether the form is only shown and whether it is in the profile
abbrev pub IsPieceWhere : Bool → Bool → List Link → Signatures → Located → Translated → Type 0
IsPieceWhere true in_profile links signatures located piece = piece ≡ nothing
IsPieceWhere false false links signatures located piece = piece ≡ left_out located 8 (head_text located)
IsPieceWhere false true links signatures located piece = IsOfExpansion links signatures located piece

-- what a form gives: its clauses and guarded variants, or the diagnostic that it is left out
abbrev pub IsPiece : List Link → Signatures → Located → Translated → Type 0
IsPiece links signatures located piece = IsPieceWhere (is_shown located.form) (is_in_profile located.form) links signatures located piece

-- the form gives more clauses than there is room for
pub record IsPieceAbove (links : List Link) (signatures : Signatures) (located : Located) (room : ℕ) (error : TranslateError) : Type 0 where
  pub piece : Translated
  pub gives : IsPiece links signatures located piece
  pub above : room < length piece.inputs
  pub told : error ≡ errors.SnapshotFull located.place
