-- The list of diagnostics.
use Rattle.std.specs.Prelude.{false, ◌≡◌, ◌<◌, ◌⊎◌, ◌↔◌, List, [], ◌∷◌, ◌++◌, Option, Some, None, Contains}
use Rattle.sigma_base.specs.Lists.{Each}
use Rattle.kif_tree.specs.declared.form.Form.{Form}
use Rattle.kif_tree.specs.declared.place.Located.{Located}
use Rattle.kif_tree.specs.declared.place.Place.{Place}
use Rattle.signatures.specs.Nearest.{IsBefore}
use Rattle.signatures.specs.Relations.{is_shown}
use Rattle.diagnose.specs.declared.diagnostic.Diagnostic.{Diagnostic}
use Rattle.diagnose.specs.Words.{HasNoParent, HasNoDocumentation, HasDisjointParents, HasUnstatedArity}
use Rattle.diagnose.specs.Arguments.{HasWrongType, HasWrongCount}
use Rattle.diagnose.specs.Variables.{HasUnquantified, HasUnused}

-- a diagnostic of a word
abbrev pub IsOfWord : List Located → Diagnostic → Type 0
IsOfWord forms d =
    ((d.code ≡ 1) × HasNoParent forms d.place d.term d.other)
    ⊎ (((d.code ≡ 2) × HasNoDocumentation forms d.place d.term d.other)
    ⊎ (((d.code ≡ 3) × HasDisjointParents forms d.place d.term d.other)
    ⊎ ((d.code ≡ 11) × HasUnstatedArity forms d.place d.term d.other)))

-- of the arguments of a form's lists
abbrev pub IsOfArguments : List Located → Form → Diagnostic → Type 0
IsOfArguments forms f d = ((d.code ≡ 4) × HasWrongType forms f d.term d.other) ⊎ ((d.code ≡ 5) × HasWrongCount forms f d.term d.other)

-- of the form's variables
abbrev pub IsOfVariables : Form → Diagnostic → Type 0
IsOfVariables f d = ((d.code ≡ 6) × HasUnquantified f d.term d.other) ⊎ ((d.code ≡ 7) × HasUnused f d.term d.other)

abbrev pub IsOfForm : List Located → Form → Diagnostic → Type 0
IsOfForm forms f d = IsOfArguments forms f d ⊎ IsOfVariables f d

-- a form that isn't only shown stands at its place
pub record IsInForm (forms : List Located) (d : Diagnostic) : Type 0 where
  pub f : Form
  pub among : Contains forms (record { form = f; place = d.place })
  pub not_shown : is_shown f ≡ false
  pub of_form : IsOfForm forms f d

abbrev pub IsDiagnostic : List Located → Diagnostic → Type 0
IsDiagnostic forms d = IsOfWord forms d ⊎ IsInForm forms d

-- ---- their order

-- a form stands at the first place, and one that comes later at the second
pub record StandsBefore (forms : List Located) (first second : Place) : Type 0 where
  pub before : List Located
  pub one : Form
  pub between : List Located
  pub other : Form
  pub after : List Located
  pub stand : forms ≡ before ++ record { form = one; place = first } ∷ (between ++ record { form = other; place = second } ∷ after)

-- none stands before any place
abbrev pub OtherBefore : List Located → Option Place → Option Place → Type 0
OtherBefore forms None (Some second) = Unit {0}
OtherBefore forms (Some first) (Some second) = StandsBefore forms first second
OtherBefore forms _ None = ⊥

-- by the form, the code, the term's bytes and then the other place
abbrev pub ComesBefore : List Located → Diagnostic → Diagnostic → Type 0
ComesBefore forms a b =
    StandsBefore forms a.place b.place
    ⊎ ((a.place ≡ b.place) × ((a.code < b.code)
    ⊎ ((a.code ≡ b.code) × (IsBefore a.term b.term
    ⊎ ((a.term ≡ b.term) × OtherBefore forms a.other b.other)))))

-- each comes before those that follow it
abbrev pub AreAscending : List Located → List Diagnostic → Type 0
AreAscending forms [] = Unit {0}
AreAscending forms (d ∷ list) = Each (ComesBefore forms d) list × AreAscending forms list

-- all diagnostics of the forms, in order, each once
pub record AreDiagnostics (forms : List Located) (list : List Diagnostic) : Type 0 where
  pub ascending : AreAscending forms list
  pub exactly : (d : Diagnostic) → Contains list d ↔ IsDiagnostic forms d
