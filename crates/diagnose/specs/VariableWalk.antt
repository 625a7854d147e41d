-- Variables as a walk over a form collects them.
use Rattle.std.specs.Prelude.{◌≡◌, ◌||◌, ℕ, List, Bool, true, false, None}
use Rattle.std.specs.List.{list_any}
use Rattle.kif_tree.specs.Names.{free}
use Rattle.kif_tree.specs.Shape.{is_among}
use Rattle.kif_tree.specs.Terms.{Bytes, same}
use Rattle.kif_tree.specs.declared.form.Form.{Form}
use Rattle.kif_tree.specs.declared.form.Form.TheVariants as form
use Rattle.kif_tree.specs.declared.place.Place.{Place}
use Rattle.diagnose.specs.Variables.{with_prefix, HasUnused}
use Rattle.diagnose.specs.Diagnostics.{IsOfVariables}
use Rattle.diagnose.specs.declared.diagnostic.Diagnostic.{Diagnostic}

-- the variable is one of these forms
abbrev pub is_listed : List Form → Bytes → Bool
is_listed names name = list_any (same (form.Variable name)) names

-- the variable is free in the form
abbrev pub is_free : Form → Bytes → Bool
is_free f name = is_listed (free f) name

-- it is free in one of the forms
abbrev pub is_free_in : List Form → Bytes → Bool
is_free_in forms name = list_any (λ f. is_free f name) forms

-- just the names that pass the test were added
abbrev pub Collects : (Bytes → Bool) → List Bytes → List Bytes → Type 0
Collects test old new = (name : Bytes) → is_among new name ≡ (is_among old name || test name)

-- what is said of a variable
abbrev pub fault : ℕ → Place → Bytes → Diagnostic
fault code place name = record { code = code; place = place; term = with_prefix name; other = None }

-- said of a variable that passes the first test and not the second
pub record IsOnlyIn (code : ℕ) (place : Place) (one other : Bytes → Bool) (d : Diagnostic) : Type 0 where
  pub name : Bytes
  pub in_one : one name ≡ true
  pub not_in_other : other name ≡ false
  pub is : d ≡ fault code place name

-- a fault of the form's quantifiers
abbrev pub IsUnusedAt : Place → Form → Diagnostic → Type 0
IsUnusedAt place f d = (d.place ≡ place) × ((d.code ≡ 7) × HasUnused f d.term d.other)

-- a fault of the form's variables
abbrev pub IsFaultAt : Place → Form → Diagnostic → Type 0
IsFaultAt place f d = (d.place ≡ place) × IsOfVariables f d
