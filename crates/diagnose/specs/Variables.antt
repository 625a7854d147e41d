-- Variables that are free where they should be quantified, or quantified where they aren't free.
use Rattle.std.specs.Prelude.{◌≡◌, ◌⊎◌, [], ◌∷◌, codes, Option, None, Contains}
use Rattle.kif_tree.specs.Terms.{Bytes}
use Rattle.kif_tree.specs.Names.{free, lists, bound}
use Rattle.kif_tree.specs.declared.form.Form.{Form}
use Rattle.kif_tree.specs.declared.form.Form.TheVariants as form
use Rattle.kif_tree.specs.declared.place.Place.{Place}

-- the variable is free in the form
abbrev pub IsFree : Form → Bytes → Type 0
IsFree f name = Contains (free f) (form.Variable name)

-- it is free in the first form and not in the second
abbrev pub IsFreeOnlyIn : Form → Form → Bytes → Type 0
IsFreeOnlyIn f other name = IsFree f name × (IsFree other name → ⊥)

-- a variable with its prefix
abbrev pub with_prefix : Bytes → Bytes
with_prefix name = 63 ∷ name

abbrev pub implication : Bytes → Form → Form → Form
implication word first second = form.List (form.Word word ∷ first ∷ second ∷ [])

-- free in the second part of an implication and not in the first, or in just one part of an equivalence
pub record HasUnquantified (f : Form) (term : Bytes) (other : Option Place) : Type 0 where
  pub first : Form
  pub second : Form
  pub name : Bytes
  pub free_in_one :
      ((f ≡ implication (codes "=>") first second) × IsFreeOnlyIn second first name)
      ⊎ ((f ≡ implication (codes "<=>") first second) × (IsFreeOnlyIn first second name ⊎ IsFreeOnlyIn second first name))
  pub names : term ≡ with_prefix name
  pub alone : other ≡ None

-- quantified, and not free in the quantifier's body
pub record HasUnused (f : Form) (term : Bytes) (other : Option Place) : Type 0 where
  pub quantifier : Form
  pub variables : Form
  pub body : Form
  pub list : Contains (lists f) (quantifier ∷ variables ∷ body ∷ [])
  pub name : Bytes
  pub quantified : Contains (bound (quantifier ∷ variables ∷ body ∷ [])) (form.Variable name)
  pub unused : IsFree body name → ⊥
  pub names : term ≡ with_prefix name
  pub alone : other ≡ None
