-- Words of told `subclass` forms, as they stand in forms.
use Rattle.std.specs.Prelude.{◌≡◌, ◌⊎◌, List, [], ◌∷◌, codes, Contains}
use Rattle.kif_tree.specs.Terms.{Bytes}
use Rattle.kif_tree.specs.declared.form.Form.{Form}
use Rattle.kif_tree.specs.declared.form.Form.TheVariants as form
use Rattle.kif_tree.specs.declared.place.Located.{Located}

abbrev pub subclass_form : Bytes → Bytes → Form
subclass_form low high = form.List (form.Word (codes "subclass") ∷ form.Word low ∷ form.Word high ∷ [])

-- the form tells a subclass, and the word is one of its two
pub record IsOfSubclassForm (f : Form) (word : Bytes) : Type 0 where
  pub low : Bytes
  pub high : Bytes
  pub tells : f ≡ subclass_form low high
  pub has : (low ≡ word) ⊎ (high ≡ word)

-- one of the forms is such a form
pub record HasSubclassForm (forms : List Located) (word : Bytes) : Type 0 where
  pub located : Located
  pub among : Contains forms located
  pub of_form : IsOfSubclassForm located.form word
