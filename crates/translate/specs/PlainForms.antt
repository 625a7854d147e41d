-- Plain forms: a word before words, numerals and strings. Each gives one clause, itself.
use Rattle.std.specs.Prelude.{◌≡◌, List, [], ◌∷◌, Bool, true, false, Some}
use Rattle.std.specs.List.{list_all}
use Rattle.kif_tree.specs.declared.form.Form.{Form, out-Form}
use Rattle.kif_tree.specs.declared.form.Form.TheOpen.{Form-F}
use Rattle.kif_tree.specs.declared.form.Form.TheVariants as form
use Rattle.kif_tree.specs.declared.place.Located.{Located}
use Rattle.kif_tree.specs.Shape.{is_among, logical_words}
use Rattle.kif_tree.specs.Terms.{Bytes}
use Rattle.calculus.specs.Equality.{yes}
use Rattle.translate.specs.declared.translated.Translated.{Translated}

abbrev pub is_constant_layer : Form-F Form → Bool
is_constant_layer (Form-F.Word text) = true
is_constant_layer (Form-F.Variable text) = false
is_constant_layer (Form-F.Row text) = false
is_constant_layer (Form-F.Numeral text) = true
is_constant_layer (Form-F.Quoted text) = true
is_constant_layer (Form-F.List parts) = false

-- a word, a numeral or a string
abbrev pub is_constant : Form → Bool
is_constant f = is_constant_layer (out-Form f)

-- a word that isn't logical stands before words, numerals and strings
pub record IsPlainForm (f : Form) : Type 0 where
  pub head : Bytes
  pub arguments : List Form
  pub plain : is_among logical_words head ≡ false
  pub constant : list_all is_constant arguments ≡ true
  pub is : f ≡ form.List (form.Word head ∷ arguments)

-- the form is its one variant, and the variant's one clause has the form as its one literal
abbrev pub itself : Located → Translated
itself located = record {
  inputs = record { clause = yes located.form ∷ []; place = Some located.place; variant = 1 } ∷ [];
  guarded = record { form = located.form; place = located.place; variant = 1 } ∷ [];
  left_out = [];
}
