-- Laws of the definitions.
use Rattle.std.specs.Prelude.{◌≡◌, ◌↔◌, List, ◌∷◌, map, Some}
use Rattle.kif_tree.specs.declared.form.Form.{Form}
use Rattle.kif_tree.specs.declared.form.Form.TheVariants as form
use Rattle.kif_tree.specs.Terms.{Bytes}
use Rattle.taxonomy.specs.Told.{told_words}

-- a form tells one or more words exactly where it is the list of these words
abbrev pub TellsItsWords : Type 0
TellsItsWords = (f : Form) (text : Bytes) (texts : List Bytes) → (told_words f ≡ Some (text ∷ texts)) ↔ (f ≡ form.List (map form.Word (text ∷ texts)))
