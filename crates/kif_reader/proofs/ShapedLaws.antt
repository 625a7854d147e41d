-- Forms of a text without a fault of shape are shaped.
use Rattle.std.proofs.Common.{◌≡◌, ℕ, true, None, List, [], ◌∷◌}
use Rattle.std.specs.List.{All}
use Rattle.std.proofs.lemmas.List.Elements.{All-cons, All-nil}
use Rattle.sigma_base.specs.Lists.{Each}
use Rattle.kif_tree.specs.declared.place.Located.{Located}
use Rattle.kif_tree.specs.Shape.{is_shaped, first_forms_fault}
use Rattle.kif_reader.specs.Spelling.{Lexed, SpellsAll, forms_of}
use Rattle.kif_reader.proofs.SpellableLaws.{spelled_shaped}

all_of_each : (P : Located → Type 0) (forms : List Located) → Each P forms → All P forms
all_of_each P [] each = All-nil P
all_of_each P (located ∷ more) each = All-cons P located more each.0 (all_of_each P more each.1)

pub shaped : (constituent : ℕ) (text : List ℕ) (forms : List Located) (tokens : List Lexed) → SpellsAll constituent text forms tokens → first_forms_fault (forms_of forms) ≡ None → All (λ located. is_shaped located.form ≡ true) forms
shaped constituent text forms tokens spelled none = all_of_each (λ located. is_shaped located.form ≡ true) forms (spelled_shaped constituent text forms (record { tokens = tokens; spelled = spelled; shaped = none }))
