-- The printed texts of forms, literals, clauses and places.
use Rattle.std.specs.Prelude.{ℕ, ◌==◌, List, [], ◌∷◌, ◌++◌, map, ◌||◌, if◌then◌else◌, codes, decimal}
use Rattle.std.specs.List.{flat_map}
use Rattle.kif_tree.specs.declared.form.Form.{Form, fold-Form}
use Rattle.kif_tree.specs.declared.form.Form.TheOpen.{Form-F}
use Rattle.kif_tree.specs.declared.clause.Literal.{Literal}
use Rattle.kif_tree.specs.declared.place.Place.{Place}
use Rattle.kif_tree.specs.declared.place.LoadName.{LoadName}
use Rattle.kif_tree.specs.Terms.{Bytes}

-- a quote and a backslash have a backslash before them
abbrev pub escaped_byte : ℕ → Bytes
escaped_byte byte = if byte == 34 || byte == 92 then 92 ∷ byte ∷ [] else byte ∷ []

abbrev pub after_blank : Bytes → Bytes
after_blank text = 32 ∷ text

-- the texts with single blanks between them
abbrev pub spaced : List Bytes → Bytes
spaced [] = []
spaced (text ∷ texts) = text ++ flat_map after_blank texts

abbrev pub form_step : Form-F Bytes → Bytes
form_step (Form-F.Word text) = text
form_step (Form-F.Variable text) = 63 ∷ text
form_step (Form-F.Row text) = 64 ∷ text
form_step (Form-F.Numeral text) = text
form_step (Form-F.Quoted text) = (34 ∷ flat_map escaped_byte text) ++ 34 ∷ []
form_step (Form-F.List texts) = (40 ∷ spaced texts) ++ 41 ∷ []

-- a form as SUO-KIF spells it, with single blanks and the two escapes
unfoldable pub form_text : Form → Bytes
form_text = fold-Form Bytes form_step

abbrev pub literal_text : Literal → Bytes
literal_text literal = if literal.positive then form_text literal.atom else (codes "(not " ++ form_text literal.atom) ++ 41 ∷ []

-- no literal prints as false, one as itself, more as a disjunction
abbrev pub clause_text : List Literal → Bytes
clause_text [] = codes "false"
clause_text (literal ∷ []) = literal_text literal
clause_text (first ∷ second ∷ more) = (codes "(or " ++ spaced (map literal_text (first ∷ second ∷ more))) ++ 41 ∷ []

-- the name of a load: of several entries with its number the first counts, and without one it is empty
abbrev pub name_of : List LoadName → ℕ → Bytes
name_of [] number = []
name_of (entry ∷ names) number = if entry.number == number then entry.name else name_of names number

-- NAME:LINE:COLUMN
abbrev pub place_text : List LoadName → Place → Bytes
place_text names place = name_of names place.constituent ++ 58 ∷ (decimal place.line ++ 58 ∷ decimal place.column)
