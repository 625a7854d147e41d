-- Occurrences as the walk over a form finds them.
use Rattle.std.specs.Prelude.{ℕ, List, [], ◌∷◌, map}
use Rattle.kif_tree.specs.declared.form.Form.{Form, out-Form}
use Rattle.kif_tree.specs.declared.form.Form.TheVariants as form
use Rattle.kif_tree.specs.Terms.{Bytes}
use Rattle.kif_tree.specs.Profile.{operands}
use Rattle.type_guard.specs.Occurrences as spec
use Rattle.type_guard.specs.Occurrences.{Occurrence, Part, occurrences}
use Rattle.type_guard.specs.declared.occurrences.VariableAt.{VariableAt}

abbrev pub read : VariableAt → Occurrence
read found = record { variable = form.Variable found.variable.now; head = found.head.now; argument = found.argument }

abbrev pub all : List VariableAt → List Occurrence
all found = map read found

-- the part beside the occurrences in it
abbrev pub with_occurrences : Form → Part
with_occurrences f = (f, occurrences f)

abbrev pub of_argument : Bytes → ℕ → Form → List Occurrence
of_argument head argument f = spec.of_argument head argument (with_occurrences f)

abbrev pub of_arguments : Bytes → ℕ → List Form → List Occurrence
of_arguments head argument fs = spec.of_arguments head argument (map with_occurrences fs)

-- the occurrences at and in the operands of a list of these parts, whatever it quantifies
abbrev pub under_head : List Form → List Occurrence
under_head [] = []
under_head (head ∷ arguments) = spec.of_parts (out-Form head) (map with_occurrences (operands (head ∷ arguments)))
