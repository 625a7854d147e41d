-- Truth assignments, and when one satisfies a ground clause.
use Rattle.std.specs.Prelude.{◌≡◌, List, Bool, false, not, if◌then◌else◌}
use Rattle.std.specs.List.{list_all, list_any}
use Rattle.kif_tree.specs.declared.form.Form.{Form}
use Rattle.kif_tree.specs.declared.clause.Literal.{Literal}
use Rattle.kif_tree.specs.Terms.{same}
use Rattle.kif_tree.specs.Clauses.{Literals}

-- A truth assignment is the finite list of the atoms that are true.

abbrev pub is_true : List Form → Form → Bool
is_true atoms atom = list_any (same atom) atoms

abbrev pub holds : List Form → Literal → Bool
holds atoms literal = if literal.positive then is_true atoms literal.atom else not (is_true atoms literal.atom)

-- some literal holds; so no assignment satisfies the clause without literals
abbrev pub satisfies : List Form → Literals → Bool
satisfies atoms clause = list_any (holds atoms) clause

abbrev pub satisfies_all : List Form → List Literals → Bool
satisfies_all atoms clauses = list_all (satisfies atoms) clauses

-- no truth assignment satisfies every clause of the list
abbrev pub Refutes : List Literals → Type 0
Refutes clauses = (atoms : List Form) → satisfies_all atoms clauses ≡ false

-- the literal with the other sign
abbrev pub negation : Literal → Literal
negation literal = record { positive = not literal.positive; atom = literal.atom }
