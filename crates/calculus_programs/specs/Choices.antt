-- The trial of truth assignments over a list of atoms.
use Rattle.std.specs.Prelude.{List, [], ◌∷◌, ◌++◌, Bool, ◌||◌, if◌then◌else◌}
use Rattle.kif_tree.specs.declared.form.Form.{Form}
use Rattle.kif_tree.specs.Clauses.{Literals}
use Rattle.calculus.specs.Truth.{is_true, satisfies_all}

-- the atoms so far, and then each further atom of the clause once
abbrev pub gathered : List Form → Literals → List Form
gathered atoms [] = atoms
gathered atoms (literal ∷ clause) = gathered (if is_true atoms literal.atom then atoms else atoms ++ literal.atom ∷ []) clause

abbrev pub gathered_all : List Form → List Literals → List Form
gathered_all atoms [] = atoms
gathered_all atoms (clause ∷ clauses) = gathered_all (gathered atoms clause) clauses

-- some of the further atoms, together with those chosen, satisfy the clauses
abbrev pub some_choice : List Literals → List Form → List Form → Bool
some_choice clauses chosen [] = satisfies_all chosen clauses
some_choice clauses chosen (atom ∷ further) = some_choice clauses chosen further || some_choice clauses (chosen ++ atom ∷ []) further
