-- Matrices: their clauses, and when they are true.
use Rattle.std.specs.Prelude.{List, [], ◌∷◌, ◌++◌, map, Bool}
use Rattle.std.specs.List.{list_all, list_any, flat_map}
use Rattle.kif_tree.specs.declared.form.Form.{Form}
use Rattle.kif_tree.specs.Subst.{Filling}
use Rattle.kif_tree.specs.Clauses.{Literals, bind_literal}
use Rattle.calculus.specs.Truth.{holds}
use Rattle.clause_form.specs.declared.matrix.Matrix.{Matrix, fold-Matrix}
use Rattle.clause_form.specs.declared.matrix.Matrix.TheOpen.{Matrix-F}

-- ---- clauses

-- for each clause of the first and then each clause of the rest, their literals in order
abbrev pub products : List (List Literals) → List Literals
products [] = [] ∷ []
products (clauses ∷ more) = flat_map (λ clause. map (λ rest. clause ++ rest) (products more)) clauses

abbrev pub joined : List (List Literals) → List Literals
joined [] = []
joined (clauses ∷ more) = clauses ++ joined more

abbrev pub distribution_step : Matrix-F (List Literals) → List Literals
distribution_step (Matrix-F.Literal literal) = (literal ∷ []) ∷ []
distribution_step (Matrix-F.Conjunction parts) = joined parts
distribution_step (Matrix-F.Disjunction parts) = products parts

-- a literal is one clause; a conjunction has the clauses of its parts, and a disjunction one for each choice of a clause of each part
unfoldable pub distribution : Matrix → List Literals
distribution = fold-Matrix (List Literals) distribution_step

-- ---- truth

abbrev pub truth_step : List Form → Filling → Matrix-F Bool → Bool
truth_step atoms g (Matrix-F.Literal literal) = holds atoms (bind_literal g literal)
truth_step atoms g (Matrix-F.Conjunction parts) = list_all (λ part. part) parts
truth_step atoms g (Matrix-F.Disjunction parts) = list_any (λ part. part) parts

-- whether the matrix is true where these atoms are, its variables filled in
unfoldable pub is_true_matrix : List Form → Filling → Matrix → Bool
is_true_matrix atoms g = fold-Matrix Bool (truth_step atoms g)
