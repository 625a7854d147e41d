-- What a search begins with.
use Rattle.std.specs.Prelude.{ℕ, suc, ◌+◌, List, [], ◌∷◌, ◌++◌, Bool, true, false, ◌||◌, Option, Some, None, is_some}
use Rattle.std.specs.List.{list_any}
use Rattle.kif_tree.specs.declared.form.Form.{Form}
use Rattle.kif_tree.specs.declared.clause.InputClause.{InputClause}
use Rattle.kif_tree.specs.declared.place.Place.{Place}
use Rattle.kif_tree.specs.Clauses.{Literals}
use Rattle.calculus.specs.Rules.{nth, sides}
use Rattle.calculus.specs.Answers.{reflexivity_input}
use Rattle.infer.specs.Checks.{clauses_of}

-- (equal s t) of just two arguments
abbrev pub is_equality : Form → Bool
is_equality atom = is_some (sides atom)

-- in a literal of either sign
abbrev pub has_equality : Literals → Bool
has_equality clause = list_any (λ literal. is_equality literal.atom) clause

-- (equal ?X1 ?X1), where an equality occurs
abbrev pub reflexivity_inputs : Bool → List InputClause
reflexivity_inputs true = record { clause = reflexivity_input; place = None; variant = 0 } ∷ []
reflexivity_inputs false = []

-- the clauses of the query, numbered from there
abbrev pub numbered_inputs : ℕ → List Literals → List InputClause
numbered_inputs n [] = []
numbered_inputs n (clause ∷ clauses) = record { clause = clause; place = None; variant = n } ∷ numbered_inputs (n + 1) clauses

abbrev pub needs_reflexivity : List InputClause → List Literals → Bool
needs_reflexivity set query = list_any has_equality (clauses_of set) || list_any has_equality query

-- the axioms, reflexivity where an equality occurs in them or in the query, and the clauses of the query
abbrev pub search_inputs : List InputClause → List Literals → List InputClause
search_inputs set query = set ++ (reflexivity_inputs (needs_reflexivity set query) ++ numbered_inputs 1 query)

-- ---- clauses of the query

-- without a place, the reflexivity clause is variant 0, and clauses of the query are variants from 1
abbrev pub is_of_query : Option Place → ℕ → Bool
is_of_query None (suc n) = true
is_of_query _ _ = false

abbrev pub is_query_input : Option InputClause → Bool
is_query_input None = false
is_query_input (Some input) = is_of_query input.place input.variant

abbrev pub is_query_number : List InputClause → ℕ → Bool
is_query_number inputs number = is_query_input (nth inputs number)
