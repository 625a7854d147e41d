-- Queries: the clauses of a query's negation, and why a text is no query.
use Rattle.std.specs.Prelude.{◌≡◌, ◌≢◌, ◌⊎◌, ℕ, List, [], ◌∷◌, ◌++◌, map, length, not, Bool, false, if◌then◌else◌, codes, Result, Ok, Err}
use Rattle.std.specs.List.{list_any, flat_map}
use Rattle.kif_tree.specs.declared.form.Form.{Form, out-Form}
use Rattle.kif_tree.specs.declared.place.Located.{Located}
use Rattle.kif_tree.specs.declared.clause.Literal.{Literal}
use Rattle.kif_tree.specs.Terms.{Bytes, variables, has_no_row}
use Rattle.kif_tree.specs.Names.{free_names}
use Rattle.kif_tree.specs.Clauses.{Literals}
use Rattle.kif_tree.specs.Profile.{compounds, is_variable_layer, is_in_profile}
use Rattle.kif_reader.specs.Spelling.{Spells, FirstFault}
use Rattle.kif_reader.specs.declared.kinds.ReadError.{ReadError}
use Rattle.kif_reader.specs.declared.kinds.ReadError.TheVariants as unread
use Rattle.calculus.specs.Answers.{answer_atom}
use Rattle.calculus.specs.Equality.{yes}
use Rattle.calculus.specs.Tidy.{tidy}
use Rattle.clause_form.specs.ClauseForms.{passes_limit, DistributionIsTrue}
use Rattle.clause_form.specs.Matrices.{distribution}
use Rattle.clause_form.specs.Sentences.{IsQueryClause}
use Rattle.sigma_base.specs.Lists.{Each}
use Rattle.clause_form.specs.Readings.{Entered, universal, outermost, nothing, reading}
use Rattle.clause_form.specs.declared.matrix.Matrix.{Matrix}
use Rattle.clause_form.specs.declared.query.QueryClauses.{QueryClauses}
use Rattle.clause_form.specs.declared.query.QueryError.{QueryError}
use Rattle.clause_form.specs.declared.query.QueryError.TheVariants as errors

-- ---- the clauses

-- the free variables in order of their first free occurrence
abbrev pub asked : Form → List Bytes
asked query = flat_map variables (free_names query)

-- they are universal variables around the query
abbrev pub around : Form → Entered
around query = universal (asked query) outermost nothing

-- the matrix of the query's negation
abbrev pub negated_matrix : Form → Matrix
negated_matrix query = (reading (codes "!query") query false (around query).scope (around query).counts).matrix

-- it shows what the asked variables become
abbrev pub answer_literal : Form → Literal
answer_literal query = yes (answer_atom (around query).scope.universals)

abbrev pub with_answer : Form → Literals → Literals
with_answer query clause = clause ++ answer_literal query ∷ []

-- the tidy clauses of the negation, each with the answer literal last
abbrev pub query_clauses : Form → List Literals
query_clauses query = map (λ clause. tidy (with_answer query clause)) (distribution (negated_matrix query))

-- ---- what is refused

abbrev pub begins_with_variable : List Form → Bool
begins_with_variable [] = false
begins_with_variable (head ∷ arguments) = is_variable_layer (out-Form head)

-- a variable heads a list
abbrev pub applies_variable : Form → Bool
applies_variable query = list_any begins_with_variable (compounds query)

-- the first refusal that applies, or the clauses
abbrev pub form_answer : Form → Result QueryClauses QueryError
form_answer query =
    if not (has_no_row query) then Err errors.RowVariable
    else if applies_variable query then Err errors.PredicateVariable
    else if not (is_in_profile query) then Err errors.HigherOrder
    else if passes_limit (distribution (negated_matrix query)) then Err errors.TooManyClauses
    else Ok (record { clauses = query_clauses query; asked = asked query })

abbrev pub forms_answer : List Located → Result QueryClauses QueryError
forms_answer (located ∷ []) = form_answer located.form
forms_answer _ = Err errors.NotOneForm

-- the text spells forms that have this answer
pub record IsFormsAnswer (text : List ℕ) (answer : Result QueryClauses QueryError) : Type 0 where
  pub forms : List Located
  pub spells : Spells 0 text forms
  pub is : answer ≡ forms_answer forms

-- the text has a fault
pub record IsSyntaxAnswer (text : List ℕ) (answer : Result QueryClauses QueryError) : Type 0 where
  pub error : ReadError
  pub first : FirstFault 0 text error
  pub is_fault : error ≢ unread.NoMemory
  pub is : answer ≡ Err (errors.Syntax error)

abbrev pub IsQueryAnswer : List ℕ → Result QueryClauses QueryError → Type 0
IsQueryAnswer text answer = IsFormsAnswer text answer ⊎ IsSyntaxAnswer text answer

-- ---- what the clauses mean

-- the clauses of a text's one form: before answer literals are added and clauses made tidy, they hold together exactly where the matrix of
-- the negation is true
pub record IsQueryOf (text : List ℕ) (found : QueryClauses) : Type 0 where
  pub located : Located
  pub spells : Spells 0 text (located ∷ [])
  pub clauses : found.clauses ≡ query_clauses located.form
  pub asks : found.asked ≡ asked located.form
  pub equivalent : DistributionIsTrue (negated_matrix located.form)
  pub are : Each (IsQueryClause (length (asked located.form))) found.clauses
