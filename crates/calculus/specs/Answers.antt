-- Answer literals, the negated query under a binding, and evidence for a query.
use Rattle.std.specs.Prelude.{◌≡◌, List, [], ◌∷◌, map, filter, true, Some, codes, ◌⊎◌}
use Rattle.sigma_base.specs.Lists.{Each}
use Rattle.kif_tree.specs.declared.form.Form.{Form, out-Form}
use Rattle.kif_tree.specs.declared.form.Form.TheVariants as form
use Rattle.kif_tree.specs.declared.form.Form.TheOpen.{Form-F}
use Rattle.kif_tree.specs.declared.clause.Literal.{Literal}
use Rattle.kif_tree.specs.Subst.{Filling, bind}
use Rattle.kif_tree.specs.Clauses.{Literals, bind_literal, bare, is_answer}
use Rattle.calculus.specs.Truth.{Refutes}
use Rattle.calculus.specs.Rules.{nth}
use Rattle.calculus.specs.Closed.{Closes}
use Rattle.calculus.specs.Equality.{yes, reflexivity, IsEqualityInstance}
use Rattle.calculus.specs.Evidence.{Use}

abbrev pub Among : {X : Type 0} → X → List X → Type 0
Among x [] = ⊥
Among x (y ∷ ys) = (x ≡ y) ⊎ Among x ys

-- ---- answer literals

-- the literal is an answer literal of the clause under the filling
pub record Answers (clause : Literals) (g : Filling) (shown : Literal) : Type 0 where
  pub literal : Literal
  pub stands : Among literal clause
  pub answers : is_answer literal.atom ≡ true
  pub is : bind_literal g literal ≡ shown

-- (!answer b1 .. bn)
abbrev pub answer_atom : List Form → Form
answer_atom binding = form.List (form.Word (codes "!answer") ∷ binding)

abbrev pub arguments_of : List Form → List Form
arguments_of [] = []
arguments_of (head ∷ arguments) = arguments

abbrev pub arguments_in : Form-F Form → List Form
arguments_in (Form-F.Word text) = []
arguments_in (Form-F.Variable text) = []
arguments_in (Form-F.Row text) = []
arguments_in (Form-F.Numeral text) = []
arguments_in (Form-F.Quoted text) = []
arguments_in (Form-F.List parts) = arguments_of parts

-- the arguments of a list
abbrev pub arguments : Form → List Form
arguments f = arguments_in (out-Form f)

abbrev pub answers_of : Literals → Literals
answers_of clause = filter (λ literal. is_answer literal.atom) clause

-- the bindings that a clause shows under the filling: one for each answer literal, in order
abbrev pub shown_bindings : Literals → Filling → List (List Form)
shown_bindings clause g = map (λ literal. arguments (bind g literal.atom)) (answers_of clause)

-- ---- evidence

pub record IsInputInstance (inputs : List Literals) (clause : Literals) : Type 0 where
  pub input : Literals
  pub filling : Filling
  pub stands : Among input inputs
  pub closes : Closes filling
  pub is : clause ≡ bare input filling

-- a ground instance of an input, or one of equality
abbrev pub IsEvidence : List Literals → Literals → Type 0
IsEvidence inputs clause = IsInputInstance inputs clause ⊎ IsEqualityInstance clause

-- a member of the negated query for the binding: a query's clause under a ground filling that makes its answer literal (!answer b1 .. bn)
pub record IsNegatedQuery (query_clauses : List Literals) (binding : List Form) (clause : Literals) : Type 0 where
  pub input : Literals
  pub filling : Filling
  pub stands : Among input query_clauses
  pub closes : Closes filling
  pub answers : Answers input filling (yes (answer_atom binding))
  pub is : clause ≡ bare input filling

-- and of the one for some of the bindings
pub record IsNegatedQueryOf (query_clauses : List Literals) (bindings : List (List Form)) (clause : Literals) : Type 0 where
  pub binding : List Form
  pub shown : Among binding bindings
  pub negates : IsNegatedQuery query_clauses binding clause

abbrev pub IsEvidenceMember : List Literals → List Literals → List (List Form) → Literals → Type 0
IsEvidenceMember inputs query_clauses bindings clause =
    IsInputInstance inputs clause ⊎ (IsEqualityInstance clause ⊎ IsNegatedQueryOf query_clauses bindings clause)

-- Evidence for a query under bindings. With no binding no clause of the query takes part, and the inputs contradict each other.
pub record IsEvidenceFor (inputs : List Literals) (query_clauses : List Literals) (bindings : List (List Form)) (list : List Literals) : Type 0 where
  pub members : Each (IsEvidenceMember inputs query_clauses bindings) list
  pub refutes : Refutes list

-- the inputs contradict each other
pub record IsContradiction (inputs : List Literals) (list : List Literals) : Type 0 where
  pub members : Each (IsEvidence inputs) list
  pub refutes : Refutes list

-- ---- the inputs of a search

abbrev pub reflexivity_input : Literals
reflexivity_input = reflexivity (form.Variable (codes "X1"))

abbrev pub IsSearchInput : List Literals → List Literals → Literals → Type 0
IsSearchInput inputs query_clauses clause = Among clause inputs ⊎ ((clause ≡ reflexivity_input) ⊎ Among clause query_clauses)

-- the clause has a positive answer literal
pub record HasAnswer (clause : Literals) : Type 0 where
  pub literal : Literal
  pub stands : Among literal clause
  pub answers : is_answer literal.atom ≡ true
  pub positive : literal.positive ≡ true

-- ---- the inputs that evidence uses

abbrev pub UseAnswers : List Literals → Literals → Filling → Use → Type 0
UseAnswers inputs clause g used =
    (input : Literals) → nth inputs used.input ≡ Some input → (literal : Literal) → Among literal input → is_answer literal.atom ≡ true
    → Answers clause g (bind_literal used.filling literal)

-- a ground instance of an input under a filling of one of those uses
pub record IsUsed (inputs : List Literals) (used : List Use) (clause : Literals) : Type 0 where
  pub of : Use
  pub stands : Among of used
  pub input : Literals
  pub at : nth inputs of.input ≡ Some input
  pub closes : Closes of.filling
  pub is : clause ≡ bare input of.filling

abbrev pub IsOfUses : List Literals → List Use → Literals → Type 0
IsOfUses inputs used clause = IsUsed inputs used clause ⊎ IsEqualityInstance clause
