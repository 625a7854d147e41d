-- Subsumption: a filling sends different literals of one clause to different literals of another.
use Rattle.std.specs.Prelude.{◌≡◌, ℕ, List, [], ◌∷◌, map, Bool, Some}
use Rattle.std.specs.Borrow.{Bor}
use Rattle.kif_tree.specs.declared.clause.Literal.{Literal}
use Rattle.kif_tree.specs.declared.subst.Pair.{Pair}
use Rattle.kif_tree.specs.Terms.{variables}
use Rattle.kif_tree.specs.Subst.{Filling}
use Rattle.kif_tree.specs.Clauses.{Literals, bind_literal, bind_clause}
use Rattle.calculus.specs.Rules.{Picked, pick, others}
use Rattle.unify.specs.Bindings.{Agrees}
use Rattle.unify.specs.Matching.{Tried}

-- the literal is one of the clause, and what is wanted holds of the clause's other literals
pub record StandsBeside (literal : Literal) (Rest : Literals → Type 0) (clause : Literals) : Type 0 where
  pub place : ℕ
  pub found : Picked Literal
  pub at : pick clause place ≡ Some found
  pub is : found.chosen ≡ literal
  pub rest : Rest (others found)

-- the literals are literals of the clause, each at a place of its own
abbrev pub Stand : Literals → Literals → Type 0
Stand [] clause = Unit {0}
Stand (literal ∷ literals) clause = StandsBeside literal (Stand literals) clause

-- the filling sends the literals of the first clause to literals of the second, different ones to different ones
abbrev pub Sends : Filling → Literals → Literals → Type 0
Sends g general special = Stand (bind_clause g general) special

pub record Subsumes (general special : Literals) : Type 0 where
  pub by : Filling
  pub sends : Sends by general special

-- the literals behind references
abbrev pub behind : List (Bor Literal) → Literals
behind references = map (λ (reference : Bor Literal). reference.now) references

-- ---- on the way, where some variables are bound already

pub record SubsumesUnder (pairs : List Pair) (general special : Literals) : Type 0 where
  pub by : Filling
  pub agrees : Agrees by pairs
  pub sends : Sends by general special

-- one literal was matched onto another one, or nothing does so under the old pairs
abbrev pub Placed : List Pair → List Pair → Literal → Literal → Bool → Type 0
Placed old new literal other = Tried old new (λ g. bind_literal g literal ≡ other) (variables literal.atom)

-- the same with one more literal, which becomes the literal of that number
pub record SendsAt (pairs : List Pair) (literal : Literal) (rest free : Literals) (place : ℕ) : Type 0 where
  pub by : Filling
  pub agrees : Agrees by pairs
  pub found : Picked Literal
  pub at : pick free place ≡ Some found
  pub is : bind_literal by literal ≡ found.chosen
  pub sends : Sends by rest (others found)
