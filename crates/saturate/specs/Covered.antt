-- Clauses that a search needn't keep: tautologies, and clauses that a kept one subsumes.
use Rattle.std.specs.Prelude.{◌≡◌, ◌⊎◌, ℕ, List, Bool, true, not, ◌&&◌, Some}
use Rattle.std.specs.List.{list_any}
use Rattle.kif_tree.specs.declared.clause.Literal.{Literal}
use Rattle.kif_tree.specs.Terms.{same}
use Rattle.kif_tree.specs.Clauses.{Literals, same_sign}
use Rattle.calculus.specs.Rules.{nth}
use Rattle.calculus.specs.Answers.{Among}
use Rattle.unify.specs.Subsumption.{Subsumes}

-- one atom with both signs
abbrev pub are_opposite : Literal → Literal → Bool
are_opposite first second = not (same_sign first.positive second.positive) && same first.atom second.atom

-- an atom stands in the clause with both signs
abbrev pub is_tautology : Literals → Bool
is_tautology clause = list_any (λ first. list_any (are_opposite first) clause) clause

-- one of the clauses with these numbers subsumes the clause
pub record IsSubsumed (clauses : List Literals) (numbers : List ℕ) (clause : Literals) : Type 0 where
  pub number : ℕ
  pub among : Among number numbers
  pub general : Literals
  pub at : nth clauses number ≡ Some general
  pub subsumes : Subsumes general clause

-- a tautology, or subsumed by one of the clauses with these numbers
abbrev pub IsNeedless : List Literals → List ℕ → Literals → Type 0
IsNeedless clauses numbers clause = (is_tautology clause ≡ true) ⊎ IsSubsumed clauses numbers clause
