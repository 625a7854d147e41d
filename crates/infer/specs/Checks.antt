-- What checked derivations are.
use Rattle.std.specs.Prelude.{◌≡◌, ℕ, List, map, take, true, Some, None}
use Rattle.std.specs.List.{list_all}
use Rattle.sigma_base.specs.Lists.{Each}
use Rattle.kif_tree.specs.declared.form.Form.{Form}
use Rattle.kif_tree.specs.declared.subst.Pair.{Pair}
use Rattle.kif_tree.specs.declared.clause.InputClause.{InputClause}
use Rattle.kif_tree.specs.Terms.{is_ground}
use Rattle.kif_tree.specs.Subst.{value_of}
use Rattle.kif_tree.specs.Clauses.{Literals, bare}
use Rattle.calculus.specs.declared.step.Step.{Step}
use Rattle.calculus.specs.Truth.{satisfies, satisfies_all}
use Rattle.calculus.specs.Rules.{nth, clause_of, Derivation}
use Rattle.calculus.specs.Closed.{clean_in, rowless_clause}
use Rattle.calculus.specs.Evidence.{evidence, uses}
use Rattle.calculus.specs.Answers.{IsEvidence, UseAnswers}

abbrev pub clauses_of : List InputClause → List Literals
clauses_of inputs = map (λ (input : InputClause). input.clause) inputs

-- the steps before that number derive clauses, from which its step concludes nothing
pub record IsBadStep (inputs : List Literals) (steps : List Step) (number : ℕ) : Type 0 where
  pub step : Step
  pub at : nth steps number ≡ Some step
  pub clauses : List Literals
  pub derived : Derivation inputs (take number steps) clauses
  pub refused : clause_of inputs step clauses ≡ None

-- a ground substitution
abbrev pub IsGroundSubst : List Pair → Type 0
IsGroundSubst pairs = list_all (λ (pair : Pair). is_ground pair.term) pairs ≡ true

-- where no row variable occurs, each member of the evidence is a ground instance of an input without its answer literals, or of equality
abbrev pub HasGroundEvidence : List Literals → List Step → List Literals → Type 0
HasGroundEvidence inputs steps clauses =
    list_all rowless_clause inputs ≡ true → list_all clean_in steps ≡ true
    → (n : ℕ) (pairs : List Pair) → IsGroundSubst pairs → Each (IsEvidence inputs) (evidence inputs steps clauses n (value_of pairs))

-- each truth assignment that satisfies the evidence of a clause satisfies the clause's ground instance
abbrev pub FollowsFromEvidence : List Literals → List Step → List Literals → Type 0
FollowsFromEvidence inputs steps clauses =
    (n : ℕ) (clause : Literals) → nth clauses n ≡ Some clause → (pairs : List Pair) → IsGroundSubst pairs → (atoms : List Form)
    → satisfies_all atoms (evidence inputs steps clauses n (value_of pairs)) ≡ true → satisfies atoms (bare clause (value_of pairs)) ≡ true

-- the answer literals of each input that is used are answer literals of the clause, both filled in
abbrev pub KeepsAnswers : List Literals → List Step → List Literals → Type 0
KeepsAnswers inputs steps clauses =
    (n : ℕ) (clause : Literals) → nth clauses n ≡ Some clause → (pairs : List Pair) → IsGroundSubst pairs
    → Each (UseAnswers inputs clause (value_of pairs)) (uses steps clauses n (value_of pairs))
