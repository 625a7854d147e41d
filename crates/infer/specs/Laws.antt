-- Laws of lists of conclusions and of derivations.
use Rattle.std.specs.Prelude.{◌≡◌, ◌⊎◌, ℕ, List, [], ◌∷◌}
use Rattle.kif_tree.specs.Clauses.{Literals}
use Rattle.calculus.specs.declared.step.Step.{Step}
use Rattle.calculus.specs.Rules.{Derivation}
use Rattle.infer.specs.declared.conclusion.Conclusion.{Conclusion}
use Rattle.infer.specs.Sites.{site_of}
use Rattle.infer.specs.Conclusions.{Generalizes, AreAt}
use Rattle.infer.specs.Checks.{IsBadStep}

-- steps at one site, each of which is the other one followed by a filling: they differ in the names of variables
pub record AreVariants (clauses : List Literals) (first second : Step) : Type 0 where
  pub site : site_of first ≡ site_of second
  pub there : Generalizes clauses first second
  pub back : Generalizes clauses second first

-- one clause by steps that are variants
pub record AreAlike (clauses : List Literals) (first second : Conclusion) : Type 0 where
  pub clause : first.clause ≡ second.clause
  pub steps : AreVariants clauses first.step second.step

-- P holds of the items of two lists, one by one and in number
abbrev pub EachTwo : {X : Type 0} → (X → X → Type 0) → List X → List X → Type 0
EachTwo P [] [] = Unit {0}
EachTwo P (x ∷ xs) (y ∷ ys) = P x y × EachTwo P xs ys
EachTwo P _ _ = ⊥

-- two lists of the conclusions at the same sites differ in the names of variables inside substitutions alone
abbrev pub OneList : Type 0
OneList = (clauses : List Literals) (sites : List Step) (first second : List Conclusion)
    → AreAt clauses sites first → AreAt clauses sites second → EachTwo (AreAlike clauses) first second

abbrev pub OneDerivation : Type 0
OneDerivation = (inputs : List Literals) (steps : List Step) (first second : List Literals)
    → Derivation inputs steps first → Derivation inputs steps second → first ≡ second

abbrev pub OneBadStep : Type 0
OneBadStep = (inputs : List Literals) (steps : List Step) (first second : ℕ)
    → IsBadStep inputs steps first → IsBadStep inputs steps second → first ≡ second

-- steps derive clauses, or one of them is the first that isn't allowed, and not both
pub record BadStepOrDerivation : Type 0 where
  pub some : (inputs : List Literals) (steps : List Step)
      → ((clauses : List Literals) × Derivation inputs steps clauses) ⊎ ((number : ℕ) × IsBadStep inputs steps number)
  pub never_both : (inputs : List Literals) (steps : List Step) (clauses : List Literals) (number : ℕ)
      → Derivation inputs steps clauses → IsBadStep inputs steps number → ⊥
