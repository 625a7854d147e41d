-- A clause without literals has no sites.
use Rattle.std.proofs.Common.{◌≡◌, ℕ, zero, suc, List, [], ◌∷◌, ◌++◌, length, Bool, true, false, Option, Some, None, refl, sym, ap, ap₂, subst}
use Rattle.kif_tree.specs.Clauses.{Literals}
use Rattle.calculus.specs.declared.step.Step.{Step}
use Rattle.calculus.specs.Rules.{nth}
use Rattle.infer.specs.declared.conclusion.Conclusion.{Conclusion}
use Rattle.infer.specs.Sites.{each_below, conclusion_sites}
use Rattle.infer.specs.Conclusions.{clause_at, AreConclusions, AreFactors, AreAt}
use Rattle.calculus.specs.Evidence.{list_from}
use Rattle.sigma_base.specs.Lists.{Each}
use Rattle.calculus.proofs.PlaceLaws.{some_same}
use Rattle.infer.specs.Plain.{IsPlain}

each_below-none : {X : Type 0} (n : ℕ) → each_below n (λ k. let none : List X = [] in none) ≡ []
each_below-none zero = refl
each_below-none (suc n) = ap (λ xs. xs ++ []) (each_below-none n)

no_sites_left : (partner : Literals) (same : Bool) → conclusion_sites [] partner same ≡ []
no_sites_left partner true = refl
no_sites_left partner false = each_below-none (length partner)

no_sites_right : (given : Literals) (same : Bool) → conclusion_sites given [] same ≡ []
no_sites_right given true = ap₂ (λ (xs ys : List Step). xs ++ (ys ++ [])) (each_below-none (length given)) (each_below-none (length given))
no_sites_right given false = ap₂ (λ (xs ys : List Step). xs ++ (ys ++ [])) (each_below-none (length given)) (each_below-none (length given))

clause_none : (clauses : List Literals) (n : ℕ) → nth clauses n ≡ None → clause_at clauses n ≡ []
clause_none clauses n none = ap (λ (o : Option Literals). list_from o (λ clause. clause)) none

-- where there is no such clause, nothing is concluded
pub none_given : (clauses : List Literals) (given partner : ℕ) (same : Bool) (list : List Conclusion) → nth clauses given ≡ None → list ≡ []
    → AreConclusions (clause_at clauses given) (clause_at clauses partner) same list
none_given clauses given partner same list none is =
    subst (λ (clause : Literals). AreConclusions clause (clause_at clauses partner) same list) (sym (clause_none clauses given none))
    (subst (λ (sites : List Step). AreAt ([] ∷ clause_at clauses partner ∷ []) sites list) (sym (no_sites_left (clause_at clauses partner) same)) is)

pub none_met : (clauses : List Literals) (given partner : ℕ) (same : Bool) (list : List Conclusion) → nth clauses partner ≡ None → list ≡ []
    → AreConclusions (clause_at clauses given) (clause_at clauses partner) same list
none_met clauses given partner same list none is =
    subst (λ (clause : Literals). AreConclusions (clause_at clauses given) clause same list) (sym (clause_none clauses partner none))
    (subst (λ (sites : List Step). AreAt (clause_at clauses given ∷ [] ∷ []) sites list) (sym (no_sites_right (clause_at clauses given) same)) is)

pub none_factored : (clauses : List Literals) (given : ℕ) (list : List Conclusion) → nth clauses given ≡ None → list ≡ []
    → AreFactors (clause_at clauses given) list
none_factored clauses given list none is = subst (λ (clause : Literals). AreFactors clause list) (sym (clause_none clauses given none)) is

-- and otherwise its factors are those of the clause there
pub factored_there : (clauses : List Literals) (given : ℕ) (clause : Literals) (list made : List Conclusion) → nth clauses given ≡ Some clause → list ≡ made
    → AreFactors clause made → AreFactors (clause_at clauses given) list
factored_there clauses given clause list made at is are =
    let there : clause_at clauses given ≡ clause = ap (λ (o : Option Literals). list_from o (λ (c : Literals). c)) at in
    subst (λ (c : Literals). AreFactors c list) (sym there) (subst (AreFactors clause) (sym is) are)

pub plain_at : (clauses : List Literals) (n : ℕ) (clause : Literals) → nth clauses n ≡ Some clause → Each IsPlain clauses → IsPlain clause
plain_at [] n clause at each = let e : None ≡ Some clause = at in absurd (cc)
plain_at (first ∷ clauses) zero clause at each = subst IsPlain (some_same first clause at) each.0
plain_at (first ∷ clauses) (suc n) clause at each = plain_at clauses n clause at each.1
