-- What is concluded at each site, under most general substitutions.
use Rattle.std.specs.Prelude.{◌≡◌, ◌⊎◌, ℕ, List, [], ◌∷◌, ◌++◌, Bool, Option, Some, None}
use Rattle.sigma_base.specs.Lists.{Each}
use Rattle.kif_tree.specs.declared.subst.Subst.{Subst}
use Rattle.kif_tree.specs.Subst.{Filling, lookup, bind}
use Rattle.kif_tree.specs.Clauses.{Literals, clause_variables}
use Rattle.calculus.specs.declared.step.Step.{Step}
use Rattle.calculus.specs.Rules.{nth, concluded, Concludes}
use Rattle.calculus.specs.Evidence.{list_from}
use Rattle.infer.specs.declared.conclusion.Conclusion.{Conclusion}
use Rattle.infer.specs.Sites.{site_of, conclusion_sites, factor_sites}

-- ---- steps that are another one, followed by a filling

-- the second substitution gives the variables of the clause what the first one followed by the filling does
abbrev pub IsTurned : Filling → Literals → Subst → Subst → Type 0
IsTurned next clause first second = Each (λ name. lookup second.pairs name ≡ bind next (lookup first.pairs name)) (clause_variables clause)

abbrev pub clause_at : List Literals → ℕ → Literals
clause_at clauses n = list_from (nth clauses n) (λ clause. clause)

abbrev pub AreTurned : List Literals → Filling → Step → Step → Type 0
AreTurned clauses next (Step.Resolve left i f right j g) (Step.Resolve left_2 i_2 f_2 right_2 j_2 g_2) =
    IsTurned next (clause_at clauses left) f f_2 × IsTurned next (clause_at clauses right) g g_2
AreTurned clauses next (Step.Factor parent i j f) (Step.Factor parent_2 i_2 j_2 f_2) = IsTurned next (clause_at clauses parent) f f_2
AreTurned clauses next (Step.Paramodulate source i flipped f target j path g) (Step.Paramodulate source_2 i_2 flipped_2 f_2 target_2 j_2 path_2 g_2) =
    IsTurned next (clause_at clauses source) f f_2 × IsTurned next (clause_at clauses target) g g_2
AreTurned clauses next _ _ = ⊥

-- each substitution of the second step is that of the first one followed by one filling
pub record Generalizes (clauses : List Literals) (first second : Step) : Type 0 where
  pub next : Filling
  pub turned : AreTurned clauses next first second

-- ---- one site

-- a conclusion by a step there that is more general than every other one there
pub record IsConclusionAt (clauses : List Literals) (site : Step) (conclusion : Conclusion) : Type 0 where
  pub at : site_of conclusion.step ≡ site
  pub concludes : Concludes conclusion.step clauses conclusion.clause
  pub general : (other : Step) (clause : Literals) → site_of other ≡ site → Concludes other clauses clause → Generalizes clauses conclusion.step other

-- no step there concludes anything
abbrev pub GivesNothing : List Literals → Step → Type 0
GivesNothing clauses site = (step : Step) → site_of step ≡ site → concluded step clauses ≡ None

abbrev pub IsFoundAt : List Literals → Step → Option Conclusion → Type 0
IsFoundAt clauses site None = GivesNothing clauses site
IsFoundAt clauses site (Some conclusion) = IsConclusionAt clauses site conclusion

-- ---- lists of sites

pub record BeginsWith (clauses : List Literals) (site : Step) (Rest : List Conclusion → Type 0) (found : List Conclusion) : Type 0 where
  pub first : Conclusion
  pub rest : List Conclusion
  pub is : found ≡ first ∷ rest
  pub concludes : IsConclusionAt clauses site first
  pub more : Rest rest

-- the conclusions at the sites, in their order; a site gives one or nothing
abbrev pub AreAt : List Literals → List Step → List Conclusion → Type 0
AreAt clauses [] found = found ≡ []
AreAt clauses (site ∷ sites) found = (GivesNothing clauses site × AreAt clauses sites found) ⊎ BeginsWith clauses site (AreAt clauses sites) found

abbrev pub AreConclusions : Literals → Literals → Bool → List Conclusion → Type 0
AreConclusions given partner same = AreAt (given ∷ partner ∷ []) (conclusion_sites given partner same)

abbrev pub AreFactors : Literals → List Conclusion → Type 0
AreFactors given = AreAt (given ∷ []) (factor_sites given)

-- those at the sites were added at the end
pub record Adds (clauses : List Literals) (sites : List Step) (old new : List Conclusion) : Type 0 where
  pub more : List Conclusion
  pub is : new ≡ old ++ more
  pub are : AreAt clauses sites more
