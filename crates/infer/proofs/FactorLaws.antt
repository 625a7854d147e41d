-- Factors of a clause at one site.
use Rattle.std.proofs.Common.{◌≡◌, ℕ, ◌+◌, ◌<◌, ◌≤◌, List, [], ◌∷◌, length, get_or, Bool, true, false, not, ◌&&◌, Some, None, refl, sym, ap, ap₂, ◌∙◌, subst, arith}
use Rattle.sigma_base.specs.Lists.{Each, each_of_all}
use Rattle.kif_tree.specs.declared.form.Form.TheVariants as form
use Rattle.kif_tree.specs.declared.subst.Subst.{Subst}
use Rattle.kif_tree.specs.declared.clause.Clause.{Clause}
use Rattle.kif_tree.specs.declared.clause.Literal.{Literal}
use Rattle.kif_tree.specs.Terms.{same}
use Rattle.kif_tree.specs.SameLaws.{same-Decides}
use Rattle.kif_tree.specs.Subst.{Filling, bind, lookup}
use Rattle.kif_tree.specs.Clauses.{Literals, bind_clause, clause_variables, is_answer, same_sign}
use Rattle.kif_tree.proofs.SubstLaws.{bind-Variable}
use Rattle.calculus.specs.declared.step.Step.{Step}
use Rattle.calculus.specs.Tidy.{tidy}
use Rattle.calculus.specs.Rules.{after, given, merges, factored, concluded, Concludes}
use Rattle.calculus.proofs.PlaceLaws.{none_some}
use Rattle.calculus.proofs.TruthLaws.{both, false_true}
use Rattle.calculus_programs.proofs.PickLaws.{apart, factored_at, factored_not_before}
use Rattle.unify.specs.Unifiers.{HasNone, IsMostGeneral}
use Rattle.infer.specs.Sites.{site_of, unset, each_below}
use Rattle.infer.specs.Conclusions.{Generalizes, IsConclusionAt, GivesNothing}
use Rattle.infer.proofs.ListLaws.{each_below-each}

-- what holds of the factorings of those literals holds of each step at their site
factor_site : (P : Step → Type 0) (kept dropped : ℕ) → ((f : Subst) → P (Step.Factor 0 kept dropped f)) → (step : Step)
    → site_of step ≡ Step.Factor 0 kept dropped unset → P step
factor_site P kept dropped h (Step.Input i) e = absurd (cc)
factor_site P kept dropped h (Step.Resolve left i f right j g) e = absurd (cc)
factor_site P kept dropped h (Step.Factor parent i j f) e =
    let parents : 0 ≡ parent = cc in
    let kept_ones : kept ≡ i = cc in
    let dropped_ones : dropped ≡ j = cc in
    let steps : Step.Factor 0 kept dropped f ≡ Step.Factor parent i j f = cc in
    subst P steps (h f)
factor_site P kept dropped h (Step.Paramodulate source i flipped f target j path g) e = absurd (cc)

factor_nothing : (clause : Literals) (kept dropped : ℕ) → ((f : Filling) → factored clause kept dropped f ≡ None)
    → GivesNothing (clause ∷ []) (Step.Factor 0 kept dropped unset)
factor_nothing clause kept dropped none =
    factor_site (λ step. concluded step (clause ∷ []) ≡ None) kept dropped (λ f. ap (λ o. after o (λ c. Some (tidy c))) (none (lookup f.pairs)))

-- the kept literal stands before the dropped one
pub factor_in_order : (clause : Literals) (kept dropped : ℕ) → dropped < length clause → dropped ≤ kept
    → GivesNothing (clause ∷ []) (Step.Factor 0 kept dropped unset)
factor_in_order clause kept dropped below order = factor_nothing clause kept dropped (λ f. factored_not_before clause kept dropped f below order)

-- ---- which literals merge

not_both : (a b : Bool) → (a ≡ true → b ≡ true → ⊥) → (a && b) ≡ false
not_both true true h = absurd (h refl refl)
not_both true false h = refl
not_both false b h = refl

record Merge (f : Filling) (k d : Literal) : Type 0 where
  pub signs : same_sign k.positive d.positive ≡ true
  pub kept_asserts : not (is_answer k.atom) ≡ true
  pub dropped_asserts : not (is_answer d.atom) ≡ true
  pub equal : bind f k.atom ≡ bind f d.atom

merge : (f : Filling) (k d : Literal) → merges f k d ≡ true → Merge f k d
merge f k d h =
    let first = both (same_sign k.positive d.positive) (not (is_answer k.atom) && (not (is_answer d.atom) && same (bind f k.atom) (bind f d.atom))) h in
    let second = both (not (is_answer k.atom)) (not (is_answer d.atom) && same (bind f k.atom) (bind f d.atom)) first.1 in
    let third = both (not (is_answer d.atom)) (same (bind f k.atom) (bind f d.atom)) second.1 in
    record { signs = first.0; kept_asserts = second.0; dropped_asserts = third.0; equal = (same-Decides (bind f k.atom) (bind f d.atom)).0 third.1 }

merged : (f : Filling) (k d : Literal) → Merge f k d → merges f k d ≡ true
merged f k d m = ap₂ ◌&&◌ m.signs (ap₂ ◌&&◌ m.kept_asserts (ap₂ ◌&&◌ m.dropped_asserts ((same-Decides (bind f k.atom) (bind f d.atom)).1 m.equal)))

unmerged : (f : Filling) (k d : Literal) → (Merge f k d → ⊥) → merges f k d ≡ false
unmerged f k d never = go (merges f k d) refl
  where
    go : (b : Bool) → merges f k d ≡ b → b ≡ false
    go true e = absurd (never (merge f k d e))
    go false e = refl

pub same_sign-equal : (a b : Bool) → a ≡ b → same_sign a b ≡ true
same_sign-equal true true e = refl
same_sign-equal false false e = refl
same_sign-equal true false e = absurd (cc)
same_sign-equal false true e = absurd (cc)

pub equal-same_sign : (a b : Bool) → same_sign a b ≡ true → a ≡ b
equal-same_sign true true e = refl
equal-same_sign false false e = refl
equal-same_sign true false e = absurd (false_true e)
equal-same_sign false true e = absurd (false_true e)

-- ---- two literals of a clause

module _ (clause : Literals) (kept dropped : ℕ) (k d : Literal) (below : dropped < length clause) (order : kept < dropped)
    (k_is : k ≡ get_or clause kept k) (d_is : d ≡ get_or clause dropped d) where
  factored_if : (f : Filling) (b : Bool) → merges f k d ≡ b → factored clause kept dropped f ≡ given b (Some (bind_clause f (apart clause dropped)))
  factored_if f b e = factored_at clause kept dropped f k d below order k_is d_is b (sym e)

  factor_never : ((f : Filling) → Merge f k d → ⊥) → GivesNothing (clause ∷ []) (Step.Factor 0 kept dropped unset)
  factor_never never = factor_nothing clause kept dropped (λ f. factored_if f false (unmerged f k d (never f)))

  pub factor_signs : (k.positive ≡ d.positive → ⊥) → GivesNothing (clause ∷ []) (Step.Factor 0 kept dropped unset)
  factor_signs differ = factor_never (λ f m. differ (equal-same_sign k.positive d.positive m.signs))

  pub factor_kept_answer : is_answer k.atom ≡ true → GivesNothing (clause ∷ []) (Step.Factor 0 kept dropped unset)
  factor_kept_answer answer = factor_never (λ f m. false_true (sym (ap not answer) ∙ m.kept_asserts))

  pub factor_dropped_answer : is_answer d.atom ≡ true → GivesNothing (clause ∷ []) (Step.Factor 0 kept dropped unset)
  factor_dropped_answer answer = factor_never (λ f m. false_true (sym (ap not answer) ∙ m.dropped_asserts))

  pub factor_none : HasNone k.atom d.atom → GivesNothing (clause ∷ []) (Step.Factor 0 kept dropped unset)
  factor_none none = factor_never (λ f m. none f m.equal)

  -- a factoring that is allowed makes the atoms equal
  merge_there : (g : Subst) (made : Literals) → Concludes (Step.Factor 0 kept dropped g) (clause ∷ []) made → Merge (lookup g.pairs) k d
  merge_there g made concludes = go (merges (lookup g.pairs) k d) refl
    where
      go : (b : Bool) → merges (lookup g.pairs) k d ≡ b → Merge (lookup g.pairs) k d
      go true e = merge (lookup g.pairs) k d e
      go false e = absurd (none_some made (sym (ap (λ o. after o (λ c. Some (tidy c))) (factored_if (lookup g.pairs) false e)) ∙ concludes))

  pub factor_some : (f : Subst) (made : Clause) → k.positive ≡ d.positive → is_answer k.atom ≡ false → is_answer d.atom ≡ false
      → IsMostGeneral f.pairs k.atom d.atom
      → made ≡ tidy (bind_clause (lookup f.pairs) (apart clause dropped))
      → IsConclusionAt (clause ∷ []) (Step.Factor 0 kept dropped unset) (record { clause = made; step = Step.Factor 0 kept dropped f })
  factor_some f made signs kept_asserts dropped_asserts best is =
      let m : Merge (lookup f.pairs) k d = record {
        signs = same_sign-equal k.positive d.positive signs;
        kept_asserts = ap not kept_asserts;
        dropped_asserts = ap not dropped_asserts;
        equal = best.equal;
      } in
      record {
        at = refl;
        concludes = ap (λ o. after o (λ c. Some (tidy c))) (factored_if (lookup f.pairs) true (merged (lookup f.pairs) k d m)) ∙ ap Some (sym is);
        general = λ other c site concludes.
            factor_site (λ step. Concludes step (clause ∷ []) c → Generalizes (clause ∷ []) (Step.Factor 0 kept dropped f) step) kept dropped
            (λ g there. record {
              next = lookup g.pairs;
              turned = each_of_all (λ name. lookup g.pairs name ≡ bind (lookup g.pairs) (lookup f.pairs name))
                  (λ name. sym (bind-Variable (lookup g.pairs) name) ∙ best.absorbed (lookup g.pairs) (merge_there g c there).equal (form.Variable name)
                  ∙ ap (bind (lookup g.pairs)) (bind-Variable (lookup f.pairs) name))
                  (clause_variables clause);
            }) other site concludes;
      }

-- ---- a loop over the dropped literals

abbrev pub factor_at : ℕ → ℕ → List Step
factor_at kept dropped = Step.Factor 0 kept dropped unset ∷ []

-- the literals up to the kept one aren't dropped
pub factor_later : (clause : Literals) (kept : ℕ) → kept < length clause → Each (GivesNothing (clause ∷ [])) (each_below (kept + 1) (factor_at kept))
factor_later clause kept there =
    each_below-each (GivesNothing (clause ∷ [])) (kept + 1) (factor_at kept)
    (λ dropped below. let nothing = factor_in_order clause kept dropped (omega arith) (omega arith) in (nothing, tt))
