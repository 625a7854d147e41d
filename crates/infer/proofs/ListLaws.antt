-- Lists of conclusions that grow site by site.
use Rattle.std.proofs.Common.{◌≡◌, inl, inr, ℕ, zero, suc, ◌+◌, ◌<◌, List, [], ◌∷◌, ◌++◌, Option, Some, None, MatchOption, append_assoc, refl, sym, ap, ap₂, ◌∙◌, subst, arith}
use Rattle.std.proofs.lemmas.List.{append-nil}
use Rattle.sigma_base.specs.Lists.{Each, each_append}
use Rattle.kif_tree.specs.Clauses.{Literals}
use Rattle.calculus.specs.declared.step.Step.{Step}
use Rattle.infer.specs.declared.conclusion.Conclusion.{Conclusion}
use Rattle.infer.specs.Sites.{each_below}
use Rattle.infer.specs.Conclusions.{GivesNothing, IsFoundAt, AreAt, Adds}

-- ---- numbers below a bound

pub each_below-more : {X : Type 0} (n : ℕ) (f : ℕ → List X) → each_below (n + 1) f ≡ each_below n f ++ f n
each_below-more n f = let e : n + 1 ≡ suc n = omega arith in ap (λ m. each_below m f) e

pub each_below-alike : {X : Type 0} (n : ℕ) (f g : ℕ → List X) → ((k : ℕ) → k < n → f k ≡ g k) → each_below n f ≡ each_below n g
each_below-alike zero f g h = refl
each_below-alike (suc n) f g h = ap₂ ◌++◌ (each_below-alike n f g (λ k below. h k (omega arith))) (h n (omega arith))

-- what holds of each item of each list
pub each_below-each : {X : Type 0} (P : X → Type 0) (n : ℕ) (f : ℕ → List X) → ((k : ℕ) → k < n → Each P (f k)) → Each P (each_below n f)
each_below-each P zero f h = tt
each_below-each P (suc n) f h = each_append P (each_below n f) (f n) (each_below-each P n f (λ k below. h k (omega arith))) (h n (omega arith))

-- ---- conclusions at sites

module _ (clauses : List Literals) where
  pub at-append : (xs ys : List Step) (first second : List Conclusion) → AreAt clauses xs first → AreAt clauses ys second
      → AreAt clauses (xs ++ ys) (first ++ second)
  at-append [] ys first second none more = subst (λ (all : List Conclusion). AreAt clauses ys (all ++ second)) (sym none) more
  at-append (x ∷ xs) ys first second (inl h) more = inl (h.0, at-append xs ys first second h.1 more)
  at-append (x ∷ xs) ys first second (inr h) more = inr (record {
    first = h.first;
    rest = h.rest ++ second;
    is = ap (λ (all : List Conclusion). all ++ second) h.is;
    concludes = h.concludes;
    more = at-append xs ys h.rest second h.more more;
  })

  pub at-nothing : (sites : List Step) → Each (GivesNothing clauses) sites → AreAt clauses sites []
  at-nothing [] each = refl
  at-nothing (site ∷ sites) each = inl (each.0, at-nothing sites each.1)

  pub adds-none : (old : List Conclusion) → Adds clauses [] old old
  adds-none old = record { more = []; is = sym (append-nil old); are = refl }

  -- sites where nothing is concluded
  pub adds-nothing : (sites : List Step) (old : List Conclusion) → Each (GivesNothing clauses) sites → Adds clauses sites old old
  adds-nothing sites old each = record { more = []; is = sym (append-nil old); are = at-nothing sites each }

  pub adds-append : (xs ys : List Step) (old middle new : List Conclusion) → Adds clauses xs old middle → Adds clauses ys middle new
      → Adds clauses (xs ++ ys) old new
  adds-append xs ys old middle new first second = record {
    more = first.more ++ second.more;
    is = second.is ∙ ap (λ (all : List Conclusion). all ++ second.more) first.is ∙ append_assoc old first.more second.more;
    are = at-append xs ys first.more second.more first.are second.are;
  }

  pub adds-one : (site : Step) (made : Option Conclusion) (old new : List Conclusion) → IsFoundAt clauses site made
      → MatchOption made (new ≡ old) (λ conclusion. new ≡ old ++ conclusion ∷ []) → Adds clauses (site ∷ []) old new
  adds-one site None old new found is = record { more = []; is = is ∙ sym (append-nil old); are = inl (found, refl) }
  adds-one site (Some conclusion) old new found is = record {
    more = conclusion ∷ [];
    is = is;
    are = inr (record { first = conclusion; rest = []; is = refl; concludes = found; more = refl });
  }

  pub adds-same : (xs ys : List Step) (old new : List Conclusion) → xs ≡ ys → Adds clauses xs old new → Adds clauses ys old new
  adds-same xs ys old new e adds = subst (λ (sites : List Step). Adds clauses sites old new) e adds

  -- one more round of a loop over numbers
  pub adds-more : (n : ℕ) (f : ℕ → List Step) (old middle new : List Conclusion) → Adds clauses (each_below n f) old middle → Adds clauses (f n) middle new
      → Adds clauses (each_below (n + 1) f) old new
  adds-more n f old middle new first second =
      adds-same (each_below n f ++ f n) (each_below (n + 1) f) old new (sym (each_below-more n f))
      (adds-append (each_below n f) (f n) old middle new first second)

  -- all that was added to an empty list
  pub adds-all : (sites : List Step) (new : List Conclusion) → Adds clauses sites [] new → AreAt clauses sites new
  adds-all sites new adds = subst (AreAt clauses sites) (sym adds.is) adds.are

-- what holds of what was there and of what is added holds of all
pub each-added : (P : Conclusion → Type 0) (made : Option Conclusion) (old new : List Conclusion) → MatchOption made (Unit {0}) P
    → MatchOption made (new ≡ old) (λ conclusion. new ≡ old ++ conclusion ∷ []) → Each P old → Each P new
each-added P None old new holds is each = subst (Each P) (sym is) each
each-added P (Some conclusion) old new holds is each = subst (Each P) (sym is) (each_append P old (conclusion ∷ []) each (holds, tt))

-- two sites, of which one gives nothing
module _ (clauses : List Literals) (first second : Step) (made : Option Conclusion) (old new : List Conclusion)
    (pushed : MatchOption made (new ≡ old) (λ conclusion. new ≡ old ++ conclusion ∷ [])) where
  pub adds-first : IsFoundAt clauses first made → GivesNothing clauses second → Adds clauses (first ∷ second ∷ []) old new
  adds-first found nothing =
      adds-append clauses (first ∷ []) (second ∷ []) old new new (adds-one clauses first made old new found pushed)
      (adds-nothing clauses (second ∷ []) new (nothing, tt))

  pub adds-second : GivesNothing clauses first → IsFoundAt clauses second made → Adds clauses (first ∷ second ∷ []) old new
  adds-second nothing found =
      adds-append clauses (first ∷ []) (second ∷ []) old old new (adds-nothing clauses (first ∷ []) old (nothing, tt))
      (adds-one clauses second made old new found pushed)
