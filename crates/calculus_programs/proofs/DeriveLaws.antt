-- A derivation with one more step.
use Rattle.std.proofs.Common.{◌≡◌, ℕ, zero, suc, ◌+◌, ◌<◌, ◌≤◌, List, [], ◌∷◌, ◌++◌, take, length, get_or, Option, Some, None, refl, sym, ap, ap₂, ◌∙◌, arith, inl, inr, ◌⊎◌, subst}
use Rattle.std.proofs.lemmas.List.{take_more, length-append}
use Rattle.kif_tree.specs.Clauses.{Literals}
use Rattle.calculus.specs.declared.step.Step.{Step}
use Rattle.calculus.specs.Rules.{after, nth, clause_of, Derivation}

nth-left : {X : Type 0} (xs : List X) (x : X) (n : ℕ) → n < length xs → nth (xs ++ x ∷ []) n ≡ nth xs n
nth-left [] x n h = absurd (omega arith)
nth-left (y ∷ xs) x zero h = refl
nth-left (y ∷ xs) x (suc n) h = nth-left xs x n (omega arith)

nth-here : {X : Type 0} (xs : List X) (x : X) → nth (xs ++ x ∷ []) (length xs) ≡ Some x
nth-here [] x = refl
nth-here (y ∷ xs) x = nth-here xs x

nth-past : {X : Type 0} (xs : List X) (x : X) (n : ℕ) → length xs < n → nth (xs ++ x ∷ []) n ≡ None
nth-past [] x zero h = absurd (omega arith)
nth-past [] x (suc n) h = refl
nth-past (y ∷ xs) x zero h = absurd (omega arith)
nth-past (y ∷ xs) x (suc n) h = nth-past xs x n (omega arith)

take-left : {X : Type 0} (xs : List X) (x : X) (n : ℕ) → n ≤ length xs → take n (xs ++ x ∷ []) ≡ take n xs
take-left xs x zero h = refl
take-left [] x (suc n) h = absurd (omega arith)
take-left {X = X} (y ∷ xs) x (suc n) h = ap (λ (ys : List X). y ∷ ys) (take-left xs x n (omega arith))

take-here : {X : Type 0} (xs : List X) → take (length xs) xs ≡ xs
take-here [] = refl
take-here {X = X} (x ∷ xs) = ap (λ (ys : List X). x ∷ ys) (take-here xs)

compared : (m n : ℕ) → (m < n) ⊎ ((m ≡ n) ⊎ (n < m))
compared zero zero = inr (inl refl)
compared zero (suc n) = inl (omega arith)
compared (suc m) zero = inr (inr (omega arith))
compared (suc m) (suc n) = go (compared m n)
  where
    go : (m < n) ⊎ ((m ≡ n) ⊎ (n < m)) → (suc m < suc n) ⊎ ((suc m ≡ suc n) ⊎ (suc n < suc m))
    go (inl h) = inl (omega arith)
    go (inr (inl e)) = inr (inl (ap suc e))
    go (inr (inr h)) = inr (inr (omega arith))

module _ (inputs : List Literals) (steps : List Step) (clauses : List Literals) (d : Derivation inputs steps clauses) (step : Step) (c : Literals) (made : clause_of inputs step clauses ≡ Some c) where
  each : (n : ℕ) → (n < length clauses) ⊎ ((n ≡ length clauses) ⊎ (length clauses < n))
      → nth (clauses ++ c ∷ []) n ≡ after (nth (steps ++ step ∷ []) n) (λ s. clause_of inputs s (take n (clauses ++ c ∷ [])))
  each n (inl h) =
      let below : n < length steps = omega (arith, d.same_length) in
      nth-left clauses c n h ∙ d.each n
      ∙ ap₂ (λ (o : Option Step) (cs : List Literals). after o (λ s. clause_of inputs s cs)) (sym (nth-left steps step n below)) (sym (take-left clauses c n (omega (arith, h))))
  each n (inr (inl e)) =
      let here : nth (steps ++ step ∷ []) (length clauses) ≡ Some step = ap (nth (steps ++ step ∷ [])) d.same_length ∙ nth-here steps step in
      let whole : take (length clauses) (clauses ++ c ∷ []) ≡ clauses = take-left clauses c (length clauses) (omega arith) ∙ take-here clauses in
      ap (nth (clauses ++ c ∷ [])) e ∙ nth-here clauses c ∙ sym made
      ∙ sym (ap (λ (m : ℕ). after (nth (steps ++ step ∷ []) m) (λ s. clause_of inputs s (take m (clauses ++ c ∷ [])))) e
      ∙ ap₂ (λ (o : Option Step) (cs : List Literals). after o (λ s. clause_of inputs s cs)) here whole)
  each n (inr (inr h)) =
      let past : length steps < n = omega (arith, d.same_length) in
      nth-past clauses c n h ∙ sym (ap (λ o. after o (λ s. clause_of inputs s (take n (clauses ++ c ∷ [])))) (nth-past steps step n past))

  more : Derivation inputs (steps ++ step ∷ []) (clauses ++ c ∷ [])
  more = record {
    same_length = length-append clauses (c ∷ []) ∙ ap (λ (n : ℕ). n + 1) d.same_length ∙ sym (length-append steps (step ∷ []));
    each = λ n. each n (compared n (length clauses));
  }

-- at the item of a loop
pub derivation_more : (inputs : List Literals) (steps : List Step) (i : ℕ) (step : Step) (clauses : List Literals) (c : Literals) → i < length steps → step ≡ get_or steps i step
    → Derivation inputs (take i steps) clauses → clause_of inputs step clauses ≡ Some c → Derivation inputs (take (i + 1) steps) (clauses ++ c ∷ [])
derivation_more inputs steps i step clauses c below is d made =
    let longer : take i steps ++ step ∷ [] ≡ take (i + 1) steps = ap (λ (s : Step). take i steps ++ s ∷ []) is ∙ sym (take_more steps i step below) in
    subst (λ (s : List Step). Derivation inputs s (clauses ++ c ∷ [])) longer (more inputs (take i steps) clauses d step c made)

pub derivation_none : (inputs : List Literals) → Derivation inputs [] []
derivation_none inputs = record { same_length = refl; each = λ n. refl }
