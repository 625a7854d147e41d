-- Steps have one derivation, or one first step that isn't allowed.
use Rattle.std.proofs.Common.{◌≡◌, ℕ, zero, suc, ◌+◌, ◌<◌, ◌≤◌, min, List, [], ◌∷◌, ◌++◌, take, length, get_or, Option, Some, None, refl, sym, ap, ap₂, ◌∙◌, arith, inl, inr, ◌⊎◌, subst}
use Rattle.std.proofs.lemmas.Bool.{cases_lt, cases_order}
use Rattle.std.proofs.lemmas.List.{length-take, take_all}
use Rattle.kif_tree.specs.Subst.{value_of}
use Rattle.kif_tree.specs.Clauses.{Literals}
use Rattle.calculus.specs.declared.step.Step.{Step}
use Rattle.calculus.specs.Rules.{after, nth, clause_of, Derivation}
use Rattle.calculus.proofs.PlaceLaws.{none_some, some_same}
use Rattle.calculus.proofs.EvidenceLaws.{evidence_holds}
use Rattle.calculus.proofs.InstanceLaws.{evidence_is_ground}
use Rattle.calculus.proofs.AnswerLaws.{answers_stay}
use Rattle.calculus.proofs.VariableLaws.{ground_pairs_close}
use Rattle.calculus_programs.proofs.DeriveLaws.{derivation_more, derivation_none}
use Rattle.infer.specs.Checks.{IsBadStep, HasGroundEvidence, FollowsFromEvidence, KeepsAnswers}
use Rattle.infer.specs.Laws.{OneDerivation, OneBadStep, BadStepOrDerivation}

-- ---- first items of lists

cons_parts : {X : Type 0} (x y : X) (xs ys : List X) → x ∷ xs ≡ y ∷ ys → (x ≡ y) × (xs ≡ ys)
cons_parts x y xs ys e = (cc, cc)

-- lists that begin alike and have one next item begin alike up to that item
begin_alike : {X : Type 0} (n : ℕ) (xs ys : List X) → take n xs ≡ take n ys → nth xs n ≡ nth ys n → take (suc n) xs ≡ take (suc n) ys
begin_alike n [] [] e next = refl
begin_alike zero [] (y ∷ ys) e next = absurd (none_some y next)
begin_alike zero (x ∷ xs) [] e next = absurd (none_some x (sym next))
begin_alike {X = X} zero (x ∷ xs) (y ∷ ys) e next = ap (λ (z : X). z ∷ []) (some_same x y next)
begin_alike (suc n) [] (y ∷ ys) e next = absurd (cc)
begin_alike (suc n) (x ∷ xs) [] e next = absurd (cc)
begin_alike (suc n) (x ∷ xs) (y ∷ ys) e next =
    let parts = cons_parts x y (take n xs) (take n ys) e in ap₂ ◌∷◌ parts.0 (begin_alike n xs ys parts.1 next)

nth-take : {X : Type 0} (n : ℕ) (xs : List X) (m : ℕ) → m < n → nth (take n xs) m ≡ nth xs m
nth-take zero xs m h = absurd (omega arith)
nth-take (suc n) [] m h = refl
nth-take (suc n) (x ∷ xs) zero h = refl
nth-take (suc n) (x ∷ xs) (suc m) h = nth-take n xs m (omega arith)

nth-past : {X : Type 0} (n : ℕ) (xs : List X) (m : ℕ) → n ≤ m → nth (take n xs) m ≡ None
nth-past zero xs m h = refl
nth-past (suc n) [] m h = refl
nth-past (suc n) (x ∷ xs) zero h = absurd (omega arith)
nth-past (suc n) (x ∷ xs) (suc m) h = nth-past n xs m (omega arith)

take-take : {X : Type 0} (n : ℕ) (xs : List X) (m : ℕ) → m ≤ n → take m (take n xs) ≡ take m xs
take-take n xs zero h = refl
take-take zero xs (suc m) h = absurd (omega arith)
take-take (suc n) [] (suc m) h = refl
take-take {X = X} (suc n) (x ∷ xs) (suc m) h = ap (λ (ys : List X). x ∷ ys) (take-take n xs m (omega arith))

nth-below : {X : Type 0} (xs : List X) (n : ℕ) (x : X) → nth xs n ≡ Some x → n < length xs
nth-below [] n x e = absurd (none_some x e)
nth-below (y ∷ xs) zero x e = omega arith
nth-below (y ∷ xs) (suc n) x e = let below = nth-below xs n x e in omega (arith, below)

nth-get : {X : Type 0} (xs : List X) (n : ℕ) (x : X) → nth xs n ≡ Some x → x ≡ get_or xs n x
nth-get [] n x e = absurd (none_some x e)
nth-get (y ∷ xs) zero x e = sym (some_same y x e)
nth-get (y ∷ xs) (suc n) x e = nth-get xs n x e

nth-above : {X : Type 0} (xs : List X) (n : ℕ) → nth xs n ≡ None → length xs ≤ n
nth-above [] n e = omega arith
nth-above (y ∷ xs) zero e = absurd (none_some y (sym e))
nth-above (y ∷ xs) (suc n) e = let above = nth-above xs n e in omega (arith, above)

-- ---- one derivation

module _ (inputs : List Literals) (steps : List Step) where
  begins_alike : (first second : List Literals) → Derivation inputs steps first → Derivation inputs steps second → (n : ℕ) → take n first ≡ take n second
  begins_alike first second d e zero = refl
  begins_alike first second d e (suc n) =
      let before = begins_alike first second d e n in
      begin_alike n first second before (d.each n ∙ ap (λ (cs : List Literals). after (nth steps n) (λ step. clause_of inputs step cs)) before ∙ sym (e.each n))

pub one_derivation : OneDerivation
one_derivation inputs steps first second d e =
    let n = length steps in
    sym (take_all n first (omega (arith, d.same_length))) ∙ begins_alike inputs steps first second d e n ∙ take_all n second (omega (arith, e.same_length))

-- the first steps derive the first clauses
derivation_take : (inputs : List Literals) (steps : List Step) (clauses : List Literals) → Derivation inputs steps clauses → (n : ℕ)
    → Derivation inputs (take n steps) (take n clauses)
derivation_take inputs steps clauses d n = record {
  same_length = length-take n clauses ∙ sym (length-take n steps ∙ ap (λ (m : ℕ). min n m) (sym d.same_length));
  each = λ m. each m (cases_lt m n);
}
  where
    each : (m : ℕ) → (m < n) ⊎ (n ≤ m) → nth (take n clauses) m ≡ after (nth (take n steps) m) (λ step. clause_of inputs step (take m (take n clauses)))
    each m (inl h) =
        nth-take n clauses m h ∙ d.each m
        ∙ sym (ap₂ (λ (o : Option Step) (cs : List Literals). after o (λ step. clause_of inputs step cs)) (nth-take n steps m h) (take-take n clauses m (omega arith)))
    each m (inr h) = nth-past n clauses m h ∙ sym (ap (λ (o : Option Step). after o (λ step. clause_of inputs step (take m (take n clauses)))) (nth-past n steps m h))

-- ---- one bad step

never_both : (inputs : List Literals) (steps : List Step) (clauses : List Literals) (number : ℕ) → Derivation inputs steps clauses
    → IsBadStep inputs steps number → ⊥
never_both inputs steps clauses number d bad =
    let one : take number clauses ≡ bad.clauses =
    one_derivation inputs (take number steps) (take number clauses) bad.clauses (derivation_take inputs steps clauses d number) bad.derived in
    let nothing : nth clauses number ≡ None =
    d.each number ∙ ap₂ (λ (o : Option Step) (cs : List Literals). after o (λ step. clause_of inputs step cs)) bad.at one ∙ bad.refused in
    let above : length clauses ≤ number = nth-above clauses number nothing in
    let below : number < length steps = nth-below steps number bad.step bad.at in
    absurd (omega (arith, above, below, d.same_length))

-- a bad step is one in each list of steps that begins with it and those before it
bad_before : (inputs : List Literals) (steps : List Step) (first n : ℕ) → first < n → IsBadStep inputs steps first → IsBadStep inputs (take n steps) first
bad_before inputs steps first n less bad = record {
  step = bad.step;
  at = nth-take n steps first less ∙ bad.at;
  clauses = bad.clauses;
  derived = subst (λ (s : List Step). Derivation inputs s bad.clauses) (sym (take-take n steps first (omega (arith, less)))) bad.derived;
  refused = bad.refused;
}

pub one_bad_step : OneBadStep
one_bad_step inputs steps first second a b = go (cases_order first second)
  where
    go : (first ≡ second) ⊎ ((first < second) ⊎ (second < first)) → first ≡ second
    go (inl e) = e
    go (inr (inl h)) = absurd (never_both inputs (take second steps) b.clauses first b.derived (bad_before inputs steps first second h a))
    go (inr (inr h)) = absurd (never_both inputs (take first steps) a.clauses second a.derived (bad_before inputs steps second first h b))

-- ---- a derivation or a bad step

abbrev Either : List Literals → List Step → ℕ → Type 0
Either inputs steps n = ((clauses : List Literals) × Derivation inputs (take n steps) clauses) ⊎ ((number : ℕ) × IsBadStep inputs steps number)

one_more : (inputs : List Literals) (steps : List Step) (n : ℕ) → Either inputs steps n → Either inputs steps (suc n)
one_more inputs steps n (inr bad) = inr bad
one_more inputs steps n (inl so_far) = at_step (nth steps n) refl
  where
    made : (step : Step) → nth steps n ≡ Some step → (o : Option Literals) → clause_of inputs step so_far.0 ≡ o → Either inputs steps (suc n)
    made step e None gives = inr (n, record { step = step; at = e; clauses = so_far.0; derived = so_far.1; refused = gives })
    made step e (Some c) gives =
        let one : n + 1 ≡ suc n = omega arith in
        inl (
          so_far.0 ++ c ∷ [],
          subst (λ (m : ℕ). Derivation inputs (take m steps) (so_far.0 ++ c ∷ [])) one
              (derivation_more inputs steps n step so_far.0 c (nth-below steps n step e) (nth-get steps n step e) so_far.1 gives),
        )

    at_step : (o : Option Step) → nth steps n ≡ o → Either inputs steps (suc n)
    at_step None e =
        let above : length steps ≤ n = nth-above steps n e in
        inl (so_far.0, subst (λ (s : List Step). Derivation inputs s so_far.0) (take_all n steps above ∙ sym (take_all (suc n) steps (omega (arith, above)))) so_far.1)
    at_step (Some step) e = made step e (clause_of inputs step so_far.0) refl

some_of : (inputs : List Literals) (steps : List Step) (n : ℕ) → Either inputs steps n
some_of inputs steps zero = inl ([], derivation_none inputs)
some_of inputs steps (suc n) = one_more inputs steps n (some_of inputs steps n)

pub bad_step_or_derivation : BadStepOrDerivation
bad_step_or_derivation = record {
  some = λ inputs steps. subst (λ (s : List Step). ((clauses : List Literals) × Derivation inputs s clauses) ⊎ ((number : ℕ) × IsBadStep inputs steps number))
      (take_all (length steps) steps (omega arith)) (some_of inputs steps (length steps));
  never_both = never_both;
}

-- ---- what holds of checked clauses

pub has_ground_evidence : (inputs : List Literals) (steps : List Step) (clauses : List Literals) → Derivation inputs steps clauses
    → HasGroundEvidence inputs steps clauses
has_ground_evidence inputs steps clauses d rowless clean n pairs ground =
    evidence_is_ground inputs steps clauses d rowless clean n (value_of pairs) (ground_pairs_close pairs ground)

pub follows_from_evidence : (inputs : List Literals) (steps : List Step) (clauses : List Literals) → Derivation inputs steps clauses
    → FollowsFromEvidence inputs steps clauses
follows_from_evidence inputs steps clauses d n clause at pairs ground atoms =
    evidence_holds inputs steps clauses d n clause at (value_of pairs) atoms

pub keeps_answers : (inputs : List Literals) (steps : List Step) (clauses : List Literals) → Derivation inputs steps clauses → KeepsAnswers inputs steps clauses
keeps_answers inputs steps clauses d n clause at pairs ground =
    answers_stay inputs steps clauses d n clause at (value_of pairs)
