-- Members of lists, and how many of a list pass a test.
use Rattle.std.proofs.Common.{◌≡◌, inl, inr, ◌≤◌, ℕ, ◌+◌, nat_eq, List, [], ◌∷◌, ◌++◌, filter, length, Bool, true, false, not, if◌then◌else◌, refl, ap, ◌∙◌, arith}
use Rattle.std.proofs.lemmas.Bool.{eq-eqb}
use Rattle.std.proofs.lemmas.List.{length-append}
use Rattle.std.proofs.lemmas.List.Elements.{filter-append}
use Rattle.sigma_base.specs.Lists.{Each}
use Rattle.calculus.specs.Answers.{Among}
use Rattle.saturate.specs.Runs.{without}

-- ---- members

pub each_of_members : {X : Type 0} (P : X → Type 0) (xs : List X) → ((x : X) → Among x xs → P x) → Each P xs
each_of_members P [] h = tt
each_of_members P (x ∷ xs) h = (h x (inl refl), each_of_members P xs (λ y there. h y (inr there)))

pub record Passes {X : Type 0} (p : X → Bool) (xs : List X) (x : X) : Type 0 where
  pub among : Among x xs
  pub passes : p x ≡ true

pub among_filtered : {X : Type 0} (p : X → Bool) (xs : List X) (x : X) → Among x (filter p xs) → Passes p xs x
among_filtered p [] x h = absurd h
among_filtered {X = X} p (y ∷ xs) x h = go (p y) refl h (among_filtered p xs x)
  where
    go : (b : Bool) → p y ≡ b → Among x (if b then y ∷ filter p xs else filter p xs) → (Among x (filter p xs) → Passes p xs x) → Passes p (y ∷ xs) x
    go true e (inl is) rest = record { among = inl is; passes = ap p is ∙ e }
    go true e (inr there) rest = let more = rest there in record { among = inr more.among; passes = more.passes }
    go false e there rest = let more = rest there in record { among = inr more.among; passes = more.passes }

-- ---- counts

abbrev pub count : {X : Type 0} → (X → Bool) → List X → ℕ
count p xs = length (filter p xs)

pub count-append : {X : Type 0} (p : X → Bool) (xs ys : List X) → count p (xs ++ ys) ≡ count p xs + count p ys
count-append p xs ys = ap length (filter-append p xs ys) ∙ length-append (filter p xs) (filter p ys)

pub count-cons : {X : Type 0} (p : X → Bool) (x : X) (xs : List X) → count p (x ∷ xs) ≡ count p (x ∷ []) + count p xs
count-cons p x xs = count-append p (x ∷ []) xs

pub count-one : {X : Type 0} (p : X → Bool) (x : X) → p x ≡ true → count p (x ∷ []) ≡ 1
count-one {X = X} p x e = ap (λ (b : Bool). length (if b then x ∷ [] else [])) e

pub count-filter : {X : Type 0} (p q : X → Bool) (xs : List X) → count p (filter q xs) ≤ count p xs
count-filter p q [] = omega arith
count-filter {X = X} p q (x ∷ xs) = go (q x) (count-filter p q xs)
  where
    go : (b : Bool) → count p (filter q xs) ≤ count p xs → count p (if b then x ∷ filter q xs else filter q xs) ≤ count p (x ∷ xs)
    go true less = let old = count-cons p x xs in let new = count-cons p x (filter q xs) in omega (arith, old, new, less)
    go false less = let old = count-cons p x xs in omega (arith, old, less)

-- where a number stands, taking it away and adding it once makes no more
pub count-without : (p : ℕ → Bool) (n : ℕ) (xs : List ℕ) → Among n xs → count p (n ∷ []) + count p (without n xs) ≤ count p xs
count-without p n [] there = absurd there
count-without p n (x ∷ xs) (inl e) =
    let same : nat_eq n x ≡ true = eq-eqb n x e in
    let gone : count p (without n (x ∷ xs)) ≡ count p (without n xs) = ap (λ (b : Bool). count p (if not b then x ∷ without n xs else without n xs)) same in
    let less = count-filter p (λ other. not (nat_eq n other)) xs in
    let old = count-cons p x xs in
    let one : count p (n ∷ []) ≡ count p (x ∷ []) = ap (λ (m : ℕ). count p (m ∷ [])) e in
    omega (arith, gone, less, old, one)
count-without p n (x ∷ xs) (inr there) = go (nat_eq n x) (count-without p n xs there)
  where
    go : (b : Bool) → count p (n ∷ []) + count p (without n xs) ≤ count p xs
        → count p (n ∷ []) + count p (if not b then x ∷ without n xs else without n xs) ≤ count p (x ∷ xs)
    go true less = let old = count-cons p x xs in omega (arith, less, old)
    go false less = let old = count-cons p x xs in let new = count-cons p x (without n xs) in omega (arith, less, old, new)

pub count-none : {X : Type 0} (p : X → Bool) (xs : List X) → Each (λ x. p x ≡ false) xs → count p xs ≡ 0
count-none p [] each = refl
count-none {X = X} p (x ∷ xs) each = ap (λ (b : Bool). length (if b then x ∷ filter p xs else filter p xs)) each.0 ∙ count-none p xs each.1
