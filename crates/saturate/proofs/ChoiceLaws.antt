-- The first of a list's numbers in an order, number by number.
use Rattle.std.proofs.Common.{◌≡◌, ◌⊎◌, inl, inr, ℕ, ◌+◌, ◌<◌, ◌≤◌, min, List, [], ◌∷◌, ◌++◌, take, length, get_or, refl, sym, ◌∙◌, subst, arith}
use Rattle.std.proofs.lemmas.List.{take_more}
use Rattle.std.proofs.lemmas.Bool.{cases_order}
use Rattle.sigma_base.specs.Lists.{each_append, each_map}
use Rattle.calculus.proofs.MemberLaws.{among-left, among-right}
use Rattle.saturate.specs.declared.reached.Reached.{Reached}
use Rattle.saturate.specs.Runs.{IsFirstOf, IsLighter, weight_at}

-- one number more, behind the first of those so far
pub first_stays : (Before : ℕ → ℕ → Type 0) (numbers : List ℕ) (best other : ℕ) → IsFirstOf Before numbers best → Before best other
    → IsFirstOf Before (numbers ++ other ∷ []) best
first_stays Before numbers best other first before = record {
  among = among-left best numbers (other ∷ []) first.among;
  first = each_append (Before best) numbers (other ∷ []) first.first (before, tt);
}

-- or before it
pub first_goes : (Before : ℕ → ℕ → Type 0) (numbers : List ℕ) (best other : ℕ)
    → ((x y z : ℕ) → Before x y → Before y z → Before x z) → IsFirstOf Before numbers best → Before other best → Before other other
    → IsFirstOf Before (numbers ++ other ∷ []) other
first_goes Before numbers best other chain first before same = record {
  among = among-right other numbers (other ∷ []) (inl refl);
  first = each_append (Before other) numbers (other ∷ [])
      (each_map (Before best) (Before other) (λ x h. chain other best x before h) numbers first.first) (same, tt);
}

-- the numbers of a loop
pub one_more : (Before : ℕ → ℕ → Type 0) (first : ℕ) (others : List ℕ) (i : ℕ) (best : ℕ) → i < length others
    → IsFirstOf Before ((first ∷ take i others) ++ get_or others i 0 ∷ []) best → IsFirstOf Before (first ∷ take (i + 1) others) best
one_more Before first others i best below is =
    subst (λ (numbers : List ℕ). IsFirstOf Before (first ∷ numbers) best) (sym (take_more others i 0 below)) is

pub all_taken : (Before : ℕ → ℕ → Type 0) (numbers : List ℕ) (best same : ℕ) → best ≡ same → IsFirstOf Before numbers best → IsFirstOf Before numbers same
all_taken Before numbers best same e first = subst (IsFirstOf Before numbers) e first

-- ---- the least number

in_order : (a b : ℕ) → (a ≤ b) ⊎ (b ≤ a)
in_order a b = go (cases_order a b)
  where
    go : (a ≡ b) ⊎ ((a < b) ⊎ (b < a)) → (a ≤ b) ⊎ (b ≤ a)
    go (inl e) = inl (omega arith)
    go (inr (inl h)) = inl (omega arith)
    go (inr (inr h)) = inr (omega arith)

pub least_more : (numbers : List ℕ) (best other least : ℕ) → least ≡ min best other → IsFirstOf ◌≤◌ numbers best → IsFirstOf ◌≤◌ (numbers ++ other ∷ []) least
least_more numbers best other least is first = go (in_order best other)
  where
    go : (best ≤ other) ⊎ (other ≤ best) → IsFirstOf ◌≤◌ (numbers ++ other ∷ []) least
    go (inl h) =
        let e : best ≡ least = omega arith in
        all_taken ◌≤◌ (numbers ++ other ∷ []) best least e (first_stays ◌≤◌ numbers best other first h)
    go (inr h) =
        let e : other ≡ least = omega arith in
        all_taken ◌≤◌ (numbers ++ other ∷ []) other least e
        (first_goes ◌≤◌ numbers best other (λ x y z a b. omega arith) first h (omega arith))

-- ---- the lightest clause

pub lighter_chain : (r : Reached) (x y z : ℕ) → IsLighter r x y → IsLighter r y z → IsLighter r x z
lighter_chain r x y z (inl h) (inl k) = inl (omega arith)
lighter_chain r x y z (inl h) (inr k) = inl (let e = k.0 in omega arith)
lighter_chain r x y z (inr h) (inl k) = inl (let e = h.0 in omega arith)
lighter_chain r x y z (inr h) (inr k) = inr (h.0 ∙ k.0, (let a = h.1 in let b = k.1 in omega arith))

pub lighter_same : (r : Reached) (x : ℕ) → IsLighter r x x
lighter_same r x = inr (refl, omega arith)

-- of two numbers that are not in this order, the other one comes first
pub lighter_else : (r : Reached) (x y : ℕ) → (IsLighter r x y → ⊥) → IsLighter r y x
lighter_else r x y not = go (cases_order (weight_at r x) (weight_at r y))
  where
    older : weight_at r x ≡ weight_at r y → (x ≤ y) ⊎ (y ≤ x) → IsLighter r y x
    older e (inl h) = absurd (not (inr (e, h)))
    older e (inr h) = inr (sym e, h)

    go : (weight_at r x ≡ weight_at r y) ⊎ ((weight_at r x < weight_at r y) ⊎ (weight_at r y < weight_at r x)) → IsLighter r y x
    go (inl e) = older e (in_order x y)
    go (inr (inl h)) = absurd (not (inl h))
    go (inr (inr h)) = inl h
