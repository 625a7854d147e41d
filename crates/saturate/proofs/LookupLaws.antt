-- Looking up one key after another.
use Rattle.std.proofs.Common.{◌≡◌, ◌⊎◌, ◌↔◌, inl, inr, ◌<◌, ℕ, zero, suc, ◌+◌, List, [], ◌∷◌, ◌++◌, take, length, get_or, Bool, true, false, IsTrue, refl, sym, ◌∙◌, subst, arith}
use Rattle.std.proofs.lemmas.List.{take_more}
use Rattle.kif_tree.specs.Clauses.{Literals}
use Rattle.calculus.proofs.TruthLaws.{false_true}
use Rattle.saturate.specs.declared.fingerprint.Fingerprint.{Fingerprint}
use Rattle.saturate.specs.Indexes.{Listing, UnderPrint, UnderAny}

-- ---- one of two

-- the first answer was yes
pub yes_first : {P Q : Type 0} → P → IsTrue true ↔ (P ⊎ Q)
yes_first h = (λ _. inl h, λ _. refl)

-- the first was no, so that the second one decides
pub second_decides : {P Q : Type 0} → (first : Bool) → IsTrue first ↔ P → first ≡ false → (second : Bool) → IsTrue second ↔ Q → IsTrue second ↔ (P ⊎ Q)
second_decides {P = P} {Q = Q} first asked fails second answer = (λ yes. inr (answer.0 yes), back)
  where
    back : P ⊎ Q → IsTrue second
    back (inl h) = absurd (false_true (sym fails ∙ asked.1 h))
    back (inr h) = answer.1 h

-- ---- one of several

module _ (listing : Listing) (all : List Literals) (clause : Literals) where
  abbrev OfPrint : Fingerprint → Type 0
  OfPrint print = UnderPrint listing all clause print

  abbrev OfAny : List Fingerprint → Type 0
  OfAny prints = UnderAny listing all clause prints

  pub any_at : (prints : List Fingerprint) (i : ℕ) (other : Fingerprint) → i < length prints → OfPrint (get_or prints i other) → OfAny prints
  any_at [] i other below h = absurd (omega arith)
  any_at (first ∷ prints) zero other below h = inl h
  any_at (first ∷ prints) (suc i) other below h = inr (any_at prints i other (omega arith) h)

  any_either : (xs ys : List Fingerprint) → OfAny (xs ++ ys) → OfAny xs ⊎ OfAny ys
  any_either [] ys h = inr h
  any_either (x ∷ xs) ys (inl h) = inl (inl h)
  any_either (x ∷ xs) ys (inr h) = elim (any_either xs ys h) [ inl k ↦ inl (inr k) | inr k ↦ inr k ]

  pub none_yet : (prints : List Fingerprint) (i : ℕ) (other : Fingerprint) → i < length prints → (OfAny (take i prints) → ⊥)
      → (OfPrint (get_or prints i other) → ⊥) → OfAny (take (i + 1) prints) → ⊥
  none_yet prints i other below before here h = go (any_either (take i prints) (get_or prints i other ∷ []) (subst OfAny (take_more prints i other below) h))
    where
      go : OfAny (take i prints) ⊎ OfAny (get_or prints i other ∷ []) → ⊥
      go (inl k) = before k
      go (inr (inl k)) = here k
      go (inr (inr k)) = k
