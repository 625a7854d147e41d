-- Marks in a list.
use Rattle.std.proofs.Common.{◌≡◌, ◌⊎◌, inl, inr, ℕ, zero, suc, ◌<◌, ◌≤◌, List, [], ◌∷◌, length, set, replicate, Bool, true, false, Some, refl, sym, ap, ◌∙◌, arith, Vec}
use Rattle.std.specs.Vec.{with_items}
use Rattle.std.proofs.lemmas.List.{with_items_is}
use Rattle.sigma_base.specs.Lists.{Each, each_map}
use Rattle.calculus.specs.Answers.{Among}
use Rattle.calculus.specs.Rules.{nth}
use Rattle.calculus.proofs.PlaceLaws.{none_some, some_same}
use Rattle.answers.specs.Proofs.{marked, all_marked}

-- ---- one mark

pub length-marked : (marks : List Bool) (n : ℕ) → length (marked marks n) ≡ length marks
length-marked [] n = refl
length-marked (mark ∷ marks) zero = refl
length-marked (mark ∷ marks) (suc n) = ap suc (length-marked marks n)

pub marked-set : (marks : List Bool) (n : ℕ) → set marks n true ≡ marked marks n
marked-set [] n = refl
marked-set (mark ∷ marks) zero = refl
marked-set (mark ∷ marks) (suc n) = ap (λ rest. mark ∷ rest) (marked-set marks n)

-- past the end nothing is marked
pub marked_past : (marks : List Bool) (n : ℕ) → length marks ≤ n → marks ≡ marked marks n
marked_past [] n h = refl
marked_past (mark ∷ marks) zero h = absurd (omega arith)
marked_past (mark ∷ marks) (suc n) h = ap (λ rest. mark ∷ rest) (marked_past marks n (omega arith))

pub stays_marked : (marks : List Bool) (n on : ℕ) → nth marks on ≡ Some true → nth (marked marks n) on ≡ Some true
stays_marked [] n on e = e
stays_marked (mark ∷ marks) zero zero e = refl
stays_marked (mark ∷ marks) zero (suc on) e = e
stays_marked (mark ∷ marks) (suc n) zero e = e
stays_marked (mark ∷ marks) (suc n) (suc on) e = stays_marked marks n on e

pub marks_it : (marks : List Bool) (n : ℕ) → n < length marks → nth (marked marks n) n ≡ Some true
marks_it [] n h = absurd (omega arith)
marks_it (mark ∷ marks) zero h = refl
marks_it (mark ∷ marks) (suc n) h = marks_it marks n (omega arith)

-- what is marked is the new one or was marked before
pub was_marked : (marks : List Bool) (n on : ℕ) → nth (marked marks n) on ≡ Some true → (nth marks on ≡ Some true) ⊎ (on ≡ n)
was_marked [] n on e = inl e
was_marked (mark ∷ marks) zero zero e = inr refl
was_marked (mark ∷ marks) zero (suc on) e = inl e
was_marked (mark ∷ marks) (suc n) zero e = inl e
was_marked (mark ∷ marks) (suc n) (suc on) e = elim (was_marked marks n on e) [ inl before ↦ inl before | inr same ↦ inr (ap suc same) ]

-- ---- several

pub length-all_marked : (numbers : List ℕ) (marks : List Bool) → length (all_marked marks numbers) ≡ length marks
length-all_marked [] marks = refl
length-all_marked (number ∷ numbers) marks = length-all_marked numbers (marked marks number) ∙ length-marked marks number

pub stay_marked : (numbers : List ℕ) (marks : List Bool) (on : ℕ) → nth marks on ≡ Some true → nth (all_marked marks numbers) on ≡ Some true
stay_marked [] marks on e = e
stay_marked (number ∷ numbers) marks on e = stay_marked numbers (marked marks number) on (stays_marked marks number on e)

pub marks_them : (numbers : List ℕ) (marks : List Bool) → Each (λ number. number < length marks) numbers → Each (λ number. nth (all_marked marks numbers) number ≡ Some true) numbers
marks_them [] marks h = tt
marks_them (number ∷ numbers) marks h =
    let same = length-marked marks number in (
      stay_marked numbers (marked marks number) number (marks_it marks number h.0),
      marks_them numbers (marked marks number)
          (each_map (λ n. n < length marks) (λ n. n < length (marked marks number)) (λ n low. omega (arith, same, low)) numbers h.1),
    )

pub were_marked : (numbers : List ℕ) (marks : List Bool) (on : ℕ) → nth (all_marked marks numbers) on ≡ Some true → (nth marks on ≡ Some true) ⊎ Among on numbers
were_marked [] marks on e = inl e
were_marked (number ∷ numbers) marks on e =
    elim (were_marked numbers (marked marks number) on e) [
      | inl here ↦ elim (was_marked marks number on here) [ inl before ↦ inl before | inr same ↦ inr (inl same) ]
      | inr later ↦ inr (inr later)
    ]

-- ---- none

pub none_marked : (n on : ℕ) → nth (replicate n false) on ≡ Some true → ⊥
none_marked zero on e = absurd (none_some true e)
none_marked (suc n) zero e = let wrong = some_same false true e in cc
none_marked (suc n) (suc on) e = none_marked n on e

-- ---- marks that are written through a slice

pub written : {Z : Type 0} (v : Vec Bool Z) (marks new : List Bool) (numbers : List ℕ) → marks ≡ v.items → new ≡ all_marked marks numbers
    → (with_items v new).items ≡ all_marked v.items numbers
written v marks new numbers read is =
    with_items_is v new (ap length is ∙ length-all_marked numbers marks ∙ ap length read ∙ sym v.ok.0) ∙ is ∙ ap (λ ms. all_marked ms numbers) read
