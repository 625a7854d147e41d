-- Items of a list that a loop goes over.
use Rattle.std.proofs.Common.{◌≡◌, ℕ, ◌+◌, ◌<◌, List, [], ◌∷◌, ◌++◌, take, drop, length, get_or, sym, ◌∙◌, subst}
use Rattle.std.proofs.lemmas.List.{take_more, take-append-drop}
use Rattle.sigma_base.specs.Lists.{Each, each_left, each_right}

-- the item of this number, in place
abbrev pub IsItem : {X : Type 0} → List X → ℕ → X → Type 0
IsItem xs i x = (i < length xs) × (x ≡ get_or xs i x)

pub item_more : {X : Type 0} (xs : List X) (i : ℕ) (x : X) → IsItem xs i x → take (i + 1) xs ≡ take i xs ++ x ∷ []
item_more {X = X} xs i x (below, is) = take_more xs i x below ∙ (λ j. take i xs ++ sym is j ∷ [])

pub each_at : {X : Type 0} (P : X → Type 0) (xs : List X) (i : ℕ) (x : X) → IsItem xs i x → Each P xs → P x
each_at {X = X} P xs i x item h =
    (each_right P (take i xs) (x ∷ []) (subst (λ (ys : List X). Each P ys) (item_more xs i x item)
    (each_left P (take (i + 1) xs) (drop (i + 1) xs) (subst (λ (ys : List X). Each P ys) (sym (take-append-drop (i + 1) xs)) h)))).0
