-- Laws of lists.
use Rattle.std.proofs.Common.{◌≡◌, ℕ, zero, suc, ◌+◌, ◌<◌, ◌≤◌, List, [], ◌∷◌, ◌++◌, length, take, get_or, refl, ap, sym, ◌∙◌, arith, length-append, append_assoc, map}
use Rattle.std.proofs.lemmas.List.{take_all, map-append, length-map}
use Rattle.var_expand.specs.Choices.{beginnings}
use Rattle.std.specs.List.{flat_map}

append_nil : {X : Type 0} (xs : List X) → xs ++ [] ≡ xs
append_nil [] = refl
append_nil (x ∷ xs) = ap (λ ys. x ∷ ys) (append_nil xs)

pub nothing_more : {X : Type 0} (old more : List X) → more ≡ [] → old ≡ old ++ more
nothing_more old more e = sym (ap (λ xs. old ++ xs) e ∙ append_nil old)

-- the part up to an element, and what becomes of that element, is no longer than all
pub below_flat_map : {X Y : Type 0} (f : X → List Y) (xs : List X) (i : ℕ) (x : X) → i < length xs → x ≡ get_or xs i x
    → length (flat_map f (take i xs)) + length (f x) ≤ length (flat_map f xs)
below_flat_map f [] i x lt is = absurd (omega arith)
below_flat_map f (y ∷ xs) zero x lt is = let e : length (f x) ≡ length (f y) = ap (λ z. length (f z)) is in omega (arith, length-append (f y) (flat_map f xs))
below_flat_map f (y ∷ xs) (suc i) x lt is =
    let h = below_flat_map f xs i x (omega arith) is in omega (arith, h, length-append (f y) (flat_map f xs), length-append (f y) (flat_map f (take i xs)))

-- a walk over a list and its operands has come to its end
pub ended : {X Y : Type 0} (f : X → List Y) (old now first all : List Y) (items : List X) (index : ℕ) → length items ≤ index
    → now ≡ (old ++ first) ++ flat_map f (take index items) → all ≡ first ++ flat_map f items → now ≡ old ++ all
ended f old now first all items index h e is = e ∙ ap (λ xs. (old ++ first) ++ flat_map f xs) (take_all index items h)
    ∙ append_assoc old first (flat_map f items) ∙ ap (λ ys. old ++ ys) (sym is)

-- ---- the beginnings of a list

take_map : {X Y : Type 0} (f : X → Y) (n : ℕ) (xs : List X) → take n (map f xs) ≡ map f (take n xs)
take_map f zero [] = refl
take_map f zero (x ∷ xs) = refl
take_map f (suc n) [] = refl
take_map f (suc n) (x ∷ xs) = ap (λ ys. f x ∷ ys) (take_map f n xs)

take_none : {X : Type 0} (xs : List X) → take 0 xs ≡ []
take_none [] = refl
take_none (x ∷ xs) = refl

begins_more : {X : Type 0} (xs : List X) (i : ℕ) → i < length xs → take (suc i) (beginnings xs) ≡ take i (beginnings xs) ++ take (suc i) xs ∷ []
begins_more [] i h = absurd (omega arith)
begins_more (x ∷ xs) zero h = ap (λ ys. (x ∷ []) ∷ ys) (take_none (map (λ ys. x ∷ ys) (beginnings xs))) ∙ ap (λ ys. (x ∷ ys) ∷ []) (sym (take_none xs))
begins_more (x ∷ xs) (suc i) h =
    let more = begins_more xs i (omega arith) in
    ap (λ ys. (x ∷ []) ∷ ys) (take_map (λ ys. x ∷ ys) (suc i) (beginnings xs) ∙ ap (map (λ ys. x ∷ ys)) more
    ∙ map-append (λ ys. x ∷ ys) (take i (beginnings xs)) (take (suc i) xs ∷ []) ∙ ap (λ ys. ys ++ (x ∷ take (suc i) xs) ∷ []) (sym (take_map (λ ys. x ∷ ys) i (beginnings xs))))

pub beginnings_more : {X : Type 0} (xs : List X) (i j : ℕ) → j ≡ i + 1 → i < length xs → take j (beginnings xs) ≡ take i (beginnings xs) ++ take j xs ∷ []
beginnings_more xs i j e h = let is : j ≡ suc i = omega arith in
    ap (λ k. take k (beginnings xs)) is ∙ begins_more xs i h ∙ ap (λ k. take i (beginnings xs) ++ take k xs ∷ []) (sym is)

pub length-beginnings : {X : Type 0} (xs : List X) → length (beginnings xs) ≡ length xs
length-beginnings [] = refl
length-beginnings (x ∷ xs) = ap suc (length-map (beginnings xs) (λ ys. x ∷ ys) ∙ length-beginnings xs)
