-- What the patterns and ranges of slices say of their lists.
use Rattle.std.proofs.Common.{◌≡◌, ℕ, ◌-◌, ◌<◌, ◌≤◌, List, [], ◌∷◌, take, drop, length, get_or, refl, sym, ap, ap₂, arith, length-drop}
use Rattle.std.proofs.lemmas.List.{take_all}

-- after `[]`
pub no_items : {X : Type 0} (xs : List X) → length xs < 1 → xs ≡ []
no_items [] h = refl
no_items (x ∷ xs) h = absurd (omega arith)

-- after `[x]`
pub one_item : {X : Type 0} (xs : List X) (x : X) → 1 ≤ length xs → length xs < 2 → x ≡ get_or xs 0 x → xs ≡ x ∷ []
one_item [] x h k is = absurd (omega arith)
one_item (y ∷ []) x h k is = ap (λ z. z ∷ []) (sym is)
one_item (y ∷ z ∷ ys) x h k is = absurd (omega arith)

-- after `[x, rest @ ..]`
pub first_item : {X : Type 0} (xs : List X) (x : X) → 1 ≤ length xs → x ≡ get_or xs 0 x → xs ≡ x ∷ take (length xs - 1) (drop 1 xs)
first_item [] x h is = absurd (omega arith)
first_item (y ∷ ys) x h is = ap₂ ◌∷◌ (sym is) (sym (take_all (length (y ∷ ys) - 1) ys (omega arith)))

-- after `[x, y, rest @ ..]`
pub two_items : {X : Type 0} (xs : List X) (x y : X) → 2 ≤ length xs → x ≡ get_or xs 0 x → y ≡ get_or xs 1 y → xs ≡ x ∷ y ∷ take (length xs - 2) (drop 2 xs)
two_items [] x y h is also = absurd (omega arith)
two_items (v ∷ []) x y h is also = absurd (omega arith)
two_items (v ∷ w ∷ ys) x y h is also = ap₂ ◌∷◌ (sym is) (ap₂ ◌∷◌ (sym also) (sym (take_all (length (v ∷ w ∷ ys) - 2) ys (omega arith))))

-- `&xs[i..]`
pub to_the_end : {X : Type 0} (xs : List X) (i : ℕ) → take (length xs - i) (drop i xs) ≡ drop i xs
to_the_end xs i = take_all (length xs - i) (drop i xs) (omega (arith, length-drop i xs))
