-- The rules in terms of the numbers of literals.
use Rattle.std.proofs.Common.{◌≡◌, ℕ, zero, suc, ◌+◌, ◌<◌, ◌≤◌, List, [], ◌∷◌, ◌++◌, take, drop, length, get_or, Bool, Option, Some, None, sym, refl, ap, ap₂, ◌∙◌, arith, inl, inr, ◌⊎◌, append_assoc, Result, Ok, Err, IfOk}
use Rattle.calculus_programs.specs.Picks.{exchanged}
use Rattle.kif_tree.specs.declared.clause.Literal.{Literal}
use Rattle.kif_tree.specs.Subst.{Filling}
use Rattle.kif_tree.specs.Clauses.{Literals, bind_literal, bind_clause}
use Rattle.calculus.specs.Rules.{Picked, put_first, pick, after, given, others, resolves, resolved, merges, factored, nth}

pub pick-none : {X : Type 0} (xs : List X) (n : ℕ) → length xs ≤ n → pick xs n ≡ None
pick-none [] n h = refl
pick-none (x ∷ xs) zero h = absurd (omega arith)
pick-none (x ∷ xs) (suc n) h = ap (λ o. after o (λ p. Some (put_first x p))) (pick-none xs n (omega arith))

picked_at : {X : Type 0} (xs : List X) (n : ℕ) (d : X) → n < length xs → pick xs n ≡ Some (record { before = take n xs; chosen = get_or xs n d; following = drop (suc n) xs })
picked_at [] n d h = absurd (omega arith)
picked_at (x ∷ xs) zero d h = refl
picked_at (x ∷ xs) (suc n) d h = ap (λ o. after o (λ p. Some (put_first x p))) (picked_at xs n d (omega arith))

-- as an index gives it
pub pick-some : {X : Type 0} (xs : List X) (n : ℕ) (x : X) → n < length xs → x ≡ get_or xs n x → pick xs n ≡ Some (record { before = take n xs; chosen = x; following = drop (n + 1) xs })
pick-some {X = X} xs n x h is =
    picked_at xs n x h
    ∙ ap₂ (λ (y : X) (m : ℕ). let made : Picked X = record { before = take n xs; chosen = y; following = drop m xs } in Some made) (sym is) (let e : suc n ≡ n + 1 = omega arith in e)

pub nth-none : {X : Type 0} (xs : List X) (n : ℕ) → length xs ≤ n → nth xs n ≡ None
nth-none [] n h = refl
nth-none (x ∷ xs) zero h = absurd (omega arith)
nth-none (x ∷ xs) (suc n) h = nth-none xs n (omega arith)

pub nth-some : {X : Type 0} (xs : List X) (n : ℕ) (x : X) → n < length xs → x ≡ get_or xs n x → nth xs n ≡ Some x
nth-some [] n x h is = absurd (omega arith)
nth-some (y ∷ xs) zero x h is = ap Some (sym is)
nth-some (y ∷ xs) (suc n) x h is = nth-some xs n x (omega arith) is

pub nowhere : {A B : Type 0} (o : Option A) → after o (λ a. let none : Option B = None in none) ≡ None
nowhere None = refl
nowhere (Some a) = refl

pub bind-append : (f : Filling) (xs ys : Literals) → bind_clause f (xs ++ ys) ≡ bind_clause f xs ++ bind_clause f ys
bind-append f [] ys = refl
bind-append f (x ∷ xs) ys = ap (λ zs. bind_literal f x ∷ zs) (bind-append f xs ys)

-- ---- resolution

abbrev right_of : Literals → Filling → Literals → ℕ → Filling → Picked Literal → Option Literals
right_of left f right j g l = after (pick right j) (λ r. given (resolves f g l.chosen r.chosen) (Some (bind_clause f (others l) ++ bind_clause g (others r))))

pub resolved_none : (left : Literals) (i : ℕ) (f : Filling) (right : Literals) (j : ℕ) (g : Filling) → (length left ≤ i) ⊎ (length right ≤ j) → resolved left i f right j g ≡ None
resolved_none left i f right j g (inl h) = ap (λ o. after o (right_of left f right j g)) (pick-none left i h)
resolved_none left i f right j g (inr h) =
    ap (λ o. after (pick left i) (λ l. after o (λ r. given (resolves f g l.chosen r.chosen) (Some (bind_clause f (others l) ++ bind_clause g (others r)))))) (pick-none right j h) ∙ nowhere (pick left i)

abbrev pub apart : Literals → ℕ → Literals
apart xs n = take n xs ++ drop (n + 1) xs

pub resolved_at : (left : Literals) (i : ℕ) (f : Filling) (right : Literals) (j : ℕ) (g : Filling) (l r : Literal) → i < length left → j < length right → l ≡ get_or left i l → r ≡ get_or right j r
    → (b : Bool) → b ≡ resolves f g l r → resolved left i f right j g ≡ given b (Some (bind_clause f (apart left i) ++ bind_clause g (apart right j)))
resolved_at left i f right j g l r hi hj el er b is =
    ap₂ (λ (o p : Option (Picked Literal)). after o (λ l. after p (λ r. given (resolves f g l.chosen r.chosen) (Some (bind_clause f (others l) ++ bind_clause g (others r))))))
    (pick-some left i l hi el) (pick-some right j r hj er)
    ∙ ap (λ (c : Bool). given c (Some (bind_clause f (apart left i) ++ bind_clause g (apart right j)))) (sym is)

-- ---- factoring

pub factored_none : (clause : Literals) (i j : ℕ) (f : Filling) → length clause ≤ j → factored clause i j f ≡ None
factored_none clause i j f h = ap (λ o. after o (λ d. after (pick d.before i) (λ k. given (merges f k.chosen d.chosen) (Some (bind_clause f (others d)))))) (pick-none clause j h)

length-take-at : {X : Type 0} (n : ℕ) (xs : List X) → n < length xs → length (take n xs) ≡ n
length-take-at zero xs h = refl
length-take-at (suc n) [] h = absurd (omega arith)
length-take-at (suc n) (x ∷ xs) h = let rest = length-take-at n xs (omega arith) in omega (arith, rest)

get-take : {X : Type 0} (n i : ℕ) (xs : List X) (d : X) → i < n → n < length xs → get_or (take n xs) i d ≡ get_or xs i d
get-take zero i xs d below h = absurd (omega arith)
get-take (suc n) i [] d below h = absurd (omega arith)
get-take (suc n) zero (x ∷ xs) d below h = refl
get-take (suc n) (suc i) (x ∷ xs) d below h = get-take n i xs d (omega arith) (omega arith)

-- the number names some literal
pub some_item : {X : Type 0} (xs : List X) (n : ℕ) → n < length xs → (x : X) × (x ≡ get_or xs n x)
some_item [] n h = absurd (omega arith)
some_item (x ∷ xs) zero h = (x, refl)
some_item {X = X} (x ∷ xs) (suc n) h = let rest = some_item xs n (omega arith) in (rest.0, rest.1)

pub factored_not_before : (clause : Literals) (i j : ℕ) (f : Filling) → j < length clause → j ≤ i → factored clause i j f ≡ None
factored_not_before clause i j f h le =
    let d = some_item clause j h in
    let short : length (take j clause) ≤ i = omega (arith, length-take-at j clause h) in
    ap (λ o. after o (λ d. after (pick d.before i) (λ k. given (merges f k.chosen d.chosen) (Some (bind_clause f (others d)))))) (pick-some clause j d.0 h d.1)
    ∙ ap (λ o. after o (λ k. given (merges f k.chosen d.0) (Some (bind_clause f (apart clause j))))) (pick-none (take j clause) i short)

pub factored_at : (clause : Literals) (i j : ℕ) (f : Filling) (k d : Literal) → j < length clause → i < j → k ≡ get_or clause i k → d ≡ get_or clause j d
    → (b : Bool) → b ≡ merges f k d → factored clause i j f ≡ given b (Some (bind_clause f (apart clause j)))
factored_at clause i j f k d h below ek ed b is =
    let in_front : i < length (take j clause) = omega (arith, length-take-at j clause h) in
    let there : k ≡ get_or (take j clause) i k = ek ∙ sym (get-take j i clause k below h) in
    ap (λ o. after o (λ d. after (pick d.before i) (λ k. given (merges f k.chosen d.chosen) (Some (bind_clause f (others d)))))) (pick-some clause j d h ed)
    ∙ ap (λ o. after o (λ k. given (merges f k.chosen d) (Some (bind_clause f (apart clause j))))) (pick-some (take j clause) i k in_front there)
    ∙ ap (λ (c : Bool). given c (Some (bind_clause f (apart clause j)))) (sym is)

pub same_item : {X : Type 0} (xs : List X) (n : ℕ) (x y : X) → n < length xs → x ≡ get_or xs n x → y ≡ get_or xs n y → x ≡ y
same_item [] n x y h ex ey = absurd (omega arith)
same_item (z ∷ xs) zero x y h ex ey = ex ∙ sym ey
same_item (z ∷ xs) (suc n) x y h ex ey = same_item xs n x y (omega arith) ex ey

pub ok_map : {A E : Type 0} (r : Result A E) (P Q : A → Type 0) → ((a : A) → P a → Q a) → IfOk r P → IfOk r Q
ok_map (Ok a) P Q f h = f a h
ok_map (Err e) P Q f h = tt

pub exchanged_is : (source : Literals) (i : ℕ) (f : Filling) (target : Literals) (j : ℕ) (g : Filling) (l : Literal)
    → ((bind_clause f (apart source i) ++ bind_clause g (take j target)) ++ l ∷ []) ++ bind_clause g (drop (j + 1) target) ≡ exchanged source i f target j g l
exchanged_is source i f target j g l =
    append_assoc (bind_clause f (apart source i) ++ bind_clause g (take j target)) (l ∷ []) (bind_clause g (drop (j + 1) target))
    ∙ append_assoc (bind_clause f (apart source i)) (bind_clause g (take j target)) (l ∷ bind_clause g (drop (j + 1) target))
