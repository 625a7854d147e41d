-- Members of lists, and lists all of whose members are known.
use Rattle.std.proofs.Common.{◌≡◌, ℕ, zero, suc, ◌-◌, ◌<◌, List, [], ◌∷◌, ◌++◌, map, filter, length, take, get_or, Bool, true, false, if◌then◌else◌, refl, sym, ap, subst, ◌∙◌, arith, inl, inr, length-append, append_assoc}
use Rattle.std.proofs.lemmas.List.{length-take}
use Rattle.std.specs.List.{flat_map}
use Rattle.sigma_base.specs.Lists.{Each}
use Rattle.var_expand.specs.Search.{Has, filled}

pub has_map : {X Y : Type 0} (f : X → Y) (xs : List X) (y : Y) → Has (map f xs) y → (x : X) × Has xs x × (f x ≡ y)
has_map f [] y h = absurd h
has_map f (x ∷ xs) y (inl e) = (x, inl refl, e)
has_map f (x ∷ xs) y (inr h) = let r = has_map f xs y h in (r.0, inr r.1, r.2)

pub has_filter : {X : Type 0} (p : X → Bool) (xs : List X) (x : X) → Has xs x → p x ≡ true → Has (filter p xs) x
has_filter p [] x h e = absurd h
has_filter {X = X} p (y ∷ xs) x (inl is) e = go (p y) (ap p is ∙ e)
  where
    go : (b : Bool) → b ≡ true → Has (if b then y ∷ filter p xs else filter p xs) x
    go true h = inl is
    go false h = absurd (cc)
has_filter {X = X} p (y ∷ xs) x (inr h) e = go (p y) (has_filter p xs x h e)
  where
    go : (b : Bool) → Has (filter p xs) x → Has (if b then y ∷ filter p xs else filter p xs) x
    go true h = inr h
    go false h = h

pub has_at : {X : Type 0} (xs : List X) (x : X) → Has xs x → (k : ℕ) × (k < length xs) × (get_or xs k x ≡ x)
has_at [] x h = absurd h
has_at (y ∷ xs) x (inl e) = (0, omega arith, e)
has_at (y ∷ xs) x (inr h) = let r = has_at xs x h in (suc r.0, omega (arith, r.1), r.2)

pub each_has : {X : Type 0} (P : X → Type 0) (xs : List X) (x : X) → Each P xs → Has xs x → P x
each_has P [] x h k = absurd k
each_has P (y ∷ xs) x h (inl e) = subst P e h.0
each_has P (y ∷ xs) x h (inr k) = each_has P xs x h.1 k

pub each_where : {X : Type 0} (P : X → Type 0) (xs : List X) → ((x : X) → Has xs x → P x) → Each P xs
each_where P [] f = tt
each_where P (x ∷ xs) f = (f x (inl refl), each_where P xs (λ y h. f y (inr h)))

pub each_mapped : {X Y : Type 0} (P : Y → Type 0) (f : X → Y) (xs : List X) → Each (λ x. P (f x)) xs → Each P (map f xs)
each_mapped P f [] h = tt
each_mapped P f (x ∷ xs) h = (h.0, each_mapped P f xs h.1)

pub each_joined : {X : Type 0} (P : X → Type 0) (xs ys : List X) → Each P xs → Each P ys → Each P (xs ++ ys)
each_joined P [] ys h k = k
each_joined P (x ∷ xs) ys h k = (h.0, each_joined P xs ys h.1 k)

pub each_flat : {X Y : Type 0} (P : Y → Type 0) (f : X → List Y) (xs : List X) → Each (λ x. Each P (f x)) xs → Each P (flat_map f xs)
each_flat P f [] h = tt
each_flat P f (x ∷ xs) h = each_joined P (f x) (flat_map f xs) h.0 (each_flat P f xs h.1)

pub none_kept : {X : Type 0} (p : X → Bool) (xs : List X) → Each (λ x. p x ≡ false) xs → filter p xs ≡ []
none_kept p [] h = refl
none_kept p (x ∷ xs) h = ap (λ b. if b then x ∷ filter p xs else filter p xs) h.0 ∙ none_kept p xs h.1

pub kept_alike : {X : Type 0} (p q : X → Bool) (xs : List X) → Each (λ x. p x ≡ q x) xs → filter p xs ≡ filter q xs
kept_alike p q [] h = refl
kept_alike p q (x ∷ xs) h = ap (λ b. if b then x ∷ filter p xs else filter p xs) h.0 ∙ ap (λ ys. if q x then x ∷ ys else ys) (kept_alike p q xs h.1)

-- what is left out adds nothing
pub only_kept : {X Y : Type 0} (p : X → Bool) (f : X → List Y) (xs : List X) → Each (λ x. p x ≡ false → f x ≡ []) xs → flat_map f (filter p xs) ≡ flat_map f xs
only_kept p f [] h = refl
only_kept {X = X} {Y = Y} p f (x ∷ xs) h = go (p x) h.0 (only_kept p f xs h.1)
  where
    go : (b : Bool) → (b ≡ false → f x ≡ []) → flat_map f (filter p xs) ≡ flat_map f xs → flat_map f (if b then x ∷ filter p xs else filter p xs) ≡ f x ++ flat_map f xs
    go true none e = ap (λ ys. f x ++ ys) e
    go false none e = e ∙ sym (ap (λ ys. ys ++ flat_map f xs) (none refl))

-- ---- as many as there is room for

take_none : {X : Type 0} (xs : List X) → take 0 xs ≡ []
take_none [] = refl
take_none (x ∷ xs) = refl

take_parts : {X : Type 0} (n : ℕ) (xs ys : List X) → take n (xs ++ ys) ≡ take n xs ++ take (n - length xs) ys
take_parts zero [] ys = refl
take_parts {X = X} (suc n) [] ys = let e : suc n ≡ suc n - length {A = X} [] = omega arith in ap (λ k. take k ys) e
take_parts zero (x ∷ xs) ys = let e : 0 - length (x ∷ xs) ≡ 0 = omega arith in sym (ap (λ k. take k ys) e ∙ take_none ys)
take_parts (suc n) (x ∷ xs) ys = let e : suc n - length (x ∷ xs) ≡ n - length xs = omega arith in
    ap (λ zs. x ∷ zs) (take_parts n xs ys) ∙ sym (ap (λ k. x ∷ (take n xs ++ take k ys)) e)

pub append_none : {X : Type 0} (xs : List X) → xs ++ [] ≡ xs
append_none [] = refl
append_none (x ∷ xs) = ap (λ ys. x ∷ ys) (append_none xs)

take_nil : {X : Type 0} (n : ℕ) → take {A = X} n [] ≡ []
take_nil zero = refl
take_nil (suc n) = refl

pub filled_nothing : {X : Type 0} (found more : List X) → more ≡ [] → filled found more ≡ found
filled_nothing found more e = ap (filled found) e ∙ ap (λ ys. found ++ ys) (take_nil (20001 - length found)) ∙ append_none found

pub filled_full : {X : Type 0} (found more : List X) → 20000 < length found → filled found more ≡ found
filled_full found more h = let e : 20001 - length found ≡ 0 = omega arith in
    ap (λ k. found ++ take k more) e ∙ ap (λ ys. found ++ ys) (take_none more) ∙ append_none found

pub filled_twice : {X : Type 0} (found xs ys : List X) → filled (filled found xs) ys ≡ filled found (xs ++ ys)
filled_twice found xs ys =
    let room = 20001 - length found in
    let e : 20001 - length (found ++ take room xs) ≡ room - length xs = omega (arith, length-append found (take room xs), length-take room xs) in
    ap (λ k. (found ++ take room xs) ++ take k ys) e ∙ append_assoc found (take room xs) (take (room - length xs) ys)
    ∙ ap (λ zs. found ++ zs) (sym (take_parts room xs ys))
