-- Members of lists.
use Rattle.std.specs.List.{list_any}
use Rattle.sigma_base.specs.Lists.{Each}
use Rattle.std.proofs.Common.{◌≡◌, List, [], ◌∷◌, ◌++◌, map, filter, Bool, true, false, if◌then◌else◌, refl, sym, ap, ◌∙◌, inl, inr, ◌⊎◌, ◌||◌, subst}
use Rattle.calculus.specs.Answers.{Among}
use Rattle.calculus.proofs.TruthLaws.{false_true}

pub among-left : {X : Type 0} (x : X) (xs ys : List X) → Among x xs → Among x (xs ++ ys)
among-left x [] ys h = absurd h
among-left x (y ∷ xs) ys (inl e) = inl e
among-left x (y ∷ xs) ys (inr h) = inr (among-left x xs ys h)

pub among-right : {X : Type 0} (x : X) (xs ys : List X) → Among x ys → Among x (xs ++ ys)
among-right x [] ys h = h
among-right x (y ∷ xs) ys h = inr (among-right x xs ys h)

pub among-parted : {X : Type 0} (x : X) (xs ys : List X) → Among x (xs ++ ys) → Among x xs ⊎ Among x ys
among-parted x [] ys h = inr h
among-parted x (y ∷ xs) ys (inl e) = inl (inl e)
among-parted {X = X} x (y ∷ xs) ys (inr h) = go (among-parted x xs ys h)
  where
    go : Among x xs ⊎ Among x ys → Among x (y ∷ xs) ⊎ Among x ys
    go (inl k) = inl (inr k)
    go (inr k) = inr k

pub among-map : {X Y : Type 0} (f : X → Y) (x : X) (xs : List X) → Among x xs → Among (f x) (map f xs)
among-map f x [] h = absurd h
among-map f x (y ∷ xs) (inl e) = inl (ap f e)
among-map f x (y ∷ xs) (inr h) = inr (among-map f x xs h)

pub among-filter : {X : Type 0} (p : X → Bool) (x : X) → p x ≡ true → (xs : List X) → Among x xs → Among x (filter p xs)
among-filter p x pass [] h = absurd h
among-filter {X = X} p x pass (y ∷ xs) h = go (p y) refl (filter p xs) h (among-filter p x pass xs)
  where
    go : (b : Bool) → p y ≡ b → (rest : List X) → Among x (y ∷ xs) → (Among x xs → Among x rest) → Among x (if b then y ∷ rest else rest)
    go true e rest (inl is) k = inl is
    go true e rest (inr there) k = inr (k there)
    go false e rest (inl is) k = absurd (false_true (sym e ∙ ap p (sym is) ∙ pass))
    go false e rest (inr there) k = k there

pub each_at : {X : Type 0} (P : X → Type 0) (xs : List X) (x : X) → Among x xs → Each P xs → P x
each_at P [] x there each = absurd there
each_at P (y ∷ xs) x (inl e) each = subst P (sym e) each.0
each_at P (y ∷ xs) x (inr there) each = each_at P xs x there each.1

pub later : (b c : Bool) → c ≡ true → (b || c) ≡ true
later true c h = refl
later false c h = h

pub any-among : {X : Type 0} (p : X → Bool) (xs : List X) (x : X) → Among x xs → p x ≡ true → list_any p xs ≡ true
any-among p [] x there h = absurd there
any-among p (y ∷ xs) x (inl e) h = ap (λ (b : Bool). b || list_any p xs) (ap p (sym e) ∙ h)
any-among p (y ∷ xs) x (inr there) h = later (p y) (list_any p xs) (any-among p xs x there h)

pub record Found {X : Type 0} (p : X → Bool) (xs : List X) : Type 0 where
  pub item : X
  pub stands : Among item xs
  pub passes : p item ≡ true

pub found : {X : Type 0} (p : X → Bool) (xs : List X) → list_any p xs ≡ true → Found p xs
found p [] h = absurd (false_true h)
found {X = X} p (y ∷ xs) h = go (p y) refl h (found p xs)
  where
    go : (b : Bool) → p y ≡ b → (b || list_any p xs) ≡ true → (list_any p xs ≡ true → Found p xs) → Found p (y ∷ xs)
    go true e k rest = record { item = y; stands = inl refl; passes = e }
    go false e k rest = let there = rest k in record { item = there.item; stands = inr there.stands; passes = there.passes }

pub any-append : {X : Type 0} (p : X → Bool) (xs ys : List X) → list_any p (xs ++ ys) ≡ (list_any p xs || list_any p ys)
any-append p [] ys = refl
any-append p (x ∷ xs) ys = ap (λ (b : Bool). p x || b) (any-append p xs ys) ∙ regroup (p x) (list_any p xs) (list_any p ys)
  where
    regroup : (a b c : Bool) → (a || (b || c)) ≡ ((a || b) || c)
    regroup true b c = refl
    regroup false b c = refl
