-- What is gathered of a list is gathered of it and of its operands.
use Rattle.std.proofs.Common.{◌≡◌, List, [], ◌∷◌, ◌++◌, filter, Bool, true, false, if◌then◌else◌, refl, sym, ap, ap₂, ◌∙◌, append_assoc}
use Rattle.std.specs.List.{flat_map}
use Rattle.kif_tree.specs.declared.form.Form.{Form}
use Rattle.kif_tree.specs.declared.form.Form.TheVariants as form
use Rattle.kif_tree.specs.CompoundLaws.{compounds-List}
use Rattle.kif_tree.specs.Profile.{compounds, operands}
use Rattle.var_expand.specs.Fitting.{varies}
use Rattle.var_expand.specs.Gathered.{if_varies, applied_below}

pub filter-append : {X : Type 0} (p : X → Bool) (xs ys : List X) → filter p (xs ++ ys) ≡ filter p xs ++ filter p ys
filter-append p [] ys = refl
filter-append p (x ∷ xs) ys = go p x xs ys (p x) (filter-append p xs ys)
  where
    go : {X : Type 0} (p : X → Bool) (x : X) (xs ys : List X) (b : Bool) → filter p (xs ++ ys) ≡ filter p xs ++ filter p ys
        → (if b then x ∷ filter p (xs ++ ys) else filter p (xs ++ ys)) ≡ (if b then x ∷ filter p xs else filter p xs) ++ filter p ys
    go p x xs ys true e = ap (λ zs. x ∷ zs) e
    go p x xs ys false e = e

pub filter-flat_map : {X Y : Type 0} (p : Y → Bool) (f : X → List Y) (xs : List X) → filter p (flat_map f xs) ≡ flat_map (λ x. filter p (f x)) xs
filter-flat_map p f [] = refl
filter-flat_map p f (x ∷ xs) = filter-append p (f x) (flat_map f xs) ∙ ap (λ ys. filter p (f x) ++ ys) (filter-flat_map p f xs)

pub flat_map-append : {X Y : Type 0} (f : X → List Y) (xs ys : List X) → flat_map f (xs ++ ys) ≡ flat_map f xs ++ flat_map f ys
flat_map-append f [] ys = refl
flat_map-append f (x ∷ xs) ys = ap (λ zs. f x ++ zs) (flat_map-append f xs ys) ∙ sym (append_assoc (f x) (flat_map f xs) (flat_map f ys))

pub flat_map-flat_map : {X Y Z : Type 0} (g : Y → List Z) (f : X → List Y) (xs : List X) → flat_map g (flat_map f xs) ≡ flat_map (λ x. flat_map g (f x)) xs
flat_map-flat_map g f [] = refl
flat_map-flat_map g f (x ∷ xs) = flat_map-append g (f x) (flat_map f xs) ∙ ap (λ ys. flat_map g (f x) ++ ys) (flat_map-flat_map g f xs)

first_kept : (parts : List Form) (rest : List (List Form)) → filter varies (parts ∷ rest) ≡ if_varies parts ++ filter varies rest
first_kept parts rest = go (varies parts)
  where
    go : (b : Bool) → (if b then parts ∷ filter varies rest else filter varies rest) ≡ (if b then parts ∷ [] else []) ++ filter varies rest
    go true = refl
    go false = refl

pub lists_of : (parts : List Form) → filter varies (compounds (form.List parts)) ≡ if_varies parts ++ flat_map (λ part. filter varies (compounds part)) (operands parts)
lists_of parts = ap (filter varies) (compounds-List parts) ∙ first_kept parts (flat_map compounds (operands parts))
    ∙ ap (λ more. if_varies parts ++ more) (filter-flat_map varies compounds (operands parts))

pub applied_of : (logical : Bool) (parts : List Form)
    → flat_map (applied_below logical) (compounds (form.List parts)) ≡ applied_below logical parts ++ flat_map (λ part. flat_map (applied_below logical) (compounds part)) (operands parts)
applied_of logical parts = ap (flat_map (applied_below logical)) (compounds-List parts)
    ∙ ap (λ more. applied_below logical parts ++ more) (flat_map-flat_map (applied_below logical) compounds (operands parts))

pub ruleset gather_laws = (lists_of, applied_of, append_assoc)
