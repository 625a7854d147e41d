-- Steps of the search's loops over offers and options.
use Rattle.std.proofs.Common.{◌≡◌, ℕ, zero, suc, ◌+◌, ◌-◌, ◌<◌, ◌≤◌, ◌⊎◌, List, [], ◌∷◌, ◌++◌, map, filter, length, take, drop, get_or, Bool, true, false, if◌then◌else◌, refl, sym, ap, ap₂, subst, ◌∙◌, arith, inl, inr, append_assoc}
use Rattle.std.proofs.lemmas.List.{take_all}
use Rattle.std.specs.List.{flat_map}
use Rattle.kif_tree.specs.declared.form.Form.{Form}
use Rattle.sigma_base.specs.Lists.{Each}
use Rattle.var_expand.specs.Choices.{Choice, sets, options}
use Rattle.var_expand.specs.Offered.{Offered}
use Rattle.var_expand.specs.Search.{Has, AreOffers, IsOffer, IsBegun, keeps, offered_variable, filled, fitting, relations_of}
use Rattle.var_expand.specs.declared.fitting.Problem.{Problem}
use Rattle.var_expand.proofs.FinalLaws.{each_take, each_drop}
use Rattle.var_expand.proofs.GrowLaws.{begun_more, fitting_next}
use Rattle.var_expand.proofs.MemberLaws.{filled_twice, append_none}

pub first_of_each : {X : Type 0} (P : X → Type 0) (xs : List X) (x : X) → 1 ≤ length xs → x ≡ get_or xs 0 x → Each P xs → P x
first_of_each P [] x le e h = absurd (omega arith)
first_of_each P (y ∷ xs) x le e h = subst P (sym e) h.0

abbrev pub rest_of : {X : Type 0} → List X → List X
rest_of xs = take (length xs - 1) (drop 1 xs)

drop_first : {X : Type 0} (x : X) (xs : List X) → drop 1 (x ∷ xs) ≡ xs
drop_first x [] = refl
drop_first x (y ∷ xs) = refl

after_first : {X : Type 0} (x : X) (xs : List X) → rest_of (x ∷ xs) ≡ xs
after_first x xs = let n : length (x ∷ xs) - 1 ≡ length xs = omega arith in
    ap₂ take n (drop_first x xs) ∙ take_all (length xs) xs (omega arith)

pub split_list : {X : Type 0} (xs : List X) (x : X) → 1 ≤ length xs → x ≡ get_or xs 0 x → xs ≡ x ∷ rest_of xs
split_list [] x le e = absurd (omega arith)
split_list (y ∷ xs) x le e = ap₂ ◌∷◌ (sym e) (sym (after_first y xs))

pub length_rest : {X : Type 0} (xs : List X) (x : X) → 1 ≤ length xs → x ≡ get_or xs 0 x → length xs ≡ suc (length (rest_of xs))
length_rest xs x le e = ap length (split_list xs x le e)

pub rest_offers : (problem : Problem) (offers : List Offered) → AreOffers problem offers → AreOffers problem (rest_of offers)
rest_offers problem offers are = each_take (IsOffer problem) (length offers - 1) (drop 1 offers) (each_drop (IsOffer problem) 1 offers are)

has_get : {X : Type 0} (xs : List X) (i : ℕ) (x : X) → i < length xs → x ≡ get_or xs i x → Has xs x
has_get [] i x lt e = absurd (omega arith)
has_get (y ∷ xs) zero x lt e = inl (sym e)
has_get (y ∷ xs) (suc i) x lt e = inr (has_get xs i x (omega arith) e)

has_before : {X : Type 0} (p : X → Bool) (xs : List X) (x : X) → Has (filter p xs) x → Has xs x
has_before p [] x h = h
has_before {X = X} p (y ∷ xs) x h = go (p y) h (has_before p xs x)
  where
    go : (b : Bool) → Has (if b then y ∷ filter p xs else filter p xs) x → (Has (filter p xs) x → Has xs x) → (y ≡ x) ⊎ Has xs x
    go true (inl e) f = inl e
    go true (inr h) f = inr (f h)
    go false h f = inr (f h)

-- ---- the search

begun_at : (problem : Problem) (p : Choice) (rest : List Offered) (offer : Offered) → 1 ≤ length rest → offer ≡ get_or rest 0 offer → IsBegun problem p (map offered_variable rest)
    → IsBegun problem p (offer.variable ∷ map offered_variable (rest_of rest))
begun_at problem p rest offer le e begun = subst (λ vs. IsBegun problem p vs) (ap (map offered_variable) (split_list rest offer le e)) begun

pub grow_begun : (problem : Problem) (p q : Choice) (rest : List Offered) (offer : Offered) (items : List (List Form)) (i : ℕ) (b : List Form) → q ≡ p
    → IsBegun problem p (map offered_variable rest) → AreOffers problem rest → 1 ≤ length rest → offer ≡ get_or rest 0 offer
    → items ≡ offer.allowed → i < length items → b ≡ get_or items i b → IsBegun problem (q ++ sets offer.variable b ∷ []) (map offered_variable (rest_of rest))
grow_begun problem p q rest offer items i b same begun are le first is lt at =
    let offered : IsOffer problem offer = first_of_each (IsOffer problem) rest offer le first are in
    let has : Has offer.allowed b = subst (λ xs. Has xs b) is (has_get items i b lt at) in
    subst (λ x. IsBegun problem (x ++ sets offer.variable b ∷ []) (map offered_variable (rest_of rest))) (sym same)
    (begun_more problem p offer.variable b (map offered_variable (rest_of rest)) (begun_at problem p rest offer le first begun)
    (has_before (keeps problem offer.variable) (options (relations_of problem) offer.variable) b (subst (λ xs. Has xs b) offered.allows has)))

take_none : {X : Type 0} (xs : List X) → take 0 xs ≡ []
take_none [] = refl
take_none (x ∷ xs) = refl

more_flat : {X Y : Type 0} (f : X → List Y) (xs : List X) (i : ℕ) (x : X) → i < length xs → x ≡ get_or xs i x → flat_map f (take (suc i) xs) ≡ flat_map f (take i xs) ++ f x
more_flat f [] i x lt e = absurd (omega arith)
more_flat f (y ∷ xs) zero x lt e = ap (λ ys. f y ++ ys) (ap (flat_map f) (take_none xs)) ∙ append_none (f y) ∙ sym (ap f e)
more_flat f (y ∷ xs) (suc i) x lt e = ap (λ ys. f y ++ ys) (more_flat f xs i x (omega arith) e) ∙ sym (append_assoc (f y) (flat_map f (take i xs)) (f x))

pub grow_more : (problem : Problem) (p q : Choice) (v : Form) (vs : List Form) (old now new : List Choice) (items : List (List Form)) (i : ℕ) (b : List Form)
    → q ≡ p → i < length items → b ≡ get_or items i b
    → now ≡ filled old (flat_map (λ x. fitting problem (p ++ sets v x ∷ []) vs) (take i items))
    → new ≡ filled now (fitting problem (q ++ sets v b ∷ []) vs)
    → new ≡ filled old (flat_map (λ x. fitting problem (p ++ sets v x ∷ []) vs) (take (i + 1) items))
grow_more problem p q v vs old now new items i b same lt at e h =
    let f : List Form → List Choice = λ x. fitting problem (p ++ sets v x ∷ []) vs in
    let n : i + 1 ≡ suc i = omega arith in
    h ∙ ap₂ (λ x r. filled x (fitting problem (r ++ sets v b ∷ []) vs)) e same
    ∙ filled_twice old (flat_map f (take i items)) (f b)
    ∙ ap (filled old) (sym (more_flat f items i b lt at) ∙ ap (λ k. flat_map f (take k items)) (sym n))

pub grow_end : (problem : Problem) (p : Choice) (rest : List Offered) (offer : Offered) (items : List (List Form)) (i : ℕ) (old now : List Choice)
    → IsBegun problem p (map offered_variable rest) → AreOffers problem rest → 1 ≤ length rest → offer ≡ get_or rest 0 offer → items ≡ offer.allowed → length items ≤ i
    → now ≡ filled old (flat_map (λ x. fitting problem (p ++ sets offer.variable x ∷ []) (map offered_variable (rest_of rest))) (take i items))
    → now ≡ filled old (fitting problem p (map offered_variable rest))
grow_end problem p rest offer items i old now begun are le first is long e =
    let offered : IsOffer problem offer = first_of_each (IsOffer problem) rest offer le first are in
    let f : List Form → List Choice = λ x. fitting problem (p ++ sets offer.variable x ∷ []) (map offered_variable (rest_of rest)) in
    e ∙ ap (λ xs. filled old (flat_map f xs)) (take_all i items long ∙ is)
    ∙ ap (filled old) (fitting_next problem p offer (map offered_variable (rest_of rest)) (begun_at problem p rest offer le first begun) offered
    ∙ ap (fitting problem p) (sym (ap (map offered_variable) (split_list rest offer le first))))
