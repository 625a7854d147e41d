-- Names gathered one form after another are each found once, at their first place.
use Rattle.std.proofs.Common.{◌≡◌, ℕ, ◌+◌, ◌<◌, List, [], ◌∷◌, ◌++◌, map, take, length, get_or, filter, Bool, true, false, not, ◌||◌, ◌&&◌, if◌then◌else◌, refl, sym, ap, ◌∙◌, append_assoc}
use Rattle.std.specs.List.{list_any}
use Rattle.std.specs.Str.{bytes_eq}
use Rattle.std.proofs.lemmas.List.{map_more, take_more}
use Rattle.std.proofs.lemmas.Slice.Eq.{bytes_eq-Decides}
use Rattle.sigma_base.specs.Lists.{Each, each_filter}
use Rattle.kif_tree.specs.declared.clause.Literal.{Literal}
use Rattle.kif_tree.specs.Terms.{Bytes, variables, joined, distinct, joined_once}
use Rattle.kif_tree.specs.Clauses.{Literals, clause_variables}
use Rattle.kif_tree.specs.NameLaws.{filter_both, filter_alike}

abbrev is_new : List Bytes → Bytes → Bool
is_new found name = not (list_any (bytes_eq name) found)

-- ---- one more name

any_append : (name : Bytes) (xs ys : List Bytes) → list_any (bytes_eq name) (xs ++ ys) ≡ (list_any (bytes_eq name) xs || list_any (bytes_eq name) ys)
any_append name [] ys = refl
any_append name (x ∷ xs) ys = ap (λ (b : Bool). bytes_eq name x || b) (any_append name xs ys) ∙ sym (regroup (bytes_eq name x) (list_any (bytes_eq name) xs) (list_any (bytes_eq name) ys))
  where
    regroup : (a b c : Bool) → ((a || b) || c) ≡ (a || (b || c))
    regroup true b c = refl
    regroup false b c = refl

pub flipped : (a b : Bytes) → bytes_eq a b ≡ bytes_eq b a
flipped a b = by_case (bytes_eq a b) (bytes_eq b a) refl refl
  where
    by_case : (x y : Bool) → bytes_eq a b ≡ x → bytes_eq b a ≡ y → x ≡ y
    by_case true true e f = refl
    by_case false false e f = refl
    by_case true false e f = let back : bytes_eq b a ≡ true = (bytes_eq-Decides b a).1 (sym ((bytes_eq-Decides a b).0 e)) in let no_way : false ≡ true = sym f ∙ back in absurd (cc)
    by_case false true e f = let back : bytes_eq a b ≡ true = (bytes_eq-Decides a b).1 (sym ((bytes_eq-Decides b a).0 f)) in let no_way : false ≡ true = sym e ∙ back in absurd (cc)

-- a name that was found already adds nothing
found_again : (found : List Bytes) (x : Bytes) → list_any (bytes_eq x) found ≡ true → (y : Bytes) → (not (bytes_eq x y) && is_new found y) ≡ is_new found y
found_again found x here y = by_case (bytes_eq x y) refl
  where
    by_case : (b : Bool) → bytes_eq x y ≡ b → (not b && is_new found y) ≡ is_new found y
    by_case true e = let here_too : list_any (bytes_eq y) found ≡ true = ap (λ z. list_any (bytes_eq z) found) (sym ((bytes_eq-Decides x y).0 e)) ∙ here in ap not (sym here_too)
    by_case false e = refl

one_more : (found : List Bytes) (x y : Bytes) → (not (bytes_eq x y) && is_new found y) ≡ is_new (found ++ x ∷ []) y
one_more found x y = ap (λ b. not b && is_new found y) (flipped x y) ∙ by_case (bytes_eq y x) (list_any (bytes_eq y) found) ∙ ap not (sym (any_append y found (x ∷ [])))
  where
    by_case : (b c : Bool) → (not b && not c) ≡ not (c || (b || false))
    by_case true true = refl
    by_case true false = refl
    by_case false true = refl
    by_case false false = refl

-- a name and then more
step_found : (found : List Bytes) (x : Bytes) (xs : List Bytes) → list_any (bytes_eq x) found ≡ true → joined_once found (x ∷ xs) ≡ joined_once found xs
step_found found x xs here =
    ap (λ (zs : List Bytes). found ++ zs)
    (ap (λ (b : Bool). if not b then x ∷ filter (is_new found) (filter (λ other. not (bytes_eq x other)) (distinct xs)) else filter (is_new found) (filter (λ other. not (bytes_eq x other)) (distinct xs))) here
    ∙ filter_both (is_new found) (λ other. not (bytes_eq x other)) (distinct xs)
    ∙ filter_alike (λ y. not (bytes_eq x y) && is_new found y) (is_new found) (found_again found x here) (distinct xs))

step_new : (found : List Bytes) (x : Bytes) (xs : List Bytes) → list_any (bytes_eq x) found ≡ false → joined_once found (x ∷ xs) ≡ joined_once (found ++ x ∷ []) xs
step_new found x xs absent =
    ap (λ (zs : List Bytes). found ++ zs)
    (ap (λ (b : Bool). if not b then x ∷ filter (is_new found) (filter (λ other. not (bytes_eq x other)) (distinct xs)) else filter (is_new found) (filter (λ other. not (bytes_eq x other)) (distinct xs))) absent
    ∙ ap (λ (zs : List Bytes). x ∷ zs) (filter_both (is_new found) (λ other. not (bytes_eq x other)) (distinct xs)
    ∙ filter_alike (λ y. not (bytes_eq x y) && is_new found y) (is_new (found ++ x ∷ [])) (one_more found x) (distinct xs)))
    ∙ sym (append_assoc found (x ∷ []) (filter (is_new (found ++ x ∷ [])) (distinct xs)))

right_unit : {X : Type 0} (xs : List X) → xs ++ [] ≡ xs
right_unit [] = refl
right_unit {X = X} (x ∷ xs) = ap (λ (zs : List X). x ∷ zs) (right_unit xs)

pub joined_once-none : (found : List Bytes) → joined_once found [] ≡ found
joined_once-none found = right_unit found

pub joined_once-found : (found : List Bytes) (x : Bytes) → list_any (bytes_eq x) found ≡ true → joined_once found (x ∷ []) ≡ found
joined_once-found found x here = step_found found x [] here ∙ joined_once-none found

pub joined_once-new : (found : List Bytes) (x : Bytes) → list_any (bytes_eq x) found ≡ false → joined_once found (x ∷ []) ≡ found ++ x ∷ []
joined_once-new found x absent = step_new found x [] absent ∙ joined_once-none (found ++ x ∷ [])

-- names and then more names
pub joined_once-append : (found xs ys : List Bytes) → joined_once found (xs ++ ys) ≡ joined_once (joined_once found xs) ys
joined_once-append found [] ys = ap (λ (zs : List Bytes). joined_once zs ys) (sym (joined_once-none found))
joined_once-append found (x ∷ xs) ys = by_case (list_any (bytes_eq x) found) refl (joined_once-append found xs ys) (joined_once-append (found ++ x ∷ []) xs ys)
  where
    by_case : (b : Bool) → list_any (bytes_eq x) found ≡ b → joined_once found (xs ++ ys) ≡ joined_once (joined_once found xs) ys
        → joined_once (found ++ x ∷ []) (xs ++ ys) ≡ joined_once (joined_once (found ++ x ∷ []) xs) ys → joined_once found (x ∷ (xs ++ ys)) ≡ joined_once (joined_once found (x ∷ xs)) ys
    by_case true e kept added = step_found found x (xs ++ ys) e ∙ kept ∙ ap (λ (zs : List Bytes). joined_once zs ys) (sym (step_found found x xs e))
    by_case false e kept added = step_new found x (xs ++ ys) e ∙ added ∙ ap (λ (zs : List Bytes). joined_once zs ys) (sym (step_new found x xs e))

keep_all : (xs : List Bytes) → filter (is_new []) xs ≡ xs
keep_all [] = refl
keep_all (x ∷ xs) = ap (λ (zs : List Bytes). x ∷ zs) (keep_all xs)

pub joined_once-start : (xs : List Bytes) → joined_once [] xs ≡ distinct xs
joined_once-start xs = keep_all (distinct xs)

joined_snoc : (xss : List (List Bytes)) (xs : List Bytes) → joined (xss ++ xs ∷ []) ≡ joined xss ++ xs
joined_snoc [] xs = right_unit xs
joined_snoc (ys ∷ xss) xs = ap (λ (zs : List Bytes). ys ++ zs) (joined_snoc xss xs) ∙ sym (append_assoc ys (joined xss) xs)

-- at the item of a loop
pub joined_once_more : {X : Type 0} (names : X → List Bytes) (found : List Bytes) (xs : List X) (i : ℕ) (x : X) → i < length xs → x ≡ get_or xs i x
    → joined_once found (joined (map names (take (i + 1) xs))) ≡ joined_once (joined_once found (joined (map names (take i xs)))) (names x)
joined_once_more {X = X} names found xs i x lt is =
    ap (λ (xss : List (List Bytes)). joined_once found (joined xss)) (map_more names xs i x lt)
    ∙ ap (joined_once found) (joined_snoc (map names (take i xs)) (names (get_or xs i x)))
    ∙ joined_once-append found (joined (map names (take i xs))) (names (get_or xs i x))
    ∙ ap (λ (y : X). joined_once (joined_once found (joined (map names (take i xs)))) (names y)) (sym is)

-- ---- literals

variables-append : (xs ys : Literals) → clause_variables (xs ++ ys) ≡ clause_variables xs ++ clause_variables ys
variables-append [] ys = refl
variables-append (x ∷ xs) ys =
    ap (λ names. variables x.atom ++ names) (variables-append xs ys) ∙ sym (append_assoc (variables x.atom) (clause_variables xs) (clause_variables ys))

pub names_more : (found : List Bytes) (xs : Literals) (i : ℕ) (x : Literal) → i < length xs → x ≡ get_or xs i x
    → joined_once found (clause_variables (take (i + 1) xs)) ≡ joined_once (joined_once found (clause_variables (take i xs))) (variables x.atom)
names_more found xs i x below is =
    ap (λ (ls : Literals). joined_once found (clause_variables ls)) (take_more xs i x below)
    ∙ ap (joined_once found) (variables-append (take i xs) (get_or xs i x ∷ []))
    ∙ joined_once-append found (clause_variables (take i xs)) (variables (get_or xs i x).atom ++ [])
    ∙ ap (joined_once (joined_once found (clause_variables (take i xs)))) (right_unit (variables (get_or xs i x).atom))
    ∙ ap (λ (l : Literal). joined_once (joined_once found (clause_variables (take i xs))) (variables l.atom)) (sym is)

-- ---- what holds of each name

pub each_distinct : (P : Bytes → Type 0) (names : List Bytes) → Each P names → Each P (distinct names)
each_distinct P [] h = tt
each_distinct P (name ∷ names) h = (h.0, each_filter P (λ other. not (bytes_eq name other)) (distinct names) (each_distinct P names h.1))
