-- Diagnostics that are added one after another.
use Rattle.std.proofs.Common.{◌≡◌, ℕ, zero, suc, ◌+◌, ◌<◌, ◌≤◌, ◌⊎◌, List, [], ◌∷◌, ◌++◌, length, get_or, take, refl, sym, ap, subst, ◌∙◌, arith, inl, inr}
use Rattle.std.specs.Prelude.{Contains}
use Rattle.std.proofs.lemmas.List.{take_more, take_all}
use Rattle.std.proofs.lemmas.List.Elements.{Contains-append_left, Contains-push, Contains-push_cases}
use Rattle.diagnose.specs.Found.{Adds, OfSome}
use Rattle.diagnose.specs.declared.diagnostic.Diagnostic.{Diagnostic}

-- ---- elements of lists

pub contains_nothing : {X : Type 0} (x : X) → Contains [] x → ⊥
contains_nothing x (k, lt, is) = omega (arith, lt)

pub contains_first : {X : Type 0} (x : X) (xs : List X) → Contains (x ∷ xs) x
contains_first x xs = (0, omega arith, refl)

pub contains_later : {X : Type 0} (first : X) (xs : List X) (x : X) → Contains xs x → Contains (first ∷ xs) x
contains_later first xs x (k, lt, is) = (suc k, omega (arith, lt), is)

pub contains_cases : {X : Type 0} (first : X) (xs : List X) (x : X) → Contains (first ∷ xs) x → (first ≡ x) ⊎ Contains xs x
contains_cases first xs x (zero, lt, is) = inl is
contains_cases first xs x (suc k, lt, is) = inr (k, omega (arith, lt), is)

-- ---- additions

-- nothing was to be added
pub adds_none : (P : Diagnostic → Type 0) (list : List Diagnostic) → ((d : Diagnostic) → P d → ⊥) → Adds P list list
adds_none P list none = record {
  kept = λ d h. h;
  added = λ d p. absurd (none d p);
  only = λ d h. inl h;
}

-- one was to be added, and was pushed
pub adds_one : (P : Diagnostic → Type 0) (old new : List Diagnostic) (one : Diagnostic) → new ≡ old ++ one ∷ [] → P one → ((d : Diagnostic) → P d → one ≡ d) → Adds P old new
adds_one P old new one pushed p alone = subst (Adds P old) (sym pushed) (record {
  kept = λ d h. Contains-append_left old (one ∷ []) d h;
  added = λ d q. subst (Contains (old ++ one ∷ [])) (alone d q) (Contains-push old one);
  only = λ d h. from d (Contains-push_cases old one d h);
})
  where
    from : (d : Diagnostic) → Contains old d ⊎ (one ≡ d) → Contains old d ⊎ P d
    from d (inl h) = inl h
    from d (inr e) = inr (subst P e p)

-- the same diagnostics, said in other words
pub adds_same : (P Q : Diagnostic → Type 0) (old new : List Diagnostic) → ((d : Diagnostic) → P d → Q d) → ((d : Diagnostic) → Q d → P d) → Adds P old new → Adds Q old new
adds_same P Q old new to back h = record {
  kept = h.kept;
  added = λ d q. h.added d (back d q);
  only = λ d c. from d (h.only d c);
}
  where
    from : (d : Diagnostic) → Contains old d ⊎ P d → Contains old d ⊎ Q d
    from d (inl c) = inl c
    from d (inr p) = inr (to d p)

-- two additions in turn
pub adds_both : (P Q : Diagnostic → Type 0) (old mid new : List Diagnostic) → Adds P old mid → Adds Q mid new → Adds (λ d. P d ⊎ Q d) old new
adds_both P Q old mid new first second = record {
  kept = λ d c. second.kept d (first.kept d c);
  added = λ d e. there d e;
  only = λ d c. from d (second.only d c);
}
  where
    there : (d : Diagnostic) → P d ⊎ Q d → Contains new d
    there d (inl p) = second.kept d (first.added d p)
    there d (inr q) = second.added d q

    early : (d : Diagnostic) → Contains old d ⊎ P d → Contains old d ⊎ (P d ⊎ Q d)
    early d (inl c) = inl c
    early d (inr p) = inr (inl p)

    from : (d : Diagnostic) → Contains mid d ⊎ Q d → Contains old d ⊎ (P d ⊎ Q d)
    from d (inl c) = early d (first.only d c)
    from d (inr q) = inr (inr q)

-- ---- a loop over a list, each of whose elements adds some

pub none_of_none : {X : Type 0} (P : X → Diagnostic → Type 0) (d : Diagnostic) → OfSome P [] d → ⊥
none_of_none P d h = contains_nothing h.one h.among

-- before the first element
pub adds_at_first : {X : Type 0} (P : X → Diagnostic → Type 0) (list : List Diagnostic) → Adds (OfSome P []) list list
adds_at_first P list = adds_none (OfSome P []) list (none_of_none P)

-- after one more element
pub adds_more : {X : Type 0} (P : X → Diagnostic → Type 0) (xs : List X) (i : ℕ) (x : X) (old mid new : List Diagnostic) → i < length xs → x ≡ get_or xs i x
    → Adds (OfSome P (take i xs)) old mid → Adds (P x) mid new → Adds (OfSome P (take (i + 1) xs)) old new
adds_more {X = X} P xs i x old mid new lt is first second =
    adds_same (λ d. OfSome P (take i xs) d ⊎ P x d) (OfSome P (take (i + 1) xs)) old new to back (adds_both (OfSome P (take i xs)) (P x) old mid new first second)
  where
    longer : take (i + 1) xs ≡ take i xs ++ x ∷ []
    longer = take_more xs i x lt ∙ ap (λ y. take i xs ++ y ∷ []) (sym is)

    to : (d : Diagnostic) → OfSome P (take i xs) d ⊎ P x d → OfSome P (take (i + 1) xs) d
    to d (inl h) = record { one = h.one; among = subst (λ (ys : List X). Contains ys h.one) (sym longer) (Contains-append_left (take i xs) (x ∷ []) h.one h.among); holds = h.holds }
    to d (inr p) = record { one = x; among = subst (λ (ys : List X). Contains ys x) (sym longer) (Contains-push (take i xs) x); holds = p }

    which : (d : Diagnostic) (one : X) → P one d → Contains (take i xs) one ⊎ (x ≡ one) → OfSome P (take i xs) d ⊎ P x d
    which d one p (inl c) = inl (record { one = one; among = c; holds = p })
    which d one p (inr e) = inr (subst (λ (y : X). P y d) (sym e) p)

    back : (d : Diagnostic) → OfSome P (take (i + 1) xs) d → OfSome P (take i xs) d ⊎ P x d
    back d h = which d h.one h.holds (Contains-push_cases (take i xs) x h.one (subst (λ (ys : List X). Contains ys h.one) longer h.among))

-- after an element that adds nothing
pub adds_skip : {X : Type 0} (P : X → Diagnostic → Type 0) (xs : List X) (i : ℕ) (x : X) (old mid : List Diagnostic) → i < length xs → x ≡ get_or xs i x → ((d : Diagnostic) → P x d → ⊥)
    → Adds (OfSome P (take i xs)) old mid → Adds (OfSome P (take (i + 1) xs)) old mid
adds_skip P xs i x old mid lt is none first = adds_more P xs i x old mid mid lt is first (adds_none (P x) mid none)

-- after all elements
pub adds_all : {X : Type 0} (P : X → Diagnostic → Type 0) (xs : List X) (i : ℕ) (old new : List Diagnostic) → length xs ≤ i → Adds (OfSome P (take i xs)) old new → Adds (OfSome P xs) old new
adds_all {X = X} P xs i old new end h = subst (λ (ys : List X). Adds (OfSome P ys) old new) (take_all i xs end) h
