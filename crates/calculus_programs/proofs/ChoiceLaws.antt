-- Some choice of the atoms that occur satisfies the clauses exactly where some truth assignment does.
use Rattle.std.proofs.Common.{◌≡◌, ℕ, ◌+◌, ◌<◌, List, [], ◌∷◌, ◌++◌, take, length, get_or, filter, Bool, true, false, not, ◌||◌, ◌&&◌, if◌then◌else◌, ◌↔◌, refl, sym, ap, ap₂, ◌∙◌, append_assoc}
use Rattle.std.specs.Bool.{IsTrue}
use Rattle.std.proofs.lemmas.List.{take_more}
use Rattle.sigma_base.specs.Lists.{Each}
use Rattle.kif_tree.specs.declared.form.Form.{Form}
use Rattle.kif_tree.specs.declared.clause.Literal.{Literal}
use Rattle.kif_tree.specs.Terms.{same}
use Rattle.kif_tree.specs.SameLaws.{same-Decides}
use Rattle.kif_tree.specs.Clauses.{Literals}
use Rattle.calculus.specs.Truth.{is_true, holds, satisfies, satisfies_all, Refutes}
use Rattle.calculus.proofs.TruthLaws.{false_true}
use Rattle.calculus.proofs.MemberLaws.{any-append, later}
use Rattle.calculus_programs.specs.Choices.{gathered, gathered_all, some_choice}

-- ---- the loops

gathered-append : (atoms : List Form) (xs ys : Literals) → gathered atoms (xs ++ ys) ≡ gathered (gathered atoms xs) ys
gathered-append atoms [] ys = refl
gathered-append atoms (x ∷ xs) ys = gathered-append (if is_true atoms x.atom then atoms else atoms ++ x.atom ∷ []) xs ys

pub gathered_more : (atoms : List Form) (xs : Literals) (i : ℕ) (x : Literal) → i < length xs → x ≡ get_or xs i x
    → gathered atoms (take (i + 1) xs) ≡ (if is_true (gathered atoms (take i xs)) x.atom then gathered atoms (take i xs) else gathered atoms (take i xs) ++ x.atom ∷ [])
gathered_more atoms xs i x below is =
    ap (gathered atoms) (take_more xs i x below) ∙ gathered-append atoms (take i xs) (get_or xs i x ∷ [])
    ∙ ap (λ (y : Literal). if is_true (gathered atoms (take i xs)) y.atom then gathered atoms (take i xs) else gathered atoms (take i xs) ++ y.atom ∷ []) (sym is)

gathered_all-append : (atoms : List Form) (xs ys : List Literals) → gathered_all atoms (xs ++ ys) ≡ gathered_all (gathered_all atoms xs) ys
gathered_all-append atoms [] ys = refl
gathered_all-append atoms (x ∷ xs) ys = gathered_all-append (gathered atoms x) xs ys

pub gathered_all_more : (atoms : List Form) (xs : List Literals) (i : ℕ) (x : Literals) → i < length xs → x ≡ get_or xs i x → gathered_all atoms (take (i + 1) xs) ≡ gathered (gathered_all atoms (take i xs)) x
gathered_all_more atoms xs i x below is =
    ap (gathered_all atoms) (take_more xs i x below) ∙ gathered_all-append atoms (take i xs) (get_or xs i x ∷ []) ∙ ap (gathered (gathered_all atoms (take i xs))) (sym is)

-- ---- the atoms that occur are gathered

abbrev Covered : List Form → Literals → Type 0
Covered atoms clause = Each (λ (l : Literal). is_true atoms l.atom ≡ true) clause

one_more : (atoms : List Form) (f : Form) (b : Bool) (a : Form) → is_true atoms a ≡ true → is_true (if b then atoms else atoms ++ f ∷ []) a ≡ true
one_more atoms f true a h = h
one_more atoms f false a h = any-append (same a) atoms (f ∷ []) ∙ ap (λ (b : Bool). b || is_true (f ∷ []) a) h

kept : (clause : Literals) (atoms : List Form) (a : Form) → is_true atoms a ≡ true → is_true (gathered atoms clause) a ≡ true
kept [] atoms a h = h
kept (l ∷ ls) atoms a h = kept ls (if is_true atoms l.atom then atoms else atoms ++ l.atom ∷ []) a (one_more atoms l.atom (is_true atoms l.atom) a h)

itself : (atoms : List Form) (a : Form) → is_true (if is_true atoms a then atoms else atoms ++ a ∷ []) a ≡ true
itself atoms a = go (is_true atoms a) refl
  where
    go : (b : Bool) → is_true atoms a ≡ b → is_true (if b then atoms else atoms ++ a ∷ []) a ≡ true
    go true e = e
    go false e = any-append (same a) atoms (a ∷ []) ∙ ap₂ (λ (x y : Bool). x || (y || false)) e ((same-Decides a a).1 refl)

covers : (clause : Literals) (atoms : List Form) → Covered (gathered atoms clause) clause
covers [] atoms = tt
covers (l ∷ ls) atoms =
    let more = if is_true atoms l.atom then atoms else atoms ++ l.atom ∷ [] in
    (kept ls more l.atom (itself atoms l.atom), covers ls more)

wider : (clause : Literals) (atoms more : List Form) → ((a : Form) → is_true atoms a ≡ true → is_true more a ≡ true) → Covered atoms clause → Covered more clause
wider [] atoms more h each = tt
wider (l ∷ ls) atoms more h each = (h l.atom each.0, wider ls atoms more h each.1)

kept_all : (clauses : List Literals) (atoms : List Form) (a : Form) → is_true atoms a ≡ true → is_true (gathered_all atoms clauses) a ≡ true
kept_all [] atoms a h = h
kept_all (c ∷ cs) atoms a h = kept_all cs (gathered atoms c) a (kept c atoms a h)

covers_all : (clauses : List Literals) (atoms : List Form) → Each (Covered (gathered_all atoms clauses)) clauses
covers_all [] atoms = tt
covers_all (c ∷ cs) atoms =
    (wider c (gathered atoms c) (gathered_all (gathered atoms c) cs) (kept_all cs (gathered atoms c)) (covers c atoms), covers_all cs (gathered atoms c))

-- ---- an assignment cut to the atoms that occur

true_filter : (p : Form → Bool) (atoms : List Form) (a : Form) → is_true (filter p atoms) a ≡ (is_true atoms a && p a)
true_filter p [] a = refl
true_filter p (x ∷ atoms) a = go (same a x) (p x) refl refl (true_filter p atoms a)
  where
    go : (s q : Bool) → same a x ≡ s → p x ≡ q → is_true (filter p atoms) a ≡ (is_true atoms a && p a)
        → is_true (if q then x ∷ filter p atoms else filter p atoms) a ≡ ((s || is_true atoms a) && p a)
    go true true e h rest = ap (λ (b : Bool). b || is_true (filter p atoms) a) e ∙ sym (ap p ((same-Decides a x).0 e) ∙ h)
    go false true e h rest = ap (λ (b : Bool). b || is_true (filter p atoms) a) e ∙ rest
    go true false e h rest =
        let gone : p a ≡ false = ap p ((same-Decides a x).0 e) ∙ h in
        rest ∙ ap (λ (b : Bool). is_true atoms a && b) gone ∙ nothing (is_true atoms a) ∙ sym gone
      where
        nothing : (b : Bool) → (b && false) ≡ false
        nothing true = refl
        nothing false = refl
    go false false e h rest = rest

abbrev cut : List Form → List Form → List Form
cut true_ones atoms = filter (is_true true_ones) atoms

same_truth : (true_ones atoms : List Form) (l : Literal) → is_true atoms l.atom ≡ true → holds (cut true_ones atoms) l ≡ holds true_ones l
same_truth true_ones atoms l h =
    ap (λ (b : Bool). if l.positive then b else not b) (true_filter (is_true true_ones) atoms l.atom ∙ ap (λ (b : Bool). b && is_true true_ones l.atom) h)

same_satisfied : (true_ones atoms : List Form) (c : Literals) → Covered atoms c → satisfies (cut true_ones atoms) c ≡ satisfies true_ones c
same_satisfied true_ones atoms [] h = refl
same_satisfied true_ones atoms (l ∷ ls) h = ap₂ ◌||◌ (same_truth true_ones atoms l h.0) (same_satisfied true_ones atoms ls h.1)

all_satisfied : (true_ones atoms : List Form) (cs : List Literals) → Each (Covered atoms) cs → satisfies_all (cut true_ones atoms) cs ≡ satisfies_all true_ones cs
all_satisfied true_ones atoms [] h = refl
all_satisfied true_ones atoms (c ∷ cs) h = ap₂ ◌&&◌ (same_satisfied true_ones atoms c h.0) (all_satisfied true_ones atoms cs h.1)

-- ---- choices

first : (a b : Bool) → a ≡ true → (a || b) ≡ true
first true b h = refl
first false b h = absurd (false_true h)

any_choice : (clauses : List Literals) (p : Form → Bool) (further chosen : List Form) → satisfies_all (chosen ++ filter p further) clauses ≡ true → some_choice clauses chosen further ≡ true
any_choice clauses p [] chosen h = ap (λ atoms. satisfies_all atoms clauses) (sym (right_unit chosen)) ∙ h
  where
    right_unit : (xs : List Form) → xs ++ [] ≡ xs
    right_unit [] = refl
    right_unit (x ∷ xs) = ap (λ ys. x ∷ ys) (right_unit xs)
any_choice clauses p (x ∷ further) chosen h = go (p x) h (any_choice clauses p further chosen) (any_choice clauses p further (chosen ++ x ∷ []))
  where
    go : (b : Bool) → satisfies_all (chosen ++ (if b then x ∷ filter p further else filter p further)) clauses ≡ true
        → (satisfies_all (chosen ++ filter p further) clauses ≡ true → some_choice clauses chosen further ≡ true)
        → (satisfies_all ((chosen ++ x ∷ []) ++ filter p further) clauses ≡ true → some_choice clauses (chosen ++ x ∷ []) further ≡ true)
        → (some_choice clauses chosen further || some_choice clauses (chosen ++ x ∷ []) further) ≡ true
    go true k without with_x =
        later (some_choice clauses chosen further) (some_choice clauses (chosen ++ x ∷ []) further) (with_x (ap (λ atoms. satisfies_all atoms clauses) (append_assoc chosen (x ∷ []) (filter p further)) ∙ k))
    go false k without with_x = first (some_choice clauses chosen further) (some_choice clauses (chosen ++ x ∷ []) further) (without k)

record Satisfier (clauses : List Literals) : Type 0 where
  pub atoms : List Form
  pub does : satisfies_all atoms clauses ≡ true

satisfier : (clauses : List Literals) (further chosen : List Form) → some_choice clauses chosen further ≡ true → Satisfier clauses
satisfier clauses [] chosen h = record { atoms = chosen; does = h }
satisfier clauses (x ∷ further) chosen h = go (some_choice clauses chosen further) refl h (satisfier clauses further chosen) (satisfier clauses further (chosen ++ x ∷ []))
  where
    go : (b : Bool) → some_choice clauses chosen further ≡ b → (b || some_choice clauses (chosen ++ x ∷ []) further) ≡ true → (some_choice clauses chosen further ≡ true → Satisfier clauses)
        → (some_choice clauses (chosen ++ x ∷ []) further ≡ true → Satisfier clauses) → Satisfier clauses
    go true e k without with_x = without e
    go false e k without with_x = with_x k

pub refuted : (clauses : List Literals) → IsTrue (not (some_choice clauses [] (gathered_all [] clauses))) ↔ Refutes clauses
refuted clauses = (there (some_choice clauses [] (gathered_all [] clauses)) refl, back (some_choice clauses [] (gathered_all [] clauses)) refl)
  where
    there : (b : Bool) → some_choice clauses [] (gathered_all [] clauses) ≡ b → not b ≡ true → Refutes clauses
    there true e h atoms = absurd (false_true h)
    there false e h atoms = go (satisfies_all atoms clauses) refl
      where
        go : (c : Bool) → satisfies_all atoms clauses ≡ c → c ≡ false
        go false k = refl
        go true k =
            let occurring = gathered_all [] clauses in
            absurd (false_true (sym e ∙ any_choice clauses (is_true atoms) occurring [] (all_satisfied atoms occurring clauses (covers_all clauses []) ∙ k)))

    back : (b : Bool) → some_choice clauses [] (gathered_all [] clauses) ≡ b → Refutes clauses → not b ≡ true
    back false e h = refl
    back true e h = let s = satisfier clauses (gathered_all [] clauses) [] e in absurd (false_true (sym (h s.atoms) ∙ s.does))
