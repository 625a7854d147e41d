-- What a truth assignment says of a clause under a filling.
use Rattle.std.proofs.Common.{◌≡◌, List, [], ◌∷◌, ◌++◌, filter, Bool, true, false, not, ◌||◌, ◌&&◌, if◌then◌else◌, refl, sym, ap, ap₂, ◌∙◌}
use Rattle.std.specs.List.{list_any}
use Rattle.std.specs.Str.{bytes_eq}
use Rattle.std.proofs.lemmas.Slice.Eq.{bytes_eq-Decides}
use Rattle.kif_tree.specs.declared.form.Form.{Form}
use Rattle.kif_tree.specs.declared.clause.Literal.{Literal}
use Rattle.kif_tree.specs.Terms.{Bytes, same, variables}
use Rattle.sigma_base.specs.Lists.{Each, each_left, each_right, each_map}
use Rattle.kif_tree.specs.SameLaws.{same-Decides}
use Rattle.kif_tree.specs.Clauses.{Literals, bind_literal, bind_clause, is_answer, bare, clause_variables, same_sign, same_literal}
use Rattle.kif_tree.specs.Subst.{Filling, bind, via}
use Rattle.calculus.specs.Truth.{holds, satisfies}
use Rattle.calculus.specs.Tidy.{without_repeats, renaming, renamed, tidy, back_over, turned_back}
use Rattle.kif_tree.proofs.SubstLaws.{bind-via, agree, Agree}

pub false_true : false ≡ true → ⊥
false_true e = cc

pub both : (a b : Bool) → (a && b) ≡ true → (a ≡ true) × (b ≡ true)
both true b h = (refl, h)
both false b h = absurd (false_true h)

pub negated : (b : Bool) → not b ≡ true → b ≡ false
negated true h = absurd (false_true h)
negated false h = refl

-- the literal holds and is no answer literal
abbrev pub tells : List Form → Literal → Bool
tells atoms literal = if is_answer literal.atom then false else holds atoms literal

-- the clause under the filling is satisfied, answer literals aside
abbrev pub says : List Form → Filling → Literals → Bool
says atoms g [] = false
says atoms g (l ∷ ls) = tells atoms (bind_literal g l) || says atoms g ls

pub says-bare : (atoms : List Form) (g : Filling) (clause : Literals) → satisfies atoms (bare clause g) ≡ says atoms g clause
says-bare atoms g [] = refl
says-bare atoms g (l ∷ ls) = go (is_answer (bind g l.atom)) (bare ls g) ∙ ap (λ (b : Bool). tells atoms (bind_literal g l) || b) (says-bare atoms g ls)
  where
    go : (b : Bool) (rest : Literals) → satisfies atoms (if not b then bind_literal g l ∷ rest else rest) ≡ ((if b then false else holds atoms (bind_literal g l)) || satisfies atoms rest)
    go true rest = refl
    go false rest = refl

assoc : (a b c : Bool) → (a || (b || c)) ≡ ((a || b) || c)
assoc true b c = refl
assoc false b c = refl

pub says-append : (atoms : List Form) (g : Filling) (xs ys : Literals) → says atoms g (xs ++ ys) ≡ (says atoms g xs || says atoms g ys)
says-append atoms g [] ys = refl
says-append atoms g (x ∷ xs) ys =
    ap (λ (b : Bool). tells atoms (bind_literal g x) || b) (says-append atoms g xs ys) ∙ assoc (tells atoms (bind_literal g x)) (says atoms g xs) (says atoms g ys)

literal_at : (atoms : List Form) (positive : Bool) (a b : Form) → a ≡ b → tells atoms (record { positive = positive; atom = a }) ≡ tells atoms (record { positive = positive; atom = b })
literal_at atoms positive a b e = ap (λ (x : Form). tells atoms (record { positive = positive; atom = x })) e

pub says-bind : (atoms : List Form) (f g : Filling) (clause : Literals) → says atoms g (bind_clause f clause) ≡ says atoms (via f g) clause
says-bind atoms f g [] = refl
says-bind atoms f g (l ∷ ls) = ap₂ ◌||◌ (literal_at atoms l.positive _ _ (sym (bind-via f g l.atom))) (says-bind atoms f g ls)

pub says-agree : (atoms : List Form) (f g : Filling) (clause : Literals) → Each (Agree f g) (clause_variables clause) → says atoms f clause ≡ says atoms g clause
says-agree atoms f g [] h = refl
says-agree atoms f g (l ∷ ls) h =
    ap₂ ◌||◌ (literal_at atoms l.positive _ _ (agree f g l.atom (each_left (Agree f g) (variables l.atom) (clause_variables ls) h)))
    (says-agree atoms f g ls (each_right (Agree f g) (variables l.atom) (clause_variables ls) h))

-- ---- repeats

pub signs : (a b : Bool) → same_sign a b ≡ true → a ≡ b
signs true b h = sym h
signs false true h = absurd (false_true h)
signs false false h = refl

pub literals : (l m : Literal) → same_literal l m ≡ true → l ≡ m
literals l m h =
    let parts = both (same_sign l.positive m.positive) (same l.atom m.atom) h in
    ap₂ (λ (p : Bool) (a : Form). let made : Literal = record { positive = p; atom = a } in made) (signs l.positive m.positive parts.0) ((same-Decides l.atom m.atom).0 parts.1)

either : (a b c : Bool) → (a || b) ≡ true → (b ≡ true → c ≡ true) → (a || c) ≡ true
either true b c h k = refl
either false b c h k = k h

-- a literal that isn't satisfied and its copies may go
kept : (atoms : List Form) (g : Filling) (l : Literal) → tells atoms (bind_literal g l) ≡ false → (ms : Literals) → says atoms g ms ≡ true
    → says atoms g (filter (λ m. not (same_literal l m)) ms) ≡ true
kept atoms g l dumb [] h = h
kept atoms g l dumb (m ∷ ms) h = go (same_literal l m) refl (filter (λ m. not (same_literal l m)) ms) (kept atoms g l dumb ms)
  where
    go : (b : Bool) → same_literal l m ≡ b → (rest : Literals) → (says atoms g ms ≡ true → says atoms g rest ≡ true) → says atoms g (if not b then m ∷ rest else rest) ≡ true
    go true e rest k =
        let gone : tells atoms (bind_literal g m) ≡ false = ap (λ (x : Literal). tells atoms (bind_literal g x)) (sym (literals l m e)) ∙ dumb in
        k (ap (λ (b : Bool). b || says atoms g ms) (sym gone) ∙ h)
    go false e rest k = either (tells atoms (bind_literal g m)) (says atoms g ms) (says atoms g rest) h k

pub says-without : (atoms : List Form) (g : Filling) (clause : Literals) → says atoms g clause ≡ true → says atoms g (without_repeats clause) ≡ true
says-without atoms g [] h = h
says-without atoms g (l ∷ ls) h = go (tells atoms (bind_literal g l)) refl h (says-without atoms g ls)
  where
    go : (b : Bool) → tells atoms (bind_literal g l) ≡ b → (b || says atoms g ls) ≡ true → (says atoms g ls ≡ true → says atoms g (without_repeats ls) ≡ true)
        → (b || says atoms g (filter (λ m. not (same_literal l m)) (without_repeats ls))) ≡ true
    go true e h k = refl
    go false e h k = kept atoms g l e (without_repeats ls) (k h)

-- ---- the tidy clause

pub members : (xs : List Bytes) → Each (λ v. list_any (bytes_eq v) xs ≡ true) xs
members [] = tt
members (x ∷ xs) = (ap (λ (b : Bool). b || list_any (bytes_eq x) xs) ((bytes_eq-Decides x x).1 refl), each_map (λ v. list_any (bytes_eq v) xs ≡ true) (λ v. list_any (bytes_eq v) (x ∷ xs) ≡ true) (λ v h. later (bytes_eq v x) h) xs (members xs))
  where
    later : (b : Bool) {c : Bool} → c ≡ true → (b || c) ≡ true
    later true h = refl
    later false h = h

pub turns : (clause : Literals) (g : Filling) (v : Bytes) → list_any (bytes_eq v) (clause_variables clause) ≡ true → back_over clause g v ≡ via (renaming clause) g v
turns clause g v h = ap (λ (b : Bool). if b then via (renaming clause) g v else back_over [] g v) h

pub says-renamed : (atoms : List Form) (g : Filling) (clause : Literals) → says atoms g (renamed clause) ≡ says atoms (back_over clause g) clause
says-renamed atoms g clause =
    says-bind atoms (renaming clause) g clause
    ∙ sym (says-agree atoms (back_over clause g) (via (renaming clause) g) clause
    (each_map (λ v. list_any (bytes_eq v) (clause_variables clause) ≡ true) (Agree (back_over clause g) (via (renaming clause) g)) (turns clause g) (clause_variables clause) (members (clause_variables clause))))

-- what satisfies the clause before it is tidied satisfies the tidy clause
pub says-tidy : (atoms : List Form) (g : Filling) (clause : Literals) → says atoms (turned_back clause g) clause ≡ true → says atoms g (tidy clause) ≡ true
unfolding tidy turned_back
says-tidy atoms g clause h = says-renamed atoms g (without_repeats clause) ∙ says-without atoms (turned_back clause g) clause h
