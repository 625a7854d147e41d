-- Clauses that stay as they are when they are made tidy: without repeats, and without variables.
use Rattle.std.proofs.Common.{◌≡◌, ℕ, ◌+◌, ◌<◌, List, [], ◌∷◌, ◌++◌, take, length, get_or, Bool, false, if◌then◌else◌, refl, sym, ap, ap₂, ◌∙◌, arith}
use Rattle.std.proofs.lemmas.List.{take_more}
use Rattle.kif_tree.specs.declared.form.Form.{Form}
use Rattle.kif_tree.specs.declared.clause.Literal.{Literal}
use Rattle.kif_tree.specs.Terms.{Bytes, distinct}
use Rattle.kif_tree.specs.Subst.{bind, lookup}
use Rattle.kif_tree.specs.Clauses.{Literals, bind_clause, clause_variables}
use Rattle.calculus.specs.Tidy.{numbered, tidy, without_repeats, renamed}
use Rattle.calculus.proofs.RenamingLaws.{bind-identity}
use Rattle.calculus_programs.proofs.TidyingLaws.{stands_in, without_more}

-- a literal that equals none before it comes to those that are kept
pub next_kept : (xs : Literals) (i : ℕ) (x : Literal) → i < length xs → x ≡ get_or xs i x → without_repeats (take i xs) ≡ take i xs → stands_in x (take i xs) ≡ false
    → without_repeats (take (i + 1) xs) ≡ take (i + 1) xs
next_kept xs i x below is kept apart =
    without_more xs i x below is
    ∙ ap (λ (ls : Literals). if stands_in x ls then ls else ls ++ x ∷ []) kept
    ∙ ap (λ (b : Bool). if b then take i xs else take i xs ++ x ∷ []) apart
    ∙ ap (λ (y : Literal). take i xs ++ y ∷ []) is
    ∙ sym (take_more xs i x below)

nothing_named : (f : Form) → bind (lookup []) f ≡ f
nothing_named = bind-identity

stays : (c : Literals) → bind_clause (lookup []) c ≡ c
stays [] = refl
stays (l ∷ ls) = ap₂ (λ (a : Form) (rest : Literals). let made : Literal = record { positive = l.positive; atom = a } in made ∷ rest) (nothing_named l.atom) (stays ls)

-- without variables nothing is renamed
pub nothing_renamed : (c : Literals) (names : List Bytes) → names ≡ distinct (clause_variables c) → names ≡ [] → c ≡ renamed c
nothing_renamed c names is none = sym (ap (λ (ns : List Bytes). bind_clause (lookup (numbered 1 ns)) c) (sym is ∙ none) ∙ stays c)

-- without repeats the clause is renamed as it is
pub tidy_renamed : (c made : Literals) → without_repeats c ≡ c → made ≡ renamed c → made ≡ tidy c
unfolding tidy
tidy_renamed c made kept is = is ∙ ap renamed (sym kept)

pub no_names : (names : List Bytes) → length names ≡ 0 → names ≡ []
no_names [] none = refl
no_names (name ∷ names) none = absurd (omega (arith, none))
