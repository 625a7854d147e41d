-- The clauses of a matrix hold together exactly where it is true.
use Rattle.std.proofs.Common.{◌≡◌, List, [], ◌∷◌, ◌++◌, map, Bool, true, false, ◌||◌, ◌&&◌, refl, sym, ap, ap₂, ◌∙◌}
use Rattle.std.specs.List.{list_all, list_any}
use Rattle.std.proofs.lemmas.List.{map-append}
use Rattle.std.proofs.lemmas.List.Folds.{list_any-append, list_all-append}
use Rattle.kif_tree.specs.declared.form.Form.{Form}
use Rattle.kif_tree.specs.Subst.{Filling}
use Rattle.kif_tree.specs.Clauses.{Literals, bind_literal, bind_clause}
use Rattle.calculus.specs.Truth.{holds, satisfies, satisfies_all}
use Rattle.sigma_base.specs.Lists.{Each}
use Rattle.clause_form.specs.Matrices.{distribution, products, joined, is_true_matrix}
use Rattle.clause_form.specs.ClauseForms.{DistributionIsTrue}
use Rattle.clause_form.specs.MatrixLaws.{induction, distribution-Literal, distribution-Conjunction, distribution-Disjunction, truth-Literal, truth-Conjunction, truth-Disjunction}
use Rattle.clause_form.specs.declared.matrix.Matrix.{Matrix}
use Rattle.clause_form.proofs.ProductLaws.{times}

-- the clause holds under the filling, and the clauses do
abbrev one : List Form → Filling → Literals → Bool
one atoms g clause = satisfies atoms (bind_clause g clause)

abbrev every : List Form → Filling → List Literals → Bool
every atoms g clauses = satisfies_all atoms (map (bind_clause g) clauses)

one-append : (atoms : List Form) (g : Filling) (xs ys : Literals) → one atoms g (xs ++ ys) ≡ (one atoms g xs || one atoms g ys)
one-append atoms g xs ys = ap (satisfies atoms) (map-append (bind_literal g) xs ys) ∙ list_any-append (holds atoms) (bind_clause g xs) (bind_clause g ys)

every-append : (atoms : List Form) (g : Filling) (xs ys : List Literals) → every atoms g (xs ++ ys) ≡ (every atoms g xs && every atoms g ys)
every-append atoms g xs ys =
    ap (satisfies_all atoms) (map-append (bind_clause g) xs ys) ∙ list_all-append (satisfies atoms) (map (bind_clause g) xs) (map (bind_clause g) ys)

or_true : (a : Bool) → true ≡ (a || true)
or_true true = refl
or_true false = refl

or_over_and : (a b c : Bool) → ((a || b) && (a || c)) ≡ (a || (b && c))
or_over_and true b c = refl
or_over_and false b c = refl

and_under_or : (a b c : Bool) → ((a || c) && (b || c)) ≡ ((a && b) || c)
and_under_or true b c = go b c
  where
    go : (b c : Bool) → (true && (b || c)) ≡ ((true && b) || c)
    go true c = refl
    go false c = refl
and_under_or false b true = sym (or_true b)
and_under_or false b false = refl

every-after : (atoms : List Form) (g : Filling) (x : Literals) (clauses : List Literals)
    → every atoms g (map (λ (rest : Literals). x ++ rest) clauses) ≡ (one atoms g x || every atoms g clauses)
every-after atoms g x [] = or_true (one atoms g x)
every-after atoms g x (y ∷ clauses) =
    ap₂ ◌&&◌ (one-append atoms g x y) (every-after atoms g x clauses) ∙ or_over_and (one atoms g x) (one atoms g y) (every atoms g clauses)

every-times : (atoms : List Form) (g : Filling) (a b : List Literals) → every atoms g (times a b) ≡ (every atoms g a || every atoms g b)
every-times atoms g [] b = refl
every-times atoms g (x ∷ a) b =
    every-append atoms g (map (λ (rest : Literals). x ++ rest) b) (times a b)
    ∙ ap₂ ◌&&◌ (every-after atoms g x b) (every-times atoms g a b)
    ∙ and_under_or (one atoms g x) (every atoms g a) (every atoms g b)

abbrev Agrees : List Form → Filling → Matrix → Type 0
Agrees atoms g m = every atoms g (distribution m) ≡ is_true_matrix atoms g m

every-joined : (atoms : List Form) (g : Filling) (parts : List Matrix) → Each (Agrees atoms g) parts
    → every atoms g (joined (map distribution parts)) ≡ list_all (λ part. part) (map (is_true_matrix atoms g) parts)
every-joined atoms g [] h = refl
every-joined atoms g (part ∷ parts) h =
    every-append atoms g (distribution part) (joined (map distribution parts)) ∙ ap₂ ◌&&◌ h.0 (every-joined atoms g parts h.1)

every-products : (atoms : List Form) (g : Filling) (parts : List Matrix) → Each (Agrees atoms g) parts
    → every atoms g (products (map distribution parts)) ≡ list_any (λ part. part) (map (is_true_matrix atoms g) parts)
every-products atoms g [] h = refl
every-products atoms g (part ∷ parts) h =
    every-times atoms g (distribution part) (products (map distribution parts)) ∙ ap₂ ◌||◌ h.0 (every-products atoms g parts h.1)

unit_clause : (b : Bool) → ((b || false) && true) ≡ b
unit_clause true = refl
unit_clause false = refl

agrees : (atoms : List Form) (g : Filling) (m : Matrix) → Agrees atoms g m
agrees atoms g = induction (Agrees atoms g) (record {
  literal = λ l. ap (every atoms g) (distribution-Literal l) ∙ unit_clause (holds atoms (bind_literal g l)) ∙ sym (truth-Literal atoms g l);
  conjunction = λ parts each. ap (every atoms g) (distribution-Conjunction parts) ∙ every-joined atoms g parts each ∙ sym (truth-Conjunction atoms g parts);
  disjunction = λ parts each. ap (every atoms g) (distribution-Disjunction parts) ∙ every-products atoms g parts each ∙ sym (truth-Disjunction atoms g parts);
})

-- for every matrix
pub distribution_is_true : (m : Matrix) → DistributionIsTrue m
distribution_is_true m atoms g = agrees atoms g m
