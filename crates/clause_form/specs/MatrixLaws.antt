-- Induction over matrices, and what the clauses and the truth of each kind of matrix are.
use Rattle.std.proofs.Common.{◌≡◌, List, [], ◌∷◌, map, Bool, sym, ap, ◌∙◌, subst}
use Rattle.std.specs.List.{list_all, list_any}
use Rattle.kif_tree.specs.declared.form.Form.{Form}
use Rattle.kif_tree.specs.declared.clause.Literal.{Literal}
use Rattle.kif_tree.specs.Subst.{Filling}
use Rattle.kif_tree.specs.Clauses.{Literals, bind_literal}
use Rattle.calculus.specs.Truth.{holds}
use Rattle.sigma_base.specs.Lists.{Each}
use Rattle.clause_form.specs.Matrices.{distribution, distribution_step, joined, products, is_true_matrix, truth_step}
use Rattle.clause_form.specs.declared.matrix.Matrix.{Matrix, fold-Matrix, fold-roll-Matrix, ind-Matrix, map-Matrix, roll-Matrix}
use Rattle.clause_form.specs.declared.matrix.Matrix.TheVariants as matrix
use Rattle.clause_form.specs.declared.matrix.Matrix.TheOpen.{Matrix-F}

each_of : (P : Matrix → Type 0) (parts : List ((m : Matrix) × P m)) → Each P (map (λ (e : (m : Matrix) × P m). e.0) parts)
each_of P [] = tt
each_of P (e ∷ parts) = (e.1, each_of P parts)

pub record Cases (P : Matrix → Type 0) : Type 0 where
  pub literal : (l : Literal) → P (matrix.Literal l)
  pub conjunction : (parts : List Matrix) → Each P parts → P (matrix.Conjunction parts)
  pub disjunction : (parts : List Matrix) → Each P parts → P (matrix.Disjunction parts)

shown : (P : Matrix → Type 0) → Cases P → (y : Matrix-F ((m : Matrix) × P m)) → P (roll-Matrix (map-Matrix ((m : Matrix) × P m) Matrix (λ e. e.0) y))
shown P cases (Matrix-F.Literal l) = subst P (sym (matrix.rolls-Literal l)) (cases.literal l)
shown P cases (Matrix-F.Conjunction parts) =
    subst P (sym (matrix.rolls-Conjunction (map (λ (e : (m : Matrix) × P m). e.0) parts)))
    (cases.conjunction (map (λ (e : (m : Matrix) × P m). e.0) parts) (each_of P parts))
shown P cases (Matrix-F.Disjunction parts) =
    subst P (sym (matrix.rolls-Disjunction (map (λ (e : (m : Matrix) × P m). e.0) parts)))
    (cases.disjunction (map (λ (e : (m : Matrix) × P m). e.0) parts) (each_of P parts))

-- what holds of each kind of matrix, where it holds of the parts, holds of every matrix
pub induction : (P : Matrix → Type 0) → Cases P → (m : Matrix) → P m
induction P cases = ind-Matrix P (λ x y is. subst (λ (z : Matrix-F Matrix). P (roll-Matrix z)) is (shown P cases y))

-- a fold at each kind of matrix
pub fold-Literal : (A : Type 0) (step : Matrix-F A → A) (l : Literal) → fold-Matrix A step (matrix.Literal l) ≡ step (Matrix-F.Literal l)
fold-Literal A step l = ap (fold-Matrix A step) (sym (matrix.rolls-Literal l)) ∙ fold-roll-Matrix A step (Matrix-F.Literal l)

pub fold-Conjunction : (A : Type 0) (step : Matrix-F A → A) (parts : List Matrix)
    → fold-Matrix A step (matrix.Conjunction parts) ≡ step (Matrix-F.Conjunction (map (fold-Matrix A step) parts))
fold-Conjunction A step parts = ap (fold-Matrix A step) (sym (matrix.rolls-Conjunction parts)) ∙ fold-roll-Matrix A step (Matrix-F.Conjunction parts)

pub fold-Disjunction : (A : Type 0) (step : Matrix-F A → A) (parts : List Matrix)
    → fold-Matrix A step (matrix.Disjunction parts) ≡ step (Matrix-F.Disjunction (map (fold-Matrix A step) parts))
fold-Disjunction A step parts = ap (fold-Matrix A step) (sym (matrix.rolls-Disjunction parts)) ∙ fold-roll-Matrix A step (Matrix-F.Disjunction parts)

-- the clauses of each kind of matrix
pub distribution-Literal : (l : Literal) → distribution (matrix.Literal l) ≡ (l ∷ []) ∷ []
unfolding distribution
distribution-Literal l = fold-Literal (List Literals) distribution_step l

pub distribution-Conjunction : (parts : List Matrix) → distribution (matrix.Conjunction parts) ≡ joined (map distribution parts)
unfolding distribution
distribution-Conjunction parts = fold-Conjunction (List Literals) distribution_step parts

pub distribution-Disjunction : (parts : List Matrix) → distribution (matrix.Disjunction parts) ≡ products (map distribution parts)
unfolding distribution
distribution-Disjunction parts = fold-Disjunction (List Literals) distribution_step parts

pub ruleset distribution_laws = (distribution-Literal, distribution-Conjunction, distribution-Disjunction)

-- when each kind of matrix is true
pub truth-Literal : (atoms : List Form) (g : Filling) (l : Literal) → is_true_matrix atoms g (matrix.Literal l) ≡ holds atoms (bind_literal g l)
unfolding is_true_matrix
truth-Literal atoms g l = fold-Literal Bool (truth_step atoms g) l

pub truth-Conjunction : (atoms : List Form) (g : Filling) (parts : List Matrix)
    → is_true_matrix atoms g (matrix.Conjunction parts) ≡ list_all (λ part. part) (map (is_true_matrix atoms g) parts)
unfolding is_true_matrix
truth-Conjunction atoms g parts = fold-Conjunction Bool (truth_step atoms g) parts

pub truth-Disjunction : (atoms : List Form) (g : Filling) (parts : List Matrix)
    → is_true_matrix atoms g (matrix.Disjunction parts) ≡ list_any (λ part. part) (map (is_true_matrix atoms g) parts)
unfolding is_true_matrix
truth-Disjunction atoms g parts = fold-Disjunction Bool (truth_step atoms g) parts
