-- Matrices of atoms and their clauses.
use Rattle.std.proofs.Common.{◌≡◌, List, [], ◌∷◌, ◌++◌, map, Bool, true, false, ◌&&◌, if◌then◌else◌, refl, sym, ap, ap₂, ◌∙◌, subst}
use Rattle.std.specs.List.{list_all, flat_map}
use Rattle.sigma_base.specs.Lists.{Each, each_append, each_map}
use Rattle.kif_tree.specs.declared.clause.Literal.{Literal}
use Rattle.kif_tree.specs.Clauses.{Literals}
use Rattle.clause_form.specs.Sentences.{is_atom}
use Rattle.clause_form.specs.Matrices.{products, joined, distribution, distribution_step}
use Rattle.clause_form.specs.SentenceLaws.{has_parts, atoms_step, is_of_atoms, IsAtomClause}
use Rattle.clause_form.specs.declared.matrix.Matrix.{Matrix, fold-Matrix, fold-roll-Matrix}
use Rattle.clause_form.specs.declared.matrix.Matrix.TheVariants as matrix
use Rattle.clause_form.specs.declared.matrix.Matrix.TheOpen.{Matrix-F}

-- ---- what a fold gives at each kind of matrix

fold-Literal : (A : Type 0) (step : Matrix-F A → A) (literal : Literal) → fold-Matrix A step (matrix.Literal literal) ≡ step (Matrix-F.Literal literal)
fold-Literal A step literal = ap (fold-Matrix A step) (sym (matrix.rolls-Literal literal)) ∙ fold-roll-Matrix A step (Matrix-F.Literal literal)

fold-Conjunction : (A : Type 0) (step : Matrix-F A → A) (parts : List Matrix) → fold-Matrix A step (matrix.Conjunction parts) ≡ step (Matrix-F.Conjunction (map (fold-Matrix A step) parts))
fold-Conjunction A step parts = ap (fold-Matrix A step) (sym (matrix.rolls-Conjunction parts)) ∙ fold-roll-Matrix A step (Matrix-F.Conjunction parts)

fold-Disjunction : (A : Type 0) (step : Matrix-F A → A) (parts : List Matrix) → fold-Matrix A step (matrix.Disjunction parts) ≡ step (Matrix-F.Disjunction (map (fold-Matrix A step) parts))
fold-Disjunction A step parts = ap (fold-Matrix A step) (sym (matrix.rolls-Disjunction parts)) ∙ fold-roll-Matrix A step (Matrix-F.Disjunction parts)

pub atoms-Literal : (literal : Literal) → is_of_atoms (matrix.Literal literal) ≡ is_atom literal.atom
unfolding is_of_atoms
atoms-Literal = fold-Literal Bool atoms_step

atoms-Conjunction : (parts : List Matrix) → is_of_atoms (matrix.Conjunction parts) ≡ (has_parts (map is_of_atoms parts) && list_all (λ part. part) (map is_of_atoms parts))
unfolding is_of_atoms
atoms-Conjunction = fold-Conjunction Bool atoms_step

atoms-Disjunction : (parts : List Matrix) → is_of_atoms (matrix.Disjunction parts) ≡ (has_parts (map is_of_atoms parts) && list_all (λ part. part) (map is_of_atoms parts))
unfolding is_of_atoms
atoms-Disjunction = fold-Disjunction Bool atoms_step

clauses-Literal : (literal : Literal) → distribution (matrix.Literal literal) ≡ (literal ∷ []) ∷ []
unfolding distribution
clauses-Literal = fold-Literal (List Literals) distribution_step

clauses-Conjunction : (parts : List Matrix) → distribution (matrix.Conjunction parts) ≡ joined (map distribution parts)
unfolding distribution
clauses-Conjunction = fold-Conjunction (List Literals) distribution_step

clauses-Disjunction : (parts : List Matrix) → distribution (matrix.Disjunction parts) ≡ products (map distribution parts)
unfolding distribution
clauses-Disjunction = fold-Disjunction (List Literals) distribution_step

-- ---- matrices of atoms

-- a matrix of atoms whose clauses are literals of atoms
pub record Atomic (m : Matrix) : Type 0 where
  pub of_atoms : is_of_atoms m ≡ true
  pub clauses : Each IsAtomClause (distribution m)

pub atomic_literal : (literal : Literal) → is_atom literal.atom ≡ true → Atomic (matrix.Literal literal)
atomic_literal literal h = record {
  of_atoms = atoms-Literal literal ∙ h;
  clauses = subst (Each IsAtomClause) (sym (clauses-Literal literal)) (record { some = refl; atoms = (h, tt) }, tt);
}

all_of_atoms : (parts : List Matrix) → has_parts parts ≡ true → Each Atomic parts → (has_parts (map is_of_atoms parts) && list_all (λ part. part) (map is_of_atoms parts)) ≡ true
all_of_atoms parts some each = ap₂ ◌&&◌ (some_mapped parts some) (all_true parts each)
  where
    some_mapped : (ms : List Matrix) → has_parts ms ≡ true → has_parts (map is_of_atoms ms) ≡ true
    some_mapped [] h = h
    some_mapped (m ∷ ms) h = refl

    all_true : (ms : List Matrix) → Each Atomic ms → list_all (λ part. part) (map is_of_atoms ms) ≡ true
    all_true [] h = refl
    all_true (m ∷ ms) h = ap₂ ◌&&◌ h.0.of_atoms (all_true ms h.1)

joined_atoms : (parts : List Matrix) → Each Atomic parts → Each IsAtomClause (joined (map distribution parts))
joined_atoms [] each = tt
joined_atoms (m ∷ parts) each = each_append IsAtomClause (distribution m) (joined (map distribution parts)) each.0.clauses (joined_atoms parts each.1)

abbrev OfAtoms : Literals → Type 0
OfAtoms clause = Each (λ (literal : Literal). is_atom literal.atom ≡ true) clause

-- a clause of atoms before others
before_others : (clause : Literals) → IsAtomClause clause → (rest : Literals) → OfAtoms rest → IsAtomClause (clause ++ rest)
before_others clause here rest others = record {
  some = some_first clause here.some;
  atoms = each_append (λ (literal : Literal). is_atom literal.atom ≡ true) clause rest here.atoms others;
}
  where
    some_first : (c : Literals) → has_parts c ≡ true → has_parts (c ++ rest) ≡ true
    some_first [] h = absurd (let k : false ≡ true = h in cc)
    some_first (l ∷ c) h = refl

with_each : (clause : Literals) → IsAtomClause clause → (rests : List Literals) → Each OfAtoms rests → Each IsAtomClause (map (λ rest. clause ++ rest) rests)
with_each clause here [] each = tt
with_each clause here (rest ∷ rests) each = (before_others clause here rest each.0, with_each clause here rests each.1)

with_all : (clauses rests : List Literals) → Each IsAtomClause clauses → Each OfAtoms rests → Each IsAtomClause (flat_map (λ clause. map (λ rest. clause ++ rest) rests) clauses)
with_all [] rests each others = tt
with_all (clause ∷ clauses) rests each others =
    each_append IsAtomClause (map (λ rest. clause ++ rest) rests) (flat_map (λ c. map (λ rest. c ++ rest) rests) clauses) (with_each clause each.0 rests others) (with_all clauses rests each.1 others)

product_atoms : (parts : List Matrix) → Each Atomic parts → Each OfAtoms (products (map distribution parts))
product_atoms [] each = (tt, tt)
product_atoms (m ∷ parts) each =
    each_map IsAtomClause OfAtoms (λ clause c. c.atoms) (products (map distribution (m ∷ parts))) (with_all (distribution m) (products (map distribution parts)) each.0.clauses (product_atoms parts each.1))

some_product : (parts : List Matrix) → has_parts parts ≡ true → Each Atomic parts → Each IsAtomClause (products (map distribution parts))
some_product [] some each = absurd (let k : false ≡ true = some in cc)
some_product (m ∷ parts) some each = with_all (distribution m) (products (map distribution parts)) each.0.clauses (product_atoms parts each.1)

atomic_conjunction : (parts : List Matrix) → has_parts parts ≡ true → Each Atomic parts → Atomic (matrix.Conjunction parts)
atomic_conjunction parts some each = record {
  of_atoms = atoms-Conjunction parts ∙ all_of_atoms parts some each;
  clauses = subst (Each IsAtomClause) (sym (clauses-Conjunction parts)) (joined_atoms parts each);
}

atomic_disjunction : (parts : List Matrix) → has_parts parts ≡ true → Each Atomic parts → Atomic (matrix.Disjunction parts)
atomic_disjunction parts some each = record {
  of_atoms = atoms-Disjunction parts ∙ all_of_atoms parts some each;
  clauses = subst (Each IsAtomClause) (sym (clauses-Disjunction parts)) (some_product parts some each);
}

pub atomic_group : (conjoins : Bool) (parts : List Matrix) → has_parts parts ≡ true → Each Atomic parts → Atomic (if conjoins then matrix.Conjunction parts else matrix.Disjunction parts)
atomic_group true parts some each = atomic_conjunction parts some each
atomic_group false parts some each = atomic_disjunction parts some each
