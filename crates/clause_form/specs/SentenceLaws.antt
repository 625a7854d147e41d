-- Laws of sentences: what is read from them is made of atoms, and so are their clauses.
use Rattle.std.specs.Prelude.{◌≡◌, List, [], ◌∷◌, length, Bool, true, false, ◌&&◌}
use Rattle.std.specs.List.{list_all}
use Rattle.sigma_base.specs.Lists.{Each}
use Rattle.kif_tree.specs.declared.form.Form.{Form}
use Rattle.kif_tree.specs.declared.subst.Pair.{Pair}
use Rattle.kif_tree.specs.declared.clause.Literal.{Literal}
use Rattle.kif_tree.specs.Terms.{Bytes, has_no_row}
use Rattle.kif_tree.specs.Shape.{is_shaped}
use Rattle.kif_tree.specs.Profile.{is_in_profile}
use Rattle.kif_tree.specs.Clauses.{Literals}
use Rattle.calculus.specs.Proper.{has_word_heads}
use Rattle.clause_form.specs.Sentences.{is_atom, is_sentence, IsInput, IsQueryClause}
use Rattle.clause_form.specs.Readings.{reading}
use Rattle.clause_form.specs.Matrices.{distribution}
use Rattle.clause_form.specs.ClauseForms.{clause_form}
use Rattle.clause_form.specs.Queries.{asked, applies_variable, query_clauses}
use Rattle.clause_form.specs.declared.conversion.SkolemBase.{SkolemBase}
use Rattle.clause_form.specs.declared.conversion.ClauseForm.TheVariants.{Clauses}
use Rattle.clause_form.specs.declared.matrix.Matrix.{Matrix, fold-Matrix}
use Rattle.clause_form.specs.declared.matrix.Matrix.TheOpen.{Matrix-F}
use Rattle.clause_form.specs.declared.scope.Counts.{Counts}
use Rattle.clause_form.specs.declared.scope.Scope.{Scope}

-- ---- terms and matrices

-- each list in it has a word at its head, and no row variable occurs
pub record IsTerm (f : Form) : Type 0 where
  pub headed : has_word_heads f ≡ true
  pub rowless : has_no_row f ≡ true

-- variables become terms, and the universal variables are terms
pub record IsTermScope (scope : Scope) : Type 0 where
  pub pairs : Each (λ (pair : Pair). IsTerm pair.term) scope.pairs
  pub universals : Each IsTerm scope.universals

abbrev pub has_parts : {X : Type 0} → List X → Bool
has_parts [] = false
has_parts (x ∷ xs) = true

abbrev pub atoms_step : Matrix-F Bool → Bool
atoms_step (Matrix-F.Literal literal) = is_atom literal.atom
atoms_step (Matrix-F.Conjunction parts) = has_parts parts && list_all (λ part. part) parts
atoms_step (Matrix-F.Disjunction parts) = has_parts parts && list_all (λ part. part) parts

-- its literals have atoms, and each conjunction and disjunction in it has a part
unfoldable pub is_of_atoms : Matrix → Bool
is_of_atoms = fold-Matrix Bool atoms_step

-- literals of atoms, at least one
pub record IsAtomClause (clause : Literals) : Type 0 where
  pub some : has_parts clause ≡ true
  pub atoms : Each (λ (literal : Literal). is_atom literal.atom ≡ true) clause

-- ---- the laws

-- a sentence reads as a matrix of atoms, with any sign and in any scope of terms
abbrev pub SentencesReadAsAtoms : Type 0
SentencesReadAsAtoms = (prefix : Bytes) (f : Form) → is_sentence f ≡ true → (sign : Bool) (scope : Scope) (counts : Counts) → IsTermScope scope
    → is_of_atoms (reading prefix f sign scope counts).matrix ≡ true

-- its clauses are literals of atoms, at least one in each
abbrev pub SentencesGiveAtomClauses : Type 0
SentencesGiveAtomClauses = (prefix : Bytes) (f : Form) → is_sentence f ≡ true → (sign : Bool) (scope : Scope) (counts : Counts) → IsTermScope scope
    → Each IsAtomClause (distribution (reading prefix f sign scope counts).matrix)

-- so the clauses of its clause form are proper and have no answer literals
abbrev pub SentencesGiveInputs : Type 0
SentencesGiveInputs = (base : SkolemBase) (f : Form) → is_sentence f ≡ true → (clauses : List Literals) → clause_form base f ≡ Clauses clauses → Each IsInput clauses

-- those of a query's negation are proper, each with the answer literal last
abbrev pub SentencesGiveQueryClauses : Type 0
SentencesGiveQueryClauses = (query : Form) → is_sentence query ≡ true → Each (IsQueryClause (length (asked query))) (query_clauses query)

-- a shaped form in the profile, without row variables and without variables at a head, is a sentence
abbrev pub ProfiledAreSentences : Type 0
ProfiledAreSentences = (f : Form) → is_shaped f ≡ true → is_in_profile f ≡ true → has_no_row f ≡ true → applies_variable f ≡ false → is_sentence f ≡ true
