-- The tidy clauses of sentences are proper.
use Rattle.std.proofs.Common.{◌≡◌, ℕ, suc, ◌+◌, List, [], ◌∷◌, ◌++◌, map, filter, length, Bool, true, false, not, ◌&&◌, ◌||◌, if◌then◌else◌, codes, refl, sym, ap, ap₂, ◌∙◌, subst}
use Rattle.std.specs.List.{list_all, list_any}
use Rattle.std.proofs.lemmas.List.{map-append, length-map}
use Rattle.std.proofs.lemmas.List.Elements.{filter-append}
use Rattle.sigma_base.specs.Lists.{Each, each_map, each_append}
use Rattle.kif_tree.specs.declared.form.Form.{Form}
use Rattle.kif_tree.specs.declared.form.Form.TheVariants as form
use Rattle.kif_tree.specs.declared.clause.Literal.{Literal}
use Rattle.kif_tree.specs.Terms.{Bytes, distinct}
use Rattle.kif_tree.specs.Shape.{is_list}
use Rattle.kif_tree.specs.Subst.{Filling, bind}
use Rattle.kif_tree.specs.Clauses.{Literals, bind_literal, bind_clause, clause_variables, is_answer, same_literal}
use Rattle.calculus.specs.Answers.{answer_atom}
use Rattle.calculus.specs.Closed.{rowless_clause}
use Rattle.calculus.specs.Equality.{yes}
use Rattle.calculus.specs.Proper.{IsProper, has_word_heads}
use Rattle.calculus.specs.Tidy.{IsTidy, tidy, without_repeats, renaming, numbered}
use Rattle.calculus.proofs.TruthLaws.{false_true, literals}
use Rattle.calculus.proofs.RepeatLaws.{each-without}
use Rattle.calculus.proofs.RenamingLaws.{tidy_again}
use Rattle.clause_form.specs.Sentences.{is_atom, is_sentence, IsInput, IsQueryClause}
use Rattle.clause_form.specs.Matrices.{distribution}
use Rattle.clause_form.specs.ClauseForms.{skolem_prefix, passes_limit, raw_clauses}
use Rattle.clause_form.specs.Readings.{reading, terms_of, outermost, nothing}
use Rattle.clause_form.specs.declared.scope.Counts.{Counts}
use Rattle.clause_form.specs.declared.scope.Scope.{Scope}
use Rattle.clause_form.specs.Queries.{asked, around, negated_matrix, with_answer}
use Rattle.clause_form.specs.SentenceLaws.{IsTerm, IsTermScope, has_parts, IsAtomClause, SentencesGiveInputs, SentencesGiveQueryClauses}
use Rattle.clause_form.specs.declared.conversion.ClauseForm.TheVariants.{Clauses, TooMany}
use Rattle.clause_form.proofs.AtomLaws.{atom_of, atom-bind, list_term, terms-bind, bind-applied, is_list-List, answer-List, true_of_each}
use Rattle.clause_form.proofs.ProperScopeLaws.{lookup_term, numbered_terms, universal_terms, outermost_terms}
use Rattle.clause_form.proofs.SentenceLaws.{sentences_give_atom_clauses}

abbrev HasAtom : Literal → Type 0
HasAtom literal = is_atom literal.atom ≡ true

-- ---- tidy clauses of atoms

renaming_term : (clause : Literals) (name : Bytes) → IsTerm (renaming clause name)
renaming_term clause name =
    let names = distinct (clause_variables clause) in
    lookup_term (numbered 1 names) (numbered_terms 1 names) name

bound_atoms : (g : Filling) → ((name : Bytes) → IsTerm (g name)) → (clause : Literals) → Each HasAtom clause → Each HasAtom (bind_clause g clause)
bound_atoms g fills [] each = tt
bound_atoms g fills (l ∷ clause) each = (atom-bind g fills l.atom each.0, bound_atoms g fills clause each.1)

some_kept : (clause : Literals) → has_parts clause ≡ true → has_parts (without_repeats clause) ≡ true
some_kept [] h = h
some_kept (l ∷ clause) h = refl

some_bound : (g : Filling) (clause : Literals) → has_parts clause ≡ true → has_parts (bind_clause g clause) ≡ true
some_bound g [] h = h
some_bound g (l ∷ clause) h = refl

-- once each, under a filling of terms
kept_atoms : (g : Filling) → ((name : Bytes) → IsTerm (g name)) → (clause : Literals) → IsAtomClause clause → IsAtomClause (bind_clause g (without_repeats clause))
kept_atoms g fills clause atoms = record {
  some = some_bound g (without_repeats clause) (some_kept clause atoms.some);
  atoms = bound_atoms g fills (without_repeats clause) (each-without HasAtom clause atoms.atoms);
}

-- ---- proper clauses

record IsFit (l : Literal) : Type 0 where
  pub is_list : is_list l.atom ≡ true
  pub term : IsTerm l.atom

atom_fit : (l : Literal) → HasAtom l → IsFit l
atom_fit l h =
    let a = atom_of l.atom h in
    record {
      is_list = ap is_list a.is ∙ is_list-List (form.Word a.word ∷ a.arguments);
      term = subst IsTerm (sym a.is) (list_term a.word a.arguments a.terms);
    }

all_rowless : (clause : Literals) → Each IsFit clause → rowless_clause clause ≡ true
all_rowless [] each = refl
all_rowless (l ∷ clause) each = ap₂ ◌&&◌ each.0.term.rowless (all_rowless clause each.1)

proper : (clause : Literals) → IsTidy clause → list_any (λ literal. not (is_answer literal.atom)) clause ≡ true → Each IsFit clause → IsProper clause
proper clause tidied asserts each = record {
  is_tidy = tidied;
  asserts = asserts;
  lists = true_of_each (λ (l : Literal). is_list l.atom) clause (each_map IsFit (λ l. is_list l.atom ≡ true) (λ l fit. fit.is_list) clause each);
  headed = true_of_each (λ (l : Literal). has_word_heads l.atom) clause (each_map IsFit (λ l. has_word_heads l.atom ≡ true) (λ l fit. fit.term.headed) clause each);
  rowless = all_rowless clause each;
}

atom_answerless : (f : Form) → is_atom f ≡ true → not (is_answer f) ≡ true
atom_answerless f h = let a = atom_of f h in ap not (ap is_answer a.is ∙ answer-List a.word a.arguments ∙ a.plain)

all_answerless : (clause : Literals) → Each HasAtom clause → list_all (λ literal. not (is_answer literal.atom)) clause ≡ true
all_answerless clause each =
    true_of_each (λ (l : Literal). not (is_answer l.atom)) clause (each_map HasAtom (λ l. not (is_answer l.atom) ≡ true) (λ l h. atom_answerless l.atom h) clause each)

first_asserts : (clause more : Literals) → IsAtomClause clause → list_any (λ literal. not (is_answer literal.atom)) (clause ++ more) ≡ true
first_asserts [] more atoms = absurd (false_true atoms.some)
first_asserts (l ∷ clause) more atoms = ap (λ b. b || list_any (λ (literal : Literal). not (is_answer literal.atom)) (clause ++ more)) (atom_answerless l.atom atoms.atoms.0)

asserts_alone : (clause : Literals) → IsAtomClause clause → list_any (λ literal. not (is_answer literal.atom)) clause ≡ true
asserts_alone [] atoms = absurd (false_true atoms.some)
asserts_alone (l ∷ clause) atoms = ap (λ b. b || list_any (λ (literal : Literal). not (is_answer literal.atom)) clause) (atom_answerless l.atom atoms.atoms.0)

-- ---- inputs

pub tidy_atoms : (clause : Literals) → IsAtomClause clause → IsAtomClause (tidy clause)
unfolding tidy
tidy_atoms clause atoms = kept_atoms (renaming (without_repeats clause)) (renaming_term (without_repeats clause)) clause atoms

pub tidy_input : (clause : Literals) → IsAtomClause clause → IsInput (tidy clause)
tidy_input clause atoms =
    let tidied = tidy_atoms clause atoms in
    record {
      proper = proper (tidy clause) (tidy_again clause) (asserts_alone (tidy clause) tidied) (each_map HasAtom IsFit atom_fit (tidy clause) tidied.atoms);
      answerless = all_answerless (tidy clause) tidied.atoms;
    }

pub tidy_inputs : (clauses : List Literals) → Each IsAtomClause clauses → Each IsInput (map tidy clauses)
tidy_inputs [] each = tt
tidy_inputs (clause ∷ clauses) each = (tidy_input clause each.0, tidy_inputs clauses each.1)

inputs_within : (limited : Bool) (tidied clauses : List Literals) → Each IsInput tidied → (if limited then TooMany else Clauses tidied) ≡ Clauses clauses → Each IsInput clauses
inputs_within true tidied clauses each e = absurd (cc)
inputs_within false tidied clauses each e = let same : tidied ≡ clauses = cc in subst (Each IsInput) same each

pub sentences_give_inputs : SentencesGiveInputs
sentences_give_inputs base f h clauses e =
    let raw = raw_clauses (skolem_prefix base) f in
    inputs_within (passes_limit raw) (map tidy raw) clauses (tidy_inputs raw (sentences_give_atom_clauses (skolem_prefix base) f h true outermost nothing outermost_terms)) e

-- ---- clauses of queries

-- an answer literal equals no literal of atoms
apart : (l : Literal) (arguments : List Form) → HasAtom l → (b : Bool) → same_literal l (yes (answer_atom arguments)) ≡ b → b ≡ false
apart l arguments h false e = refl
apart l arguments h true e =
    let same : l ≡ yes (answer_atom arguments) = literals l (yes (answer_atom arguments)) e in
    absurd (false_true (sym (ap (λ (m : Literal). not (is_answer m.atom)) same ∙ ap not (answer-List (codes "!answer") arguments)) ∙ atom_answerless l.atom h))

without_last : (clause : Literals) (arguments : List Form) → Each HasAtom clause
    → without_repeats (clause ++ yes (answer_atom arguments) ∷ []) ≡ without_repeats clause ++ yes (answer_atom arguments) ∷ []
without_last [] arguments each = refl
without_last (l ∷ clause) arguments each =
    let answer = yes (answer_atom arguments) in
    ap (λ (ls : Literals). l ∷ filter (λ m. not (same_literal l m)) ls) (without_last clause arguments each.1)
    ∙ ap (λ (ls : Literals). l ∷ ls) (filter-append (λ m. not (same_literal l m)) (without_repeats clause) (answer ∷ []))
    ∙ ap (λ (b : Bool). l ∷ (filter (λ m. not (same_literal l m)) (without_repeats clause) ++ (if not b then answer ∷ [] else []))) (apart l arguments each.0 (same_literal l answer) refl)

bound_last : (g : Filling) (clause : Literals) (arguments : List Form) → bind_clause g (clause ++ yes (answer_atom arguments) ∷ []) ≡ bind_clause g clause ++ yes (answer_atom (map (bind g) arguments)) ∷ []
bound_last g clause arguments =
    map-append (bind_literal g) clause (yes (answer_atom arguments) ∷ [])
    ∙ ap (λ (atom : Form). bind_clause g clause ++ yes atom ∷ []) (bind-applied g (codes "!answer") arguments)

abbrev pub answer_filling : Literals → List Form → Filling
answer_filling clause arguments = renaming (without_repeats (clause ++ yes (answer_atom arguments) ∷ []))

pub tidy_answering : (clause : Literals) (arguments : List Form) → Each HasAtom clause
    → tidy (clause ++ yes (answer_atom arguments) ∷ []) ≡ bind_clause (answer_filling clause arguments) (without_repeats clause) ++ yes (answer_atom (map (bind (answer_filling clause arguments)) arguments)) ∷ []
unfolding tidy
tidy_answering clause arguments each =
    ap (bind_clause (answer_filling clause arguments)) (without_last clause arguments each) ∙ bound_last (answer_filling clause arguments) (without_repeats clause) arguments

answer_fit : (arguments : List Form) → Each IsTerm arguments → IsFit (yes (answer_atom arguments))
answer_fit arguments each = record { is_list = is_list-List (form.Word (codes "!answer") ∷ arguments); term = list_term (codes "!answer") arguments each }

pub answering_clause : (clause : Literals) (arguments : List Form) → IsAtomClause clause → Each IsTerm arguments → IsQueryClause (length arguments) (tidy (clause ++ yes (answer_atom arguments) ∷ []))
answering_clause clause arguments atoms terms =
    let g = answer_filling clause arguments in
    let fills : (name : Bytes) → IsTerm (g name) = renaming_term (without_repeats (clause ++ yes (answer_atom arguments) ∷ [])) in
    let front = bind_clause g (without_repeats clause) in
    let shown = map (bind g) arguments in
    let kept = kept_atoms g fills clause atoms in
    let is = tidy_answering clause arguments atoms.atoms in
    record {
      proper = proper (tidy (clause ++ yes (answer_atom arguments) ∷ [])) (tidy_again (clause ++ yes (answer_atom arguments) ∷ []))
          (ap (list_any (λ (literal : Literal). not (is_answer literal.atom))) is ∙ first_asserts front (yes (answer_atom shown) ∷ []) kept)
          (subst (Each IsFit) (sym is) (each_append IsFit front (yes (answer_atom shown) ∷ []) (each_map HasAtom IsFit atom_fit front kept.atoms) (answer_fit shown (terms-bind g fills arguments terms), tt)));
      front = front;
      arguments = shown;
      is = is;
      answerless = all_answerless front kept.atoms;
      counted = length-map arguments (bind g);
    }

length_numbered : (n : ℕ) (names : List Bytes) → length (terms_of (numbered n names)) ≡ length names
length_numbered n [] = refl
length_numbered n (name ∷ names) = ap suc (length_numbered (n + 1) names)

answering_clauses : (query : Form) (clauses : List Literals) → Each IsAtomClause clauses → Each IsTerm (around query).scope.universals
    → Each (IsQueryClause (length (asked query))) (map (λ clause. tidy (with_answer query clause)) clauses)
answering_clauses query [] each terms = tt
answering_clauses query (clause ∷ clauses) each terms =
    let here = answering_clause clause (around query).scope.universals each.0 terms in
    (subst (λ count. IsQueryClause count (tidy (with_answer query clause))) (length_numbered 1 (asked query)) here, answering_clauses query clauses each.1 terms)

pub sentences_give_query_clauses : SentencesGiveQueryClauses
sentences_give_query_clauses query h =
    let terms = universal_terms (asked query) outermost nothing outermost_terms in
    answering_clauses query (distribution (negated_matrix query)) (sentences_give_atom_clauses (codes "!query") query h false (around query).scope (around query).counts terms) terms.universals

-- the tidy clauses of what a sentence reads as
pub sentence_tidied : (prefix : Bytes) (f : Form) (scope : Scope) (counts : Counts) (clauses : List Literals) → is_sentence f ≡ true → scope ≡ outermost
    → clauses ≡ map tidy (distribution (reading prefix f true scope counts).matrix) → Each IsInput clauses
sentence_tidied prefix f scope counts clauses sentence out is =
    subst (Each IsInput) (sym is) (tidy_inputs (distribution (reading prefix f true scope counts).matrix) (sentences_give_atom_clauses prefix f sentence true scope counts (subst IsTermScope (sym out) outermost_terms)))
