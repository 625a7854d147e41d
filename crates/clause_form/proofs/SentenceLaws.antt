-- What is read from sentences.
use Rattle.std.proofs.Common.{◌≡◌, List, [], ◌∷◌, map, Bool, true, false, not, ◌&&◌, Option, Some, None, refl, sym, ap, ◌∙◌, subst}
use Rattle.sigma_base.specs.Lists.{Each}
use Rattle.kif_tree.specs.declared.form.Form.{Form, para-Form, para-roll-Form}
use Rattle.kif_tree.specs.declared.form.Form.TheVariants as form
use Rattle.kif_tree.specs.declared.form.Form.TheOpen.{Form-F}
use Rattle.kif_tree.specs.Terms.{Bytes, variables, distinct}
use Rattle.kif_tree.specs.FormLaws.{induction}
use Rattle.kif_tree.specs.Subst.{lookup}
use Rattle.kif_tree.specs.Clauses.{same_sign}
use Rattle.calculus.proofs.TruthLaws.{both, false_true}
use Rattle.clause_form.specs.Connectives.{connective_of}
use Rattle.clause_form.specs.Sentences as spec
use Rattle.clause_form.specs.Sentences.{is_atom, is_sentence, sentence_step, list_step, headed}
use Rattle.clause_form.specs.Readings.{Read, Reading, each, two, second_half, literal, connected, reading_step, reading, entered}
use Rattle.clause_form.specs.SentenceLaws.{IsTermScope, SentencesReadAsAtoms, SentencesGiveAtomClauses}
use Rattle.clause_form.specs.declared.connective.Connective.{Connective}
use Rattle.clause_form.specs.declared.connective.Connective.TheVariants.{Not, And, Or, Implies, Equivalent, ForAll, Exists}
use Rattle.clause_form.specs.declared.scope.Counts.{Counts}
use Rattle.clause_form.specs.declared.scope.Scope.{Scope}
use Rattle.clause_form.proofs.AtomLaws.{atom-bind}
use Rattle.clause_form.proofs.AtomMatrixLaws.{Atomic, atomic_literal, atomic_group}
use Rattle.clause_form.proofs.ProperScopeLaws.{lookup_term, entered_terms}

-- ---- sentences

forms_beside : {A : Type 0} (result : Form → A) (parts : List Form) → map (λ (part : Form × A). part.0) (map (λ f. (f, result f)) parts) ≡ parts
forms_beside result [] = refl
forms_beside result (f ∷ parts) = ap (λ fs. f ∷ fs) (forms_beside result parts)

pub sentence-List : (parts : List Form) → is_sentence (form.List parts) ≡ list_step (map (λ f. (f, is_sentence f)) parts)
unfolding is_sentence
sentence-List parts = ap (para-Form Bool sentence_step) (sym (form.rolls-List parts)) ∙ para-roll-Form Bool sentence_step (Form-F.List parts)

sentence-Word : (text : Bytes) → is_sentence (form.Word text) ≡ false
unfolding is_sentence
sentence-Word text = ap (para-Form Bool sentence_step) (sym (form.rolls-Word text)) ∙ para-roll-Form Bool sentence_step (Form-F.Word text)

sentence-Variable : (text : Bytes) → is_sentence (form.Variable text) ≡ false
unfolding is_sentence
sentence-Variable text = ap (para-Form Bool sentence_step) (sym (form.rolls-Variable text)) ∙ para-roll-Form Bool sentence_step (Form-F.Variable text)

sentence-Row : (text : Bytes) → is_sentence (form.Row text) ≡ false
unfolding is_sentence
sentence-Row text = ap (para-Form Bool sentence_step) (sym (form.rolls-Row text)) ∙ para-roll-Form Bool sentence_step (Form-F.Row text)

sentence-Numeral : (text : Bytes) → is_sentence (form.Numeral text) ≡ false
unfolding is_sentence
sentence-Numeral text = ap (para-Form Bool sentence_step) (sym (form.rolls-Numeral text)) ∙ para-roll-Form Bool sentence_step (Form-F.Numeral text)

sentence-Quoted : (text : Bytes) → is_sentence (form.Quoted text) ≡ false
unfolding is_sentence
sentence-Quoted text = ap (para-Form Bool sentence_step) (sym (form.rolls-Quoted text)) ∙ para-roll-Form Bool sentence_step (Form-F.Quoted text)

-- a list under its head
pub sentence_headed : (head : Form) (parts : List Form) → is_sentence (form.List (head ∷ parts)) ≡ headed (connective_of head) (form.List (head ∷ parts)) (map (λ f. (f, is_sentence f)) parts)
sentence_headed head parts =
    sentence-List (head ∷ parts)
    ∙ ap (λ fs. headed (connective_of head) (form.List fs) (map (λ f. (f, is_sentence f)) parts)) (forms_beside is_sentence (head ∷ parts))

-- ---- readings

reading_headed : (prefix : Bytes) (head : Form) (parts : List Form)
    → reading prefix (form.List (head ∷ parts)) ≡ connected prefix (connective_of head) (map (λ f. (f, reading prefix f)) parts) (literal (form.List (head ∷ parts)))
unfolding reading
reading_headed prefix head parts =
    ap (para-Form Reading (reading_step prefix)) (sym (form.rolls-List (head ∷ parts)))
    ∙ para-roll-Form Reading (reading_step prefix) (Form-F.List (head ∷ parts))
    ∙ ap (λ fs. connected prefix (connective_of head) (map (λ f. (f, reading prefix f)) parts) (literal (form.List fs))) (forms_beside (reading prefix) (head ∷ parts))

module _ (prefix : Bytes) where
  -- what it reads as is made of atoms
  abbrev ReadsAtomic : Reading → Type 0
  ReadsAtomic read = (sign : Bool) (scope : Scope) (counts : Counts) → IsTermScope scope → Atomic (read sign scope counts).matrix

  abbrev IsAtomic : Form → Type 0
  IsAtomic f = is_sentence f ≡ true → ReadsAtomic (reading prefix f)

  literal_atomic : (f : Form) → is_atom f ≡ true → ReadsAtomic (literal f)
  literal_atomic f h sign scope counts terms =
      atomic_literal (record { positive = sign; atom = _ }) (atom-bind (lookup scope.pairs) (lookup_term scope.pairs terms.pairs) f h)

  each_atomic : (parts : List Form) → Each IsAtomic parts → spec.are_sentences (map (λ f. (f, is_sentence f)) parts) ≡ true → (sign : Bool) (scope : Scope) (counts : Counts) → IsTermScope scope
      → Each Atomic (each (map (λ f. (f, reading prefix f)) parts) sign scope counts).matrices
  each_atomic [] all h sign scope counts terms = tt
  each_atomic (f ∷ parts) all h sign scope counts terms =
      let hs = both (is_sentence f) (spec.are_sentences (map (λ g. (g, is_sentence g)) parts)) h in
      (all.0 hs.0 sign scope counts terms, each_atomic parts all.1 hs.1 sign scope (reading prefix f sign scope counts).counts terms)

  pair_atomic : (conjoins : Bool) (f g : Form) → ReadsAtomic (reading prefix f) → ReadsAtomic (reading prefix g) → (f_sign g_sign : Bool) (scope : Scope) (counts : Counts) → IsTermScope scope
      → Atomic (two conjoins (f, reading prefix f) f_sign (g, reading prefix g) g_sign scope counts).matrix
  pair_atomic conjoins f g here there f_sign g_sign scope counts terms =
      atomic_group conjoins _ refl (here f_sign scope counts terms, (there g_sign scope (reading prefix f f_sign scope counts).counts terms, tt))

  converse_atomic : (f g : Form) → ReadsAtomic (reading prefix f) → ReadsAtomic (reading prefix g) → (sign : Bool) (scope : Scope) (counts : Counts) → IsTermScope scope
      → Atomic (second_half (f, reading prefix f) (g, reading prefix g) sign scope counts).matrix
  converse_atomic f g here there true scope counts terms = pair_atomic false g f there here false true scope counts terms
  converse_atomic f g here there false scope counts terms = pair_atomic false f g here there false false scope counts terms

  equivalence_atomic : (f g : Form) → ReadsAtomic (reading prefix f) → ReadsAtomic (reading prefix g) → ReadsAtomic (connected prefix (Some Equivalent) ((f, reading prefix f) ∷ (g, reading prefix g) ∷ []) (literal f))
  equivalence_atomic f g here there sign scope counts terms =
      let first : Read = two false (f, reading prefix f) (not sign) (g, reading prefix g) true scope counts in
      atomic_group true _ refl (pair_atomic false f g here there (not sign) true scope counts terms, (converse_atomic f g here there sign scope first.counts terms, tt))

  quantified_atomic : (universally : Bool) (names body : Form) → ReadsAtomic (reading prefix body) → (sign : Bool) (scope : Scope) (counts : Counts) → IsTermScope scope
      → Atomic (reading prefix body sign (entered prefix universally (distinct (variables names)) scope counts).scope (entered prefix universally (distinct (variables names)) scope counts).counts).matrix
  quantified_atomic universally names body inner sign scope counts terms =
      inner sign (entered prefix universally (distinct (variables names)) scope counts).scope (entered prefix universally (distinct (variables names)) scope counts).counts
      (entered_terms prefix universally (distinct (variables names)) scope counts terms)

  connected_atomic : (c : Option Connective) (whole : Form) (parts : List Form) → Each IsAtomic parts → headed c whole (map (λ f. (f, is_sentence f)) parts) ≡ true
      → ReadsAtomic (connected prefix c (map (λ f. (f, reading prefix f)) parts) (literal whole))
  connected_atomic None whole parts all h = literal_atomic whole h
  connected_atomic (Some Not) whole [] all h = absurd (false_true h)
  connected_atomic (Some Not) whole (f ∷ []) all h = λ sign scope counts terms. all.0 h (not sign) scope counts terms
  connected_atomic (Some Not) whole (f ∷ g ∷ parts) all h = absurd (false_true h)
  connected_atomic (Some And) whole [] all h = absurd (false_true h)
  connected_atomic (Some And) whole (f ∷ parts) all h = λ sign scope counts terms. atomic_group sign _ refl (each_atomic (f ∷ parts) all h sign scope counts terms)
  connected_atomic (Some Or) whole [] all h = absurd (false_true h)
  connected_atomic (Some Or) whole (f ∷ parts) all h = λ sign scope counts terms. atomic_group (not sign) _ refl (each_atomic (f ∷ parts) all h sign scope counts terms)
  connected_atomic (Some Implies) whole [] all h = absurd (false_true h)
  connected_atomic (Some Implies) whole (f ∷ []) all h = absurd (false_true h)
  connected_atomic (Some Implies) whole (f ∷ g ∷ []) all h = λ sign scope counts terms.
      let hs = both (is_sentence f) (is_sentence g && true) h in
      let rest = both (is_sentence g) true hs.1 in
      pair_atomic (not sign) f g (all.0 hs.0) (all.1.0 rest.0) (not sign) sign scope counts terms
  connected_atomic (Some Implies) whole (f ∷ g ∷ e ∷ parts) all h = absurd (false_true h)
  connected_atomic (Some Equivalent) whole [] all h = absurd (false_true h)
  connected_atomic (Some Equivalent) whole (f ∷ []) all h = absurd (false_true h)
  connected_atomic (Some Equivalent) whole (f ∷ g ∷ []) all h =
      let hs = both (is_sentence f) (is_sentence g && true) h in
      let rest = both (is_sentence g) true hs.1 in
      equivalence_atomic f g (all.0 hs.0) (all.1.0 rest.0)
  connected_atomic (Some Equivalent) whole (f ∷ g ∷ e ∷ parts) all h = absurd (false_true h)
  connected_atomic (Some ForAll) whole [] all h = absurd (false_true h)
  connected_atomic (Some ForAll) whole (f ∷ []) all h = absurd (false_true h)
  connected_atomic (Some ForAll) whole (names ∷ body ∷ []) all h = λ sign scope counts terms.
      quantified_atomic (same_sign true sign) names body (all.1.0 h) sign scope counts terms
  connected_atomic (Some ForAll) whole (f ∷ g ∷ e ∷ parts) all h = absurd (false_true h)
  connected_atomic (Some Exists) whole [] all h = absurd (false_true h)
  connected_atomic (Some Exists) whole (f ∷ []) all h = absurd (false_true h)
  connected_atomic (Some Exists) whole (names ∷ body ∷ []) all h = λ sign scope counts terms.
      quantified_atomic (same_sign false sign) names body (all.1.0 h) sign scope counts terms
  connected_atomic (Some Exists) whole (f ∷ g ∷ e ∷ parts) all h = absurd (false_true h)

  list_atomic : (parts : List Form) → Each IsAtomic parts → IsAtomic (form.List parts)
  list_atomic [] all h = absurd (false_true (sym (sentence-List []) ∙ h))
  list_atomic (head ∷ parts) all h = λ sign scope counts terms.
      let inner = connected_atomic (connective_of head) (form.List (head ∷ parts)) parts all.1 (sym (sentence_headed head parts) ∙ h) sign scope counts terms in
      subst (λ (read : Reading). Atomic (read sign scope counts).matrix) (sym (reading_headed prefix head parts)) inner

  no_sentence : (f : Form) → is_sentence f ≡ false → IsAtomic f
  no_sentence f none h = absurd (false_true (sym none ∙ h))

  pub reads_atomic : (f : Form) → is_sentence f ≡ true → (sign : Bool) (scope : Scope) (counts : Counts) → IsTermScope scope → Atomic (reading prefix f sign scope counts).matrix
  reads_atomic = induction IsAtomic (record {
    word = λ text. no_sentence (form.Word text) (sentence-Word text);
    variable = λ text. no_sentence (form.Variable text) (sentence-Variable text);
    row = λ text. no_sentence (form.Row text) (sentence-Row text);
    numeral = λ text. no_sentence (form.Numeral text) (sentence-Numeral text);
    quoted = λ text. no_sentence (form.Quoted text) (sentence-Quoted text);
    list = list_atomic;
  })

pub sentences_read_as_atoms : SentencesReadAsAtoms
sentences_read_as_atoms prefix f h sign scope counts terms = (reads_atomic prefix f h sign scope counts terms).of_atoms

pub sentences_give_atom_clauses : SentencesGiveAtomClauses
sentences_give_atom_clauses prefix f h sign scope counts terms = (reads_atomic prefix f h sign scope counts terms).clauses
