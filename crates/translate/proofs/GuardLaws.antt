-- A sentence with guards is a sentence.
use Rattle.std.proofs.Common.{◌≡◌, ℕ, ◌+◌, List, [], ◌∷◌, ◌++◌, map, filter, Bool, true, false, not, ◌&&◌, ◌||◌, if◌then◌else◌, codes, Option, Some, None, refl, sym, ap, ap₂, ◌∙◌, subst}
use Rattle.std.specs.List.{list_all, flat_map}
use Rattle.std.specs.Str.{bytes_eq}
use Rattle.std.proofs.lemmas.Slice.Eq.{bytes_eq-Decides}
use Rattle.sigma_base.specs.Lists.{Each, each_append, each_filter, each_map, each_of_all}
use Rattle.kif_tree.specs.declared.form.Form.{Form, out-Form, roll-Form, roll-out-Form}
use Rattle.kif_tree.specs.declared.form.Form.TheVariants as form
use Rattle.kif_tree.specs.declared.form.Form.TheOpen.{Form-F}
use Rattle.kif_tree.specs.FormLaws.{induction}
use Rattle.kif_tree.specs.NameLaws.{each_once_all}
use Rattle.kif_tree.specs.Names.{parts_in, free_names, bound, is_other, each_once}
use Rattle.kif_tree.specs.Profile.{is_variable_layer, lists_variables, without_first, operands}
use Rattle.kif_tree.specs.Shape.{is_among, is_list, is_list_layer, is_name, is_name_layer, is_quantifier, is_quantifier_layer, quantifiers, lists_names, lists_names_layer}
use Rattle.kif_tree.specs.Terms.{Bytes, has_no_row}
use Rattle.kif_tree.specs.Clauses.{is_answer}
use Rattle.signatures.specs.Tables.{types_in}
use Rattle.signatures.specs.declared.signatures.Signatures.{Signatures}
use Rattle.signatures.specs.declared.told.TypeTold.{TypeTold}
use Rattle.type_guard.specs.Guarded.{closed, closed_over, all_of, for_all, for_some, is_existential, under, guarded}
use Rattle.type_guard.specs.GuardedLaws.{quantifies, guarded_quantifier, guarded_plain, guarded_other}
use Rattle.type_guard.specs.Guards.{membership, guard_of, is_entity, guards_at, is_of, guards}
use Rattle.type_guard.specs.Occurrences as spec
use Rattle.type_guard.specs.Occurrences.{Occurrence, occurrences, is_variable, of_argument, of_arguments, in_parts, of_parts, of_list}
use Rattle.type_guard.specs.OccurrenceLaws.{occurrences-List, occurrences_other}
use Rattle.type_guard.specs.Reads.{with_occurrences, under_head}
use Rattle.calculus.specs.Proper.{has_word_heads}
use Rattle.calculus.proofs.TruthLaws.{both, false_true}
use Rattle.calculus_programs.specs.Shape.{is_any_word, begins_with_any_word}
use Rattle.calculus_programs.proofs.ShapeLaws.{heads-List}
use Rattle.clause_form.specs.Connectives.{connective_named, connective_layer, connective_of}
use Rattle.clause_form.specs.Sentences.{is_sentence, are_sentences, are_connected, headed}
use Rattle.clause_form.specs.SentenceLaws.{IsTerm}
use Rattle.clause_form.specs.declared.connective.Connective.{Connective}
use Rattle.clause_form.specs.declared.connective.Connective.TheVariants.{Not, And, Or, Implies, Equivalent, ForAll, Exists}
use Rattle.clause_form.proofs.AtomLaws.{word_of, variable_term, word_term, atom_from, is_list-List, each_of_true, true_of_each}
use Rattle.clause_form.proofs.ProfiledLaws.{connective-Word, sentences_beside}
use Rattle.var_expand.proofs.MemberLaws.{each_flat, each_mapped}
use Rattle.clause_form.proofs.SentenceLaws.{sentence-List, sentence_headed}

abbrev pub IsSentence : Form → Type 0
IsSentence f = is_sentence f ≡ true

-- a list under a connective
pub connects : (word : Bytes) (c : Connective) (parts : List Form) → connective_named word ≡ Some c → are_connected c (sentences_beside parts) ≡ true → IsSentence (form.List (form.Word word ∷ parts))
connects word c parts named h =
    sentence_headed (form.Word word) parts ∙ ap (λ d. headed d (form.List (form.Word word ∷ parts)) (sentences_beside parts)) (connective-Word word ∙ named) ∙ h

pub all_sentences : (fs : List Form) → Each IsSentence fs → are_sentences (sentences_beside fs) ≡ true
all_sentences [] each = refl
all_sentences (f ∷ fs) each = ap₂ ◌&&◌ each.0 (all_sentences fs each.1)

-- ---- guards are atoms

pub atom_sentence : (word : Bytes) (arguments : List Form) → connective_named word ≡ None → bytes_eq (codes "!answer") word ≡ false → Each IsTerm arguments → IsSentence (form.List (form.Word word ∷ arguments))
atom_sentence word arguments named plain terms =
    sentence_headed (form.Word word) arguments
    ∙ ap (λ c. headed c (form.List (form.Word word ∷ arguments)) (sentences_beside arguments)) (connective-Word word ∙ named)
    ∙ atom_from word arguments terms plain

guard_sentence : (variable : Form) → IsTerm variable → (type : TypeTold) → IsSentence (guard_of variable type)
guard_sentence variable term type = go type.subclass
  where
    go : (b : Bool) → IsSentence (membership (if b then codes "subclass" else codes "instance") variable type.class)
    go true = atom_sentence (codes "subclass") (variable ∷ form.Word type.class ∷ []) refl refl (term, (word_term type.class, tt))
    go false = atom_sentence (codes "instance") (variable ∷ form.Word type.class ∷ []) refl refl (term, (word_term type.class, tt))

-- the variable of an occurrence is a variable
abbrev OfVariable : Occurrence → Type 0
OfVariable occurrence = IsTerm occurrence.variable

pub record IsVariableOf (f : Form) : Type 0 where
  pub text : Bytes
  pub is : f ≡ form.Variable text

variable_in : (layer : Form-F Form) → is_variable_layer layer ≡ true → IsVariableOf (roll-Form layer)
variable_in (Form-F.Word text) h = absurd (false_true h)
variable_in (Form-F.Variable text) h = record { text = text; is = form.rolls-Variable text }
variable_in (Form-F.Row text) h = absurd (false_true h)
variable_in (Form-F.Numeral text) h = absurd (false_true h)
variable_in (Form-F.Quoted text) h = absurd (false_true h)
variable_in (Form-F.List parts) h = absurd (false_true h)

pub variable_of : (f : Form) → is_variable f ≡ true → IsVariableOf f
variable_of f h = subst IsVariableOf (roll-out-Form f) (variable_in (out-Form f) h)

pub variable_is_term : (f : Form) → is_variable f ≡ true → IsTerm f
variable_is_term f h = let v = variable_of f h in subst IsTerm (sym v.is) (variable_term v.text)

abbrev HasVariables : spec.Part → Type 0
HasVariables part = Each OfVariable part.1

at_argument : (word : Bytes) (n : ℕ) (part : spec.Part) → HasVariables part → Each OfVariable (of_argument word n part)
at_argument word n part h = go (is_variable part.0) refl
  where
    go : (b : Bool) → is_variable part.0 ≡ b → Each OfVariable (if b then record { variable = part.0; head = word; argument = n } ∷ [] else part.1)
    go true e = (variable_is_term part.0 e, tt)
    go false e = h

at_arguments : (word : Bytes) (n : ℕ) (parts : List spec.Part) → Each HasVariables parts → Each OfVariable (of_arguments word n parts)
at_arguments word n [] each = tt
at_arguments word n (part ∷ parts) each = each_append OfVariable (of_argument word n part) (of_arguments word (n + 1) parts) (at_argument word n part each.0) (at_arguments word (n + 1) parts each.1)

at_parts : (layer : Form-F Form) (parts : List spec.Part) → Each HasVariables parts → Each OfVariable (of_parts layer parts)
at_parts (Form-F.Word text) parts each = at_arguments text 1 parts each
at_parts (Form-F.Variable text) parts each = each_flat OfVariable (λ (part : spec.Part). part.1) parts each
at_parts (Form-F.Row text) parts each = each_flat OfVariable (λ (part : spec.Part). part.1) parts each
at_parts (Form-F.Numeral text) parts each = each_flat OfVariable (λ (part : spec.Part). part.1) parts each
at_parts (Form-F.Quoted text) parts each = each_flat OfVariable (λ (part : spec.Part). part.1) parts each
at_parts (Form-F.List fs) parts each = each_flat OfVariable (λ (part : spec.Part). part.1) parts each

pub each_operand : {X : Type 0} (P : X → Type 0) (first : Bool) (xs : List X) → Each P xs → Each P (without_first first xs)
each_operand P true [] each = tt
each_operand P true (x ∷ xs) each = each.1
each_operand P false xs each = each

abbrev OfVariables : Form → Type 0
OfVariables f = Each OfVariable (occurrences f)

at_list : (parts : List Form) → Each OfVariables parts → Each OfVariable (under_head parts)
at_list [] each = tt
at_list (head ∷ arguments) each =
    let inner = each_operand OfVariables (lists_variables (head ∷ arguments)) arguments each.1 in
    at_parts (out-Form head) (map with_occurrences (operands (head ∷ arguments))) (each_mapped HasVariables with_occurrences (operands (head ∷ arguments)) inner)

none_at : (f : Form) → occurrences f ≡ [] → OfVariables f
none_at f e = subst (Each OfVariable) (sym e) tt

pub no_list : (f : Form) → is_list f ≡ false → (parts : List Form) → f ≡ form.List parts → ⊥
no_list f leaf parts e = false_true (sym leaf ∙ ap is_list e ∙ is_list-List parts)

leaf_at : (f : Form) → is_list f ≡ false → OfVariables f
leaf_at f leaf = none_at f (occurrences_other f (no_list f leaf))

of_variables : (f : Form) → OfVariables f
of_variables = induction OfVariables (record {
  word = λ text. leaf_at (form.Word text) (ap is_list_layer (form.outs-Word text));
  variable = λ text. leaf_at (form.Variable text) (ap is_list_layer (form.outs-Variable text));
  row = λ text. leaf_at (form.Row text) (ap is_list_layer (form.outs-Row text));
  numeral = λ text. leaf_at (form.Numeral text) (ap is_list_layer (form.outs-Numeral text));
  quoted = λ text. leaf_at (form.Quoted text) (ap is_list_layer (form.outs-Quoted text));
  list = λ parts each. subst (Each OfVariable) (sym (occurrences-List parts))
      (each_filter OfVariable (λ (occurrence : Occurrence). is_other (bound parts) occurrence.variable) (under_head parts) (at_list parts each));
})

guards_sentences : (signatures : Signatures) (names : List Form) (body : Form) → Each IsSentence (guards signatures names body)
guards_sentences signatures names body =
    let found = filter (is_of names) (occurrences body) in
    let all = each_flat IsSentence (guards_at signatures) found (each_map OfVariable (λ o. Each IsSentence (guards_at signatures o)) at_occurrence found (each_filter OfVariable (is_of names) (occurrences body) (of_variables body))) in
    each_of_true is_sentence (each_once (flat_map (guards_at signatures) found)) (each_once_all is_sentence (flat_map (guards_at signatures) found) (true_of_each is_sentence (flat_map (guards_at signatures) found) all))
  where
    at_occurrence : (o : Occurrence) → OfVariable o → Each IsSentence (guards_at signatures o)
    at_occurrence o term =
        let types = filter (λ (type : TypeTold). not (is_entity type)) (types_in signatures o.head o.argument) in
        each_mapped IsSentence (guard_of o.variable) types (each_of_all (λ type. IsSentence (guard_of o.variable type)) (guard_sentence o.variable term) types)

-- ---- a body under its guards

all_of_sentence : (guard : Form) (more : List Form) → IsSentence guard → Each IsSentence more → IsSentence (all_of guard more)
all_of_sentence guard [] h each = h
all_of_sentence guard (other ∷ more) h each = connects (codes "and") And (guard ∷ other ∷ more) refl (all_sentences (guard ∷ other ∷ more) (h, each))

for_all_sentence : (gs : List Form) (body : Form) → Each IsSentence gs → IsSentence body → IsSentence (for_all gs body)
for_all_sentence [] body each h = h
for_all_sentence (guard ∷ more) body each h =
    connects (codes "=>") Implies (all_of guard more ∷ body ∷ []) refl (all_sentences (all_of guard more ∷ body ∷ []) (all_of_sentence guard more each.0 each.1, (h, tt)))

for_some_sentence : (gs : List Form) (body : Form) → Each IsSentence gs → IsSentence body → IsSentence (for_some gs body)
for_some_sentence [] body each h = h
for_some_sentence (guard ∷ more) body each h =
    connects (codes "and") And (guard ∷ more ++ body ∷ []) refl
    (all_sentences (guard ∷ more ++ body ∷ []) (each.0, each_append IsSentence more (body ∷ []) each.1 (h, tt)))

under_sentence : (quantifier : Form) (gs : List Form) (body : Form) → Each IsSentence gs → IsSentence body → IsSentence (under quantifier gs body)
under_sentence quantifier gs body each h = go (is_existential quantifier)
  where
    go : (b : Bool) → IsSentence (if b then for_some gs body else for_all gs body)
    go true = for_some_sentence gs body each h
    go false = for_all_sentence gs body each h

-- ---- atoms have no quantifiers inside

named_no_word : (f : Form) → is_any_word f ≡ true → is_name f ≡ false
named_no_word f h = let w = word_of f h in ap is_name w.is ∙ ap is_name_layer (form.outs-Word w.text)

no_names : (f : Form) → has_word_heads f ≡ true → lists_names_layer (out-Form f) ≡ false
no_names = induction (λ f. has_word_heads f ≡ true → lists_names_layer (out-Form f) ≡ false) (record {
  word = λ text h. ap lists_names_layer (form.outs-Word text);
  variable = λ text h. ap lists_names_layer (form.outs-Variable text);
  row = λ text h. ap lists_names_layer (form.outs-Row text);
  numeral = λ text h. ap lists_names_layer (form.outs-Numeral text);
  quoted = λ text h. ap lists_names_layer (form.outs-Quoted text);
  list = λ parts each h. ap lists_names_layer (form.outs-List parts) ∙ go parts (both (begins_with_any_word parts) (list_all has_word_heads parts) (sym (heads-List parts) ∙ h)).0;
})
  where
    go : (parts : List Form) → begins_with_any_word parts ≡ true → lists_names parts ≡ false
    go [] h = absurd (false_true h)
    go (head ∷ parts) h = ap (λ b. b && lists_names parts) (named_no_word head h)

and_false : (b : Bool) → (b && false) ≡ false
and_false true = refl
and_false false = refl

heads_plain : (parts : List Form) → list_all has_word_heads parts ≡ true → (head names body : Form) → parts ≡ head ∷ names ∷ body ∷ [] → quantifies head names ≡ false
heads_plain parts h head names body is =
    let each = each_of_true has_word_heads (head ∷ names ∷ body ∷ []) (sym (ap (list_all has_word_heads) is) ∙ h) in
    ap (λ b. is_quantifier head && b) (no_names names each.1.0) ∙ and_false (is_quantifier head)

module _ (signatures : Signatures) where
  abbrev Kept : Form → Type 0
  Kept f = has_word_heads f ≡ true → guarded signatures f ≡ f

  all_kept : (parts : List Form) → Each Kept parts → list_all has_word_heads parts ≡ true → map (guarded signatures) parts ≡ parts
  all_kept [] each h = refl
  all_kept (f ∷ parts) each h = let hs = both (has_word_heads f) (list_all has_word_heads parts) h in ap₂ ◌∷◌ (each.0 hs.0) (all_kept parts each.1 hs.1)

  leaf_kept : (f : Form) → is_list f ≡ false → guarded signatures f ≡ f
  leaf_kept f leaf = guarded_other signatures f (no_list f leaf)

  kept : (f : Form) → Kept f
  kept = induction Kept (record {
    word = λ text h. leaf_kept (form.Word text) (ap is_list_layer (form.outs-Word text));
    variable = λ text h. leaf_kept (form.Variable text) (ap is_list_layer (form.outs-Variable text));
    row = λ text h. leaf_kept (form.Row text) (ap is_list_layer (form.outs-Row text));
    numeral = λ text h. leaf_kept (form.Numeral text) (ap is_list_layer (form.outs-Numeral text));
    quoted = λ text h. leaf_kept (form.Quoted text) (ap is_list_layer (form.outs-Quoted text));
    list = λ parts each h.
        let hs = (both (begins_with_any_word parts) (list_all has_word_heads parts) (sym (heads-List parts) ∙ h)).1 in
        guarded_plain signatures parts (heads_plain parts hs) ∙ ap form.List (all_kept parts each hs);
  })

  -- ---- sentences

  abbrev Guards : Form → Type 0
  Guards f = IsSentence f → IsSentence (guarded signatures f)

  each_guards : (fs : List Form) → Each Guards fs → are_sentences (sentences_beside fs) ≡ true → are_sentences (sentences_beside (map (guarded signatures) fs)) ≡ true
  each_guards [] each h = refl
  each_guards (f ∷ fs) each h = let hs = both (is_sentence f) (are_sentences (sentences_beside fs)) h in ap₂ ◌&&◌ (each.0 hs.0) (each_guards fs each.1 hs.1)

  connected_guards : (c : Connective) (fs : List Form) → Each Guards fs → are_connected c (sentences_beside fs) ≡ true → are_connected c (sentences_beside (map (guarded signatures) fs)) ≡ true
  connected_guards Not [] each h = absurd (false_true h)
  connected_guards Not (f ∷ []) each h = each.0 h
  connected_guards Not (f ∷ g ∷ fs) each h = absurd (false_true h)
  connected_guards And [] each h = absurd (false_true h)
  connected_guards And (f ∷ fs) each h = each_guards (f ∷ fs) each h
  connected_guards Or [] each h = absurd (false_true h)
  connected_guards Or (f ∷ fs) each h = each_guards (f ∷ fs) each h
  connected_guards Implies [] each h = absurd (false_true h)
  connected_guards Implies (f ∷ []) each h = absurd (false_true h)
  connected_guards Implies (f ∷ g ∷ []) each h = each_guards (f ∷ g ∷ []) each h
  connected_guards Implies (f ∷ g ∷ e ∷ fs) each h = absurd (false_true h)
  connected_guards Equivalent [] each h = absurd (false_true h)
  connected_guards Equivalent (f ∷ []) each h = absurd (false_true h)
  connected_guards Equivalent (f ∷ g ∷ []) each h = each_guards (f ∷ g ∷ []) each h
  connected_guards Equivalent (f ∷ g ∷ e ∷ fs) each h = absurd (false_true h)
  connected_guards ForAll [] each h = absurd (false_true h)
  connected_guards ForAll (f ∷ []) each h = absurd (false_true h)
  connected_guards ForAll (names ∷ body ∷ []) each h = each.1.0 h
  connected_guards ForAll (f ∷ g ∷ e ∷ fs) each h = absurd (false_true h)
  connected_guards Exists [] each h = absurd (false_true h)
  connected_guards Exists (f ∷ []) each h = absurd (false_true h)
  connected_guards Exists (names ∷ body ∷ []) each h = each.1.0 h
  connected_guards Exists (f ∷ g ∷ e ∷ fs) each h = absurd (false_true h)

  abbrev IsPlain : List Form → Type 0
  IsPlain parts = (head names body : Form) → parts ≡ head ∷ names ∷ body ∷ [] → quantifies head names ≡ false

  plain_list : (word : Bytes) (c : Connective) (arguments : List Form) → connective_named word ≡ Some c → are_connected c (sentences_beside arguments) ≡ true → Each Guards arguments → IsPlain (form.Word word ∷ arguments)
      → IsSentence (guarded signatures (form.List (form.Word word ∷ arguments)))
  plain_list word c arguments named h each plain =
      ap is_sentence (guarded_plain signatures (form.Word word ∷ arguments) plain
      ∙ ap (λ f. form.List (f ∷ map (guarded signatures) arguments)) (leaf_kept (form.Word word) (ap is_list_layer (form.outs-Word word))))
      ∙ connects word c (map (guarded signatures) arguments) named (connected_guards c arguments each h)

  quantifies_one : (c : Connective) (names body other : Form) (word : Bytes) → connective_named word ≡ Some c → is_among quantifiers word ≡ true → are_connected c (sentences_beside (names ∷ body ∷ [])) ≡ true
      → (IsSentence body → IsSentence other) → are_connected c (sentences_beside (names ∷ other ∷ [])) ≡ true
  quantifies_one c names body other word named h connected inner = go (bytes_eq word (codes "forall")) (bytes_eq word (codes "exists")) refl refl h
    where
      of_quantifier : (d : Connective) → d ≡ c → (are_connected d (sentences_beside (names ∷ body ∷ [])) ≡ true → are_connected d (sentences_beside (names ∷ other ∷ [])) ≡ true) → are_connected c (sentences_beside (names ∷ other ∷ [])) ≡ true
      of_quantifier d is step = subst (λ e. are_connected e (sentences_beside (names ∷ body ∷ [])) ≡ true → are_connected e (sentences_beside (names ∷ other ∷ [])) ≡ true) is step connected

      some_alike : (d : Connective) → Some d ≡ Some c → d ≡ c
      some_alike d e = cc

      go : (a b : Bool) → bytes_eq word (codes "forall") ≡ a → bytes_eq word (codes "exists") ≡ b → (a || (b || false)) ≡ true → are_connected c (sentences_beside (names ∷ other ∷ [])) ≡ true
      go true b ea eb k = of_quantifier ForAll (some_alike ForAll (sym (ap connective_named ((bytes_eq-Decides word (codes "forall")).0 ea)) ∙ named)) inner
      go false true ea eb k = of_quantifier Exists (some_alike Exists (sym (ap connective_named ((bytes_eq-Decides word (codes "exists")).0 eb)) ∙ named)) inner
      go false false ea eb k = absurd (false_true k)

  three_parts : (word : Bytes) (c : Connective) (names body : Form) → connective_named word ≡ Some c → are_connected c (sentences_beside (names ∷ body ∷ [])) ≡ true → Each Guards (names ∷ body ∷ [])
      → IsSentence (guarded signatures (form.List (form.Word word ∷ names ∷ body ∷ [])))
  three_parts word c names body named h each = go (quantifies (form.Word word) names) refl
    where
      go : (b : Bool) → quantifies (form.Word word) names ≡ b → IsSentence (guarded signatures (form.List (form.Word word ∷ names ∷ body ∷ [])))
      go true e =
          let quantifier = sym (ap is_quantifier_layer (form.outs-Word word)) ∙ (both (is_quantifier (form.Word word)) (lists_names_layer (out-Form names)) e).0 in
          let inner = under (form.Word word) (guards signatures (parts_in names) body) (guarded signatures body) in
          ap is_sentence (guarded_quantifier signatures (form.Word word) names body e)
          ∙ connects word c (names ∷ inner ∷ []) named
          (quantifies_one c names body inner word named quantifier h
          (λ k. under_sentence (form.Word word) (guards signatures (parts_in names) body) (guarded signatures body) (guards_sentences signatures (parts_in names) body) (each.1.0 k)))
      go false e = plain_list word c (names ∷ body ∷ []) named h each plain
        where
          plain : IsPlain (form.Word word ∷ names ∷ body ∷ [])
          plain head ns b is =
              let first : head ≡ form.Word word = cc in
              let second : ns ≡ names = cc in
              ap₂ quantifies first second ∙ e

  at_connective : (word : Bytes) (c : Connective) (arguments : List Form) → connective_named word ≡ Some c → are_connected c (sentences_beside arguments) ≡ true → Each Guards arguments
      → IsSentence (guarded signatures (form.List (form.Word word ∷ arguments)))
  at_connective word c [] named h each = plain_list word c [] named h each (λ head names body is. absurd (cc))
  at_connective word c (a ∷ []) named h each = plain_list word c (a ∷ []) named h each (λ head names body is. absurd (cc))
  at_connective word c (names ∷ body ∷ []) named h each = three_parts word c names body named h each
  at_connective word c (a ∷ b ∷ d ∷ arguments) named h each = plain_list word c (a ∷ b ∷ d ∷ arguments) named h each (λ head names body is. absurd (cc))

  -- what names a connective is a word
  record IsNamed (head : Form) (c : Connective) : Type 0 where
    pub word : Bytes
    pub is : head ≡ form.Word word
    pub named : connective_named word ≡ Some c

  named_in : (layer : Form-F Form) (c : Connective) → connective_layer layer ≡ Some c → IsNamed (roll-Form layer) c
  named_in (Form-F.Word text) c h = record { word = text; is = form.rolls-Word text; named = h }
  named_in (Form-F.Variable text) c h = absurd (cc)
  named_in (Form-F.Row text) c h = absurd (cc)
  named_in (Form-F.Numeral text) c h = absurd (cc)
  named_in (Form-F.Quoted text) c h = absurd (cc)
  named_in (Form-F.List parts) c h = absurd (cc)

  list_guards : (parts : List Form) → Each Guards parts → Guards (form.List parts)
  list_guards [] each h = absurd (false_true (sym (sentence-List []) ∙ h))
  list_guards (head ∷ arguments) each h = go (connective_of head) refl (sym (sentence_headed head arguments) ∙ h)
    where
      go : (o : Option Connective) → connective_of head ≡ o → headed o (form.List (head ∷ arguments)) (sentences_beside arguments) ≡ true → IsSentence (guarded signatures (form.List (head ∷ arguments)))
      go None e k =
          let parts = both (is_list (form.List (head ∷ arguments))) (has_word_heads (form.List (head ∷ arguments)) && (has_no_row (form.List (head ∷ arguments)) && not (is_answer (form.List (head ∷ arguments))))) k in
          ap is_sentence (kept (form.List (head ∷ arguments)) (both (has_word_heads (form.List (head ∷ arguments))) (has_no_row (form.List (head ∷ arguments)) && not (is_answer (form.List (head ∷ arguments)))) parts.1).0) ∙ h
      go (Some c) e k =
          let is = subst (λ f. IsNamed f c) (roll-out-Form head) (named_in (out-Form head) c e) in
          subst (λ f. IsSentence (guarded signatures (form.List (f ∷ arguments)))) (sym is.is) (at_connective is.word c arguments is.named k each.1)

  leaf_guards : (f : Form) → is_list f ≡ false → Guards f
  leaf_guards f leaf h = ap is_sentence (leaf_kept f leaf) ∙ h

  guards_keep : (f : Form) → Guards f
  guards_keep = induction Guards (record {
    word = λ text. leaf_guards (form.Word text) (ap is_list_layer (form.outs-Word text));
    variable = λ text. leaf_guards (form.Variable text) (ap is_list_layer (form.outs-Variable text));
    row = λ text. leaf_guards (form.Row text) (ap is_list_layer (form.outs-Row text));
    numeral = λ text. leaf_guards (form.Numeral text) (ap is_list_layer (form.outs-Numeral text));
    quoted = λ text. leaf_guards (form.Quoted text) (ap is_list_layer (form.outs-Quoted text));
    list = list_guards;
  })

closed_sentence : (f : Form) → IsSentence f → IsSentence (closed f)
closed_sentence f h = go (filter is_variable (free_names f))
  where
    go : (names : List Form) → IsSentence (closed_over names f)
    go [] = h
    go (name ∷ names) = connects (codes "forall") ForAll (form.List (name ∷ names) ∷ f ∷ []) refl h

pub guarded_sentence : (signatures : Signatures) (f : Form) → is_sentence f ≡ true → is_sentence (guarded signatures (closed f)) ≡ true
guarded_sentence signatures f h = guards_keep signatures (closed f) (closed_sentence f h)
