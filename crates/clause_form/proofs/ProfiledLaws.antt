-- Shaped forms in the profile, without row variables and without variables at a head, are sentences.
use Rattle.std.proofs.Common.{◌≡◌, ℕ, ◌+◌, List, [], ◌∷◌, ◌++◌, map, length, arith, Bool, true, false, not, ◌&&◌, ◌||◌, if◌then◌else◌, codes, Option, Some, None, refl, sym, ap, ap₂, ◌∙◌, subst}
use Rattle.std.specs.Prelude.{nat_eq, is_none}
use Rattle.std.specs.List.{list_all, list_any}
use Rattle.std.specs.Str.{bytes_eq}
use Rattle.std.proofs.lemmas.Bool.{eqb-true}
use Rattle.std.proofs.lemmas.Slice.Eq.{bytes_eq-Decides}
use Rattle.sigma_base.specs.Lists.{Each}
use Rattle.kif_tree.specs.declared.form.Form.{Form, out-Form}
use Rattle.kif_tree.specs.declared.form.Form.TheVariants as form
use Rattle.kif_tree.specs.declared.form.Form.TheOpen.{Form-F}
use Rattle.kif_tree.specs.Terms.{Bytes, has_no_row}
use Rattle.kif_tree.specs.FormLaws.{induction}
use Rattle.kif_tree.specs.Names.{parts_layer, is_function_word}
use Rattle.kif_tree.specs.Shape.{has_word, is_among, logical_words, quantifiers, is_list, is_quantifier, is_quantifier_layer, lists_names_layer, binds, takes, may_head, is_misshapen, Part, fault_if, faults_from, as_part, as_names, tested, token_count, shape_faults, first_of, first_form_fault, form_faults, is_list_layer}
use Rattle.kif_tree.specs.Profile.{without_first, operands, compounds, passes, begins, is_logical, is_function_list, is_formula, lists_row, is_variable_layer, applies_own, may_be_sentence, may_be_argument, operands_fit, fits}
use Rattle.kif_tree.proofs.TermLaws.{clean-parts}
use Rattle.kif_tree.proofs.ShapeLaws.{has_word-Word, has_word-List, faults-List, tested_plain}
use Rattle.kif_tree.proofs.ProfileLaws.{any_of_list, all_of_list, by_lists}
use Rattle.calculus.specs.Proper.{has_word_heads, is_word_layer}
use Rattle.calculus.proofs.TruthLaws.{both, false_true, negated}
use Rattle.calculus_programs.proofs.ShapeLaws.{heads_other}
use Rattle.clause_form.specs.Connectives.{connective_named, connective_layer, connective_of}
use Rattle.clause_form.specs.Queries.{begins_with_variable}
use Rattle.clause_form.specs.Sentences.{is_sentence, are_sentences, are_connected, headed}
use Rattle.clause_form.specs.SentenceLaws.{IsTerm, ProfiledAreSentences}
use Rattle.clause_form.specs.declared.connective.Connective.{Connective}
use Rattle.clause_form.specs.declared.connective.Connective.TheVariants.{Not, And, Or, Implies, Equivalent, ForAll, Exists}
use Rattle.clause_form.proofs.AtomLaws.{IsWordOf, word_of, list_term, atom_from, each_of_true}
use Rattle.clause_form.proofs.SentenceLaws.{sentence_headed}

-- ---- tests that fail everywhere

neither : (a b : Bool) → a ≡ false → b ≡ false → (a || b) ≡ false
neither a b h k = ap₂ ◌||◌ h k

pub either : (a b : Bool) → (a || b) ≡ false → (a ≡ false) × (b ≡ false)
either true b h = absurd (false_true (sym h))
either false b h = (refl, h)

pub each_of_false : {X : Type 0} (p : X → Bool) (xs : List X) → list_any p xs ≡ false → Each (λ x. p x ≡ false) xs
each_of_false p [] h = tt
each_of_false p (x ∷ xs) h = let hs = either (p x) (list_any p xs) h in (hs.0, each_of_false p xs hs.1)

pub unnegated : (b : Bool) → not b ≡ false → b ≡ true
unnegated true h = refl
unnegated false h = absurd (false_true (sym h))

-- ---- faults

pub none_left : {X : Type 0} (xs ys : List X) → xs ++ ys ≡ [] → (xs ≡ []) × (ys ≡ [])
none_left [] ys h = (refl, h)
none_left (x ∷ xs) ys h = absurd (cc)

none_mapped : {X Y : Type 0} (f : X → Y) (xs : List X) → map f xs ≡ [] → xs ≡ []
none_mapped f [] h = refl
none_mapped f (x ∷ xs) h = absurd (cc)

pub no_fault : (b : Bool) → fault_if b ≡ [] → b ≡ false
no_fault true h = absurd (cc)
no_fault false h = refl

abbrev pub Faultless : Part → Type 0
Faultless part = part.1 ≡ []

pub faultless : (start : ℕ) (parts : List Part) → faults_from start parts ≡ [] → Each Faultless parts
faultless start [] h = tt
faultless start (part ∷ parts) h =
    let hs = none_left (map (λ at. start + at) part.1) (faults_from (start + token_count part.0) parts) h in
    (none_mapped (λ at. start + at) part.1 hs.0, faultless (start + token_count part.0) parts hs.1)

-- ---- a form of which nothing is wrong

record IsGiven (f : Form) : Type 0 where
  pub shaped : shape_faults f ≡ []
  pub answerless : has_word (codes "!answer") f ≡ false
  pub rowless : has_no_row f ≡ true
  pub fit : list_all fits (compounds f) ≡ true
  pub applied : list_any begins_with_variable (compounds f) ≡ false

abbrev pub Shaped : Form → Type 0
Shaped f = shape_faults f ≡ []

abbrev pub Answerless : Form → Type 0
Answerless f = has_word (codes "!answer") f ≡ false

abbrev Rowless : Form → Type 0
Rowless f = has_no_row f ≡ true

gathered : (fs : List Form) → Each Shaped fs → Each Answerless fs → Each Rowless fs → list_all (λ g. list_all fits (compounds g)) fs ≡ true → list_any (λ g. list_any begins_with_variable (compounds g)) fs ≡ false
    → Each IsGiven fs
gathered [] shaped answerless rowless fit applied = tt
gathered (f ∷ fs) shaped answerless rowless fit applied =
    let fs_ = both (list_all fits (compounds f)) (list_all (λ g. list_all fits (compounds g)) fs) fit in
    let as_ = either (list_any begins_with_variable (compounds f)) (list_any (λ g. list_any begins_with_variable (compounds g)) fs) applied in
    (record { shaped = shaped.0; answerless = answerless.0; rowless = rowless.0; fit = fs_.0; applied = as_.0 }, gathered fs shaped.1 answerless.1 rowless.1 fs_.1 as_.1)

-- what is known of a list of these parts
record ListGiven (parts : List Form) : Type 0 where
  pub well : is_misshapen parts ≡ false
  pub faultless : Each Faultless (tested (map as_part parts))
  pub answerless : Each Answerless parts
  pub rowless : Each Rowless parts
  pub fit : operands_fit parts ≡ true
  pub inner_fit : list_all (λ g. list_all fits (compounds g)) (operands parts) ≡ true
  pub begins : begins_with_variable parts ≡ false
  pub inner_applied : list_any (λ g. list_any begins_with_variable (compounds g)) (operands parts) ≡ false

pub own_fit : (parts : List Form) → fits parts ≡ true → operands_fit parts ≡ true
unfolding fits
own_fit parts h =
    let outer = both (operands_fit parts && not (lists_row parts)) (not (applies_own parts)) h in
    (both (operands_fit parts) (not (lists_row parts)) outer.0).0

list_given : (parts : List Form) → IsGiven (form.List parts) → ListGiven parts
list_given parts given =
    let fs = none_left (fault_if (is_misshapen parts)) (faults_from 1 (tested (map as_part parts))) (sym (faults-List parts) ∙ given.shaped) in
    let fit = both (fits parts) (list_all (λ g. list_all fits (compounds g)) (operands parts)) (sym (all_of_list fits (form.List parts) parts refl) ∙ given.fit) in
    let applied = either (begins_with_variable parts) (list_any (λ g. list_any begins_with_variable (compounds g)) (operands parts)) (sym (any_of_list begins_with_variable (form.List parts) parts refl) ∙ given.applied) in
    record {
      well = no_fault (is_misshapen parts) fs.0;
      faultless = faultless 1 (tested (map as_part parts)) fs.1;
      answerless = each_of_false (has_word (codes "!answer")) parts (sym (has_word-List (codes "!answer") parts) ∙ given.answerless);
      rowless = each_of_true has_no_row parts (sym (clean-parts true parts) ∙ given.rowless);
      fit = own_fit parts fit.0;
      inner_fit = fit.1;
      begins = applied.0;
      inner_applied = applied.1;
    }

-- ---- the head

head_in : (layer : Form-F Form) (arguments : List Form) → not (may_head arguments layer) ≡ false → is_variable_layer layer ≡ false → is_word_layer layer ≡ true
head_in (Form-F.Word text) arguments h k = refl
head_in (Form-F.Variable text) arguments h k = absurd (false_true (sym k))
head_in (Form-F.Row text) arguments h k = absurd (false_true (sym h))
head_in (Form-F.Numeral text) arguments h k = absurd (false_true (sym h))
head_in (Form-F.Quoted text) arguments h k = absurd (false_true (sym h))
head_in (Form-F.List parts) arguments h k = absurd (false_true (sym h))

head_word : (head : Form) (arguments : List Form) → ListGiven (head ∷ arguments) → IsWordOf head
head_word head arguments given = word_of head (head_in (out-Form head) arguments given.well given.begins)

pub takes_arguments : (word : Bytes) (arguments : List Form) → is_misshapen (form.Word word ∷ arguments) ≡ false → takes word arguments ≡ true
takes_arguments word arguments h = unnegated (takes word arguments) (sym (ap (λ layer. not (may_head arguments layer)) (form.outs-Word word)) ∙ h)

pub logical-Word : (word : Bytes) (arguments : List Form) → is_logical (form.Word word ∷ arguments) ≡ is_among logical_words word
logical-Word word arguments = ap (passes (is_among logical_words)) (form.outs-Word word)

pub quantifier-Word : (word : Bytes) → is_quantifier (form.Word word) ≡ is_among quantifiers word
quantifier-Word word = ap is_quantifier_layer (form.outs-Word word)

pub connective-Word : (word : Bytes) → connective_of (form.Word word) ≡ connective_named word
connective-Word word = ap connective_layer (form.outs-Word word)

pub formula-Word : (word : Bytes) (arguments : List Form) → is_formula (form.List (form.Word word ∷ arguments)) ≡ not (is_function_word word)
formula-Word word arguments =
    ap (λ layer. begins (λ w. not (is_function_word w)) (parts_layer layer)) (form.outs-List (form.Word word ∷ arguments)) ∙ ap (passes (λ w. not (is_function_word w))) (form.outs-Word word)

-- ---- operands

pub operands_plain : (word : Bytes) (arguments : List Form) → is_among quantifiers word ≡ false → operands (form.Word word ∷ arguments) ≡ arguments
operands_plain word arguments plain = ap (λ b. without_first (b && binds arguments) arguments) (quantifier-Word word ∙ plain)

pub operands_bound : (word : Bytes) (names body : Form) → is_among quantifiers word ≡ true → lists_names_layer (out-Form names) ≡ true → operands (form.Word word ∷ names ∷ body ∷ []) ≡ body ∷ []
operands_bound word names body quantifies listed = ap₂ (λ b c. without_first (b && c) (names ∷ body ∷ [])) (quantifier-Word word ∙ quantifies) listed

pub shaped_parts : (parts : List Form) → Each Faultless (map as_part parts) → Each Shaped parts
shaped_parts [] each = tt
shaped_parts (f ∷ parts) each = (each.0, shaped_parts parts each.1)

-- the arguments of a word that is no quantifier
plain_given : (word : Bytes) (arguments : List Form) → is_among quantifiers word ≡ false → ListGiven (form.Word word ∷ arguments) → Each IsGiven arguments
plain_given word arguments plain given =
    let parts = form.Word word ∷ arguments in
    let shaped = shaped_parts parts (subst (Each Faultless) (tested_plain (form.Word word) arguments (quantifier-Word word ∙ plain)) given.faultless) in
    let same = operands_plain word arguments plain in
    gathered arguments shaped.1 given.answerless.1 given.rowless.1
    (subst (λ fs. list_all (λ g. list_all fits (compounds g)) fs ≡ true) same given.inner_fit) (subst (λ fs. list_any (λ g. list_any begins_with_variable (compounds g)) fs ≡ false) same given.inner_applied)

-- the body of a quantifier
bound_given : (word : Bytes) (names body : Form) → is_among quantifiers word ≡ true → lists_names_layer (out-Form names) ≡ true → ListGiven (form.Word word ∷ names ∷ body ∷ []) → Each IsGiven (body ∷ [])
bound_given word names body quantifies listed given =
    let kept : Each Faultless (as_part (form.Word word) ∷ as_names names ∷ as_part body ∷ []) =
    subst (λ (b : Bool). Each Faultless (as_part (form.Word word) ∷ (if b then as_names names ∷ as_part body ∷ [] else as_part names ∷ as_part body ∷ []))) (quantifier-Word word ∙ quantifies) given.faultless in
    let same = operands_bound word names body quantifies listed in
    gathered (body ∷ []) (kept.1.1.0, tt) given.answerless.1.1 given.rowless.1.1
    (subst (λ fs. list_all (λ g. list_all fits (compounds g)) fs ≡ true) same given.inner_fit) (subst (λ fs. list_any (λ g. list_any begins_with_variable (compounds g)) fs ≡ false) same given.inner_applied)

-- ---- words

pub record IsPlain (word : Bytes) : Type 0 where
  pub named : connective_named word ≡ None
  pub logical : is_among logical_words word ≡ false
  pub quantifies : is_among quantifiers word ≡ false

rest_of : (b : Bool) (x rest : Option Connective) → b ≡ false → (if b then x else rest) ≡ rest
rest_of true x rest h = absurd (false_true (sym h))
rest_of false x rest h = refl

pub record ByWord (P : Bytes → Type 0) : Type 0 where
  pub negation : P (codes "not")
  pub conjunction : P (codes "and")
  pub disjunction : P (codes "or")
  pub implication : P (codes "=>")
  pub equivalence : P (codes "<=>")
  pub universal : P (codes "forall")
  pub existential : P (codes "exists")
  pub plain : (word : Bytes) → IsPlain word → P word

pub by_word : (P : Bytes → Type 0) → ByWord P → (word : Bytes) → P word
by_word P cases word = go (bytes_eq word (codes "not")) (bytes_eq word (codes "and")) (bytes_eq word (codes "or")) (bytes_eq word (codes "=>")) (bytes_eq word (codes "<=>")) (bytes_eq word (codes "forall")) (bytes_eq word (codes "exists"))
    refl refl refl refl refl refl refl
  where
    named_so : (name : Bytes) → bytes_eq word name ≡ true → P name → P word
    named_so name e h = subst P (sym ((bytes_eq-Decides word name).0 e)) h

    go : (a b c d e f g : Bool) → bytes_eq word (codes "not") ≡ a → bytes_eq word (codes "and") ≡ b → bytes_eq word (codes "or") ≡ c → bytes_eq word (codes "=>") ≡ d → bytes_eq word (codes "<=>") ≡ e
        → bytes_eq word (codes "forall") ≡ f → bytes_eq word (codes "exists") ≡ g → P word
    go true b c d e f g ea eb ec ed ee ef eg = named_so (codes "not") ea cases.negation
    go false true c d e f g ea eb ec ed ee ef eg = named_so (codes "and") eb cases.conjunction
    go false false true d e f g ea eb ec ed ee ef eg = named_so (codes "or") ec cases.disjunction
    go false false false true e f g ea eb ec ed ee ef eg = named_so (codes "=>") ed cases.implication
    go false false false false true f g ea eb ec ed ee ef eg = named_so (codes "<=>") ee cases.equivalence
    go false false false false false true g ea eb ec ed ee ef eg = named_so (codes "forall") ef cases.universal
    go false false false false false false true ea eb ec ed ee ef eg = named_so (codes "exists") eg cases.existential
    go false false false false false false false ea eb ec ed ee ef eg = cases.plain word (record {
      named = rest_of _ _ _ ea ∙ rest_of _ _ _ eb ∙ rest_of _ _ _ ec ∙ rest_of _ _ _ ed ∙ rest_of _ _ _ ee ∙ rest_of _ _ _ ef ∙ rest_of _ _ _ eg;
      logical = neither _ _ ea (neither _ _ eb (neither _ _ ec (neither _ _ ed (neither _ _ ee (neither _ _ ef (neither _ _ eg refl))))));
      quantifies = neither _ _ ef (neither _ _ eg refl);
    })

-- ---- forms in argument place and in sentence place

record Stands (f : Form) : Type 0 where
  pub argument : may_be_argument f ≡ true → has_word_heads f ≡ true
  pub sentence : may_be_sentence f ≡ true → is_sentence f ≡ true

abbrev StandsGiven : Form → Type 0
StandsGiven f = IsGiven f → Stands f

abbrev pub sentences_beside : List Form → List (Form × Bool)
sentences_beside fs = map (λ f. (f, is_sentence f)) fs

terms : (fs : List Form) → Each StandsGiven fs → Each IsGiven fs → list_all may_be_argument fs ≡ true → Each IsTerm fs
terms [] each given h = tt
terms (f ∷ fs) each given h =
    let hs = both (may_be_argument f) (list_all may_be_argument fs) h in
    (record { headed = (each.0 given.0).argument hs.0; rowless = given.0.rowless }, terms fs each.1 given.1 hs.1)

all_sentences : (fs : List Form) → Each StandsGiven fs → Each IsGiven fs → list_all may_be_sentence fs ≡ true → are_sentences (sentences_beside fs) ≡ true
all_sentences [] each given h = refl
all_sentences (f ∷ fs) each given h =
    let hs = both (may_be_sentence f) (list_all may_be_sentence fs) h in
    ap₂ ◌&&◌ ((each.0 given.0).sentence hs.0) (all_sentences fs each.1 given.1 hs.1)

abbrev AtWord : Bytes → Type 0
AtWord word = (arguments : List Form) → Each StandsGiven arguments → ListGiven (form.Word word ∷ arguments) → Stands (form.List (form.Word word ∷ arguments))

-- another word stands before terms
at_plain : (word : Bytes) → IsPlain word → AtWord word
at_plain word plain arguments each given =
    let own : list_all may_be_argument arguments ≡ true =
    ap (list_all may_be_argument) (sym (operands_plain word arguments plain.quantifies))
    ∙ sym (ap (λ b. if b then list_all may_be_sentence (operands (form.Word word ∷ arguments)) else list_all may_be_argument (operands (form.Word word ∷ arguments))) (logical-Word word arguments ∙ plain.logical))
    ∙ given.fit in
    let all = terms arguments each (plain_given word arguments plain.quantifies given) own in
    record {
      argument = λ h. (list_term word arguments all).headed;
      sentence = λ h.
          sentence_headed (form.Word word) arguments
          ∙ ap (λ c. headed c (form.List (form.Word word ∷ arguments)) (sentences_beside arguments)) (connective-Word word ∙ plain.named)
          ∙ atom_from word arguments all (sym (has_word-Word (codes "!answer") word) ∙ given.answerless.0);
    }

-- a logical word stands before sentences, and not in argument place
sentences_of : (word : Bytes) (arguments : List Form) → is_among logical_words word ≡ true → ListGiven (form.Word word ∷ arguments) → list_all may_be_sentence (operands (form.Word word ∷ arguments)) ≡ true
sentences_of word arguments logical given =
    sym (ap (λ b. if b then list_all may_be_sentence (operands (form.Word word ∷ arguments)) else list_all may_be_argument (operands (form.Word word ∷ arguments))) (logical-Word word arguments ∙ logical)) ∙ given.fit

at_logical : (word : Bytes) (c : Connective) (arguments : List Form) → connective_named word ≡ Some c → is_function_word word ≡ false → are_connected c (sentences_beside arguments) ≡ true
    → Stands (form.List (form.Word word ∷ arguments))
at_logical word c arguments named plain connected = record {
  argument = λ h. absurd (false_true (sym (ap not (formula-Word word arguments ∙ ap not plain)) ∙ h));
  sentence = λ h. sentence_headed (form.Word word) arguments
      ∙ ap (λ d. headed d (form.List (form.Word word ∷ arguments)) (sentences_beside arguments)) (connective-Word word ∙ named)
      ∙ connected;
}

-- the arguments of a connective
connected_sentences : (word : Bytes) (arguments : List Form) → is_among logical_words word ≡ true → is_among quantifiers word ≡ false → Each StandsGiven arguments → ListGiven (form.Word word ∷ arguments)
    → are_sentences (sentences_beside arguments) ≡ true
connected_sentences word arguments logical plain each given =
    all_sentences arguments each (plain_given word arguments plain given) (subst (λ fs. list_all may_be_sentence fs ≡ true) (operands_plain word arguments plain) (sentences_of word arguments logical given))

pub one_argument : (fs : List Form) → nat_eq (length fs) 1 ≡ true → are_sentences (sentences_beside fs) ≡ true → are_connected Not (sentences_beside fs) ≡ true
one_argument [] count h = absurd (false_true count)
one_argument (f ∷ []) count h = (both (is_sentence f) true h).0
one_argument (f ∷ g ∷ fs) count h = let two : length (f ∷ g ∷ fs) ≡ 1 = eqb-true (length (f ∷ g ∷ fs)) 1 count in absurd (omega (arith, two))

pub some_arguments_and : (fs : List Form) → not (nat_eq (length fs) 0) ≡ true → are_sentences (sentences_beside fs) ≡ true → are_connected And (sentences_beside fs) ≡ true
some_arguments_and [] count h = absurd (false_true count)
some_arguments_and (f ∷ fs) count h = h

pub some_arguments_or : (fs : List Form) → not (nat_eq (length fs) 0) ≡ true → are_sentences (sentences_beside fs) ≡ true → are_connected Or (sentences_beside fs) ≡ true
some_arguments_or [] count h = absurd (false_true count)
some_arguments_or (f ∷ fs) count h = h

pub two_arguments : (fs : List Form) → nat_eq (length fs) 2 ≡ true → are_sentences (sentences_beside fs) ≡ true
    → (are_connected Implies (sentences_beside fs) ≡ true) × (are_connected Equivalent (sentences_beside fs) ≡ true)
two_arguments [] count h = absurd (false_true count)
two_arguments (f ∷ []) count h = absurd (false_true count)
two_arguments (f ∷ g ∷ []) count h = (h, h)
two_arguments (f ∷ g ∷ e ∷ fs) count h = let three : length (f ∷ g ∷ e ∷ fs) ≡ 2 = eqb-true (length (f ∷ g ∷ e ∷ fs)) 2 count in absurd (omega (arith, three))

abbrev HasBody : Connective → List Form → Type 0
HasBody c arguments = are_connected c (sentences_beside arguments) ≡ true

body_sentence : (word : Bytes) (arguments : List Form) → is_among logical_words word ≡ true → is_among quantifiers word ≡ true → binds arguments ≡ true → Each StandsGiven arguments → ListGiven (form.Word word ∷ arguments)
    → HasBody ForAll arguments × HasBody Exists arguments
body_sentence word [] logical quantifies listed each given = absurd (false_true listed)
body_sentence word (names ∷ []) logical quantifies listed each given = absurd (false_true listed)
body_sentence word (names ∷ body ∷ []) logical quantifies listed each given =
    let inner = all_sentences (body ∷ []) each.1 (bound_given word names body quantifies listed given)
    (subst (λ fs. list_all may_be_sentence fs ≡ true) (operands_bound word names body quantifies listed) (sentences_of word (names ∷ body ∷ []) logical given)) in
    let one = (both (is_sentence body) true inner).0 in
    (one, one)
body_sentence word (names ∷ body ∷ more ∷ arguments) logical quantifies listed each given = absurd (false_true listed)

at_word : (word : Bytes) → AtWord word
at_word = by_word AtWord (record {
  negation = λ arguments each given. at_logical (codes "not") Not arguments refl refl
      (one_argument arguments (takes_arguments (codes "not") arguments given.well) (connected_sentences (codes "not") arguments refl refl each given));
  conjunction = λ arguments each given. at_logical (codes "and") And arguments refl refl
      (some_arguments_and arguments (takes_arguments (codes "and") arguments given.well) (connected_sentences (codes "and") arguments refl refl each given));
  disjunction = λ arguments each given. at_logical (codes "or") Or arguments refl refl
      (some_arguments_or arguments (takes_arguments (codes "or") arguments given.well) (connected_sentences (codes "or") arguments refl refl each given));
  implication = λ arguments each given. at_logical (codes "=>") Implies arguments refl refl
      (two_arguments arguments (takes_arguments (codes "=>") arguments given.well) (connected_sentences (codes "=>") arguments refl refl each given)).0;
  equivalence = λ arguments each given. at_logical (codes "<=>") Equivalent arguments refl refl
      (two_arguments arguments (takes_arguments (codes "<=>") arguments given.well) (connected_sentences (codes "<=>") arguments refl refl each given)).1;
  universal = λ arguments each given. at_logical (codes "forall") ForAll arguments refl refl
      (body_sentence (codes "forall") arguments refl refl (takes_arguments (codes "forall") arguments given.well) each given).0;
  existential = λ arguments each given. at_logical (codes "exists") Exists arguments refl refl
      (body_sentence (codes "exists") arguments refl refl (takes_arguments (codes "exists") arguments given.well) each given).1;
  plain = at_plain;
})

list_stands : (parts : List Form) → Each StandsGiven parts → StandsGiven (form.List parts)
list_stands [] each whole = absurd (false_true (sym (list_given [] whole).well))
list_stands (head ∷ arguments) each whole =
    let given = list_given (head ∷ arguments) whole in
    let word = head_word head arguments given in
    subst (λ (f : Form). Stands (form.List (f ∷ arguments))) (sym word.is) (at_word word.text arguments each.1 (subst (λ (f : Form). ListGiven (f ∷ arguments)) word.is given))

leaf_stands : (f : Form) → is_list f ≡ false → has_word_heads f ≡ true → StandsGiven f
leaf_stands f leaf heads given = record {
  argument = λ h. heads;
  sentence = λ h. absurd (false_true (sym leaf ∙ (both (is_list f) (not (is_function_list f)) h).0));
}

stands : (f : Form) → StandsGiven f
stands = induction StandsGiven (record {
  word = λ text. leaf_stands (form.Word text) (ap is_list_layer (form.outs-Word text)) (heads_other (form.Word text) (λ parts e. let k : Form-F.Word text ≡ Form-F.List parts = sym (form.outs-Word text) ∙ ap out-Form e ∙ form.outs-List parts in absurd (cc)));
  variable = λ text. leaf_stands (form.Variable text) (ap is_list_layer (form.outs-Variable text)) (heads_other (form.Variable text) (λ parts e. let k : Form-F.Variable text ≡ Form-F.List parts = sym (form.outs-Variable text) ∙ ap out-Form e ∙ form.outs-List parts in absurd (cc)));
  row = λ text. leaf_stands (form.Row text) (ap is_list_layer (form.outs-Row text)) (heads_other (form.Row text) (λ parts e. let k : Form-F.Row text ≡ Form-F.List parts = sym (form.outs-Row text) ∙ ap out-Form e ∙ form.outs-List parts in absurd (cc)));
  numeral = λ text. leaf_stands (form.Numeral text) (ap is_list_layer (form.outs-Numeral text)) (heads_other (form.Numeral text) (λ parts e. let k : Form-F.Numeral text ≡ Form-F.List parts = sym (form.outs-Numeral text) ∙ ap out-Form e ∙ form.outs-List parts in absurd (cc)));
  quoted = λ text. leaf_stands (form.Quoted text) (ap is_list_layer (form.outs-Quoted text)) (heads_other (form.Quoted text) (λ parts e. let k : Form-F.Quoted text ≡ Form-F.List parts = sym (form.outs-Quoted text) ∙ ap out-Form e ∙ form.outs-List parts in absurd (cc)));
  list = list_stands;
})

-- ---- forms at the top of a text

pub none_first : {X : Type 0} (xs : List X) → is_none (first_of xs) ≡ true → xs ≡ []
none_first [] h = refl
none_first (x ∷ xs) h = absurd (false_true h)

pub profiled_are_sentences : ProfiledAreSentences
profiled_are_sentences f shaped profiled rowless applied =
    let hs = both (is_none (first_form_fault f)) (not (has_word (codes "!answer") f)) shaped in
    let ps = both (may_be_sentence f) (list_all fits (compounds f)) (sym (by_lists f) ∙ profiled) in
    let listed = (both (is_list f) (not (is_function_list f)) ps.0).0 in
    let faults : form_faults f ≡ shape_faults f = ap (λ b. if b then shape_faults f else 0 ∷ []) listed in
    (stands f (record {
      shaped = sym faults ∙ none_first (form_faults f) hs.0;
      answerless = negated (has_word (codes "!answer") f) hs.1;
      rowless = rowless;
      fit = ps.1;
      applied = applied;
    })).sentence ps.0
