-- A shaped form in the profile is a sentence after each choice for its predicate variables and row variables.
use Rattle.std.proofs.Common.{◌≡◌, ◌⊎◌, List, [], ◌∷◌, ◌++◌, map, length, Bool, true, false, not, ◌&&◌, if◌then◌else◌, codes, Some, None, refl, sym, ap, ap₂, ◌∙◌, subst, inl, inr}
use Rattle.std.specs.Prelude.{nat_eq, is_none}
use Rattle.std.specs.List.{list_all, list_any, flat_map}
use Rattle.std.specs.Str.{bytes_eq}
use Rattle.std.proofs.lemmas.List.{length-map}
use Rattle.sigma_base.specs.Lists.{Each, each_append, each_filter}
use Rattle.kif_tree.specs.declared.form.Form.{Form, out-Form, roll-Form, roll-out-Form}
use Rattle.kif_tree.specs.declared.form.Form.TheVariants as form
use Rattle.kif_tree.specs.declared.form.Form.TheOpen.{Form-F}
use Rattle.kif_tree.specs.FormLaws.{induction}
use Rattle.kif_tree.specs.NameLaws.{free-Row}
use Rattle.kif_tree.specs.Names.{free, free_names, bound, is_other, is_function_word}
use Rattle.kif_tree.specs.Profile.{operands, without_first, compounds, is_logical, is_row_layer, is_variable_layer, is_function_list, may_be_sentence, may_be_argument, fits, is_in_profile, passes}
use Rattle.kif_tree.specs.Shape.{has_word, is_among, logical_words, quantifiers, is_list, is_list_layer, is_name, is_name_layer, is_quantifier, lists_names_layer, binds, takes, may_head, is_misshapen, fault_if, faults_from, as_part, as_names, tested, shape_faults, first_form_fault, form_faults, is_shaped}
use Rattle.kif_tree.specs.Terms.{Bytes, has_no_row, same}
use Rattle.kif_tree.proofs.TermLaws.{clean-Numeral, clean-Quoted}
use Rattle.kif_tree.proofs.ShapeLaws.{has_word-Word, has_word-List, faults-List, tested_plain}
use Rattle.kif_tree.proofs.ProfileLaws.{by_lists}
use Rattle.calculus.proofs.TruthLaws.{both, false_true, negated}
use Rattle.calculus_programs.proofs.ShapeLaws.{heads_other}
use Rattle.var_expand.specs.Choices.{Setting, Choice, row_part, row_numbers, row_options, beginnings, options, options_layer, relation_options, becomes_by, choices, chosen_for, predicate_variables, row_variables, heads_a_list, begins_with, is_variable, is_row}
use Rattle.var_expand.specs.Chosen.{set_to}
use Rattle.var_expand.specs.Replacement.{without, replaced}
use Rattle.var_expand.specs.Search.{Has, IsDrawn, variable_of}
use Rattle.var_expand.specs.Spliced.{spliced_part}
use Rattle.var_expand.proofs.AgreeLaws.{becomes_of, chosen_of}
use Rattle.var_expand.proofs.GrowLaws.{IsFor, choices_for}
use Rattle.var_expand.proofs.MemberLaws.{has_map, has_filter, each_has, each_where}
use Rattle.var_expand.proofs.ReplacedLaws.{replaced_other, replaced_nothing, list_replaced}
use Rattle.clause_form.specs.Connectives.{connective_named}
use Rattle.clause_form.specs.Sentences.{is_sentence, are_sentences, are_connected}
use Rattle.clause_form.specs.SentenceLaws.{IsTerm}
use Rattle.clause_form.specs.declared.connective.Connective.{Connective}
use Rattle.clause_form.specs.declared.connective.Connective.TheVariants.{Not, And, Or, Implies, Equivalent, ForAll, Exists}
use Rattle.clause_form.proofs.AtomLaws.{variable_term, word_term, list_term, each_of_true}
use Rattle.clause_form.proofs.ProfiledLaws.{each_of_false, none_left, no_fault, Faultless, faultless, Shaped, Answerless, own_fit, takes_arguments, logical-Word, quantifier-Word, formula-Word, operands_plain, operands_bound, shaped_parts, IsPlain, by_word, one_argument, some_arguments_and, some_arguments_or, two_arguments, none_first, sentences_beside}
use Rattle.translate.proofs.GuardLaws.{IsSentence, connects, atom_sentence, all_sentences, no_list, variable_is_term}
use Rattle.translate.proofs.HeadLaws.{has_left, has_right, has_flat, has_mapped, has_any, once_has, operand_part, plain_bound, variable_no_quantifier, row_other, HeadOf, head_other, own_list, inner_list, free_part, free_heads, both_heads, itself}

-- ---- what is set

-- a word that may stand at the head of an atom
pub record IsHead (word : Bytes) : Type 0 where
  pub logical : is_among logical_words word ≡ false
  pub plain : bytes_eq (codes "!answer") word ≡ false

plain_word : (word : Bytes) → is_among logical_words word ≡ false → IsPlain word
plain_word = by_word (λ word. is_among logical_words word ≡ false → IsPlain word) (record {
  negation = λ h. absurd (false_true (sym h));
  conjunction = λ h. absurd (false_true (sym h));
  disjunction = λ h. absurd (false_true (sym h));
  implication = λ h. absurd (false_true (sym h));
  equivalence = λ h. absurd (false_true (sym h));
  universal = λ h. absurd (false_true (sym h));
  existential = λ h. absurd (false_true (sym h));
  plain = λ word plain h. plain;
})

beginnings_terms : (fs : List Form) → Each IsTerm fs → Each (Each IsTerm) (beginnings fs)
beginnings_terms [] each = tt
beginnings_terms (f ∷ fs) each = ((each.0, tt), longer (beginnings fs) (beginnings_terms fs each.1))
  where
    longer : (rows : List (List Form)) → Each (Each IsTerm) rows → Each (Each IsTerm) (map (λ row. f ∷ row) rows)
    longer [] h = tt
    longer (row ∷ rows) h = ((each.0, h.0), longer rows h.1)

row_terms : (row : Bytes) (becomes : List Form) → Has (row_options row) becomes → Each IsTerm becomes
row_terms row becomes h = each_has (Each IsTerm) (row_options row) becomes (beginnings_terms (map (row_part row) row_numbers) (parts row_numbers)) h
  where
    parts : (numbers : List Bytes) → Each IsTerm (map (row_part row) numbers)
    parts [] = tt
    parts (number ∷ numbers) = (variable_term _, parts numbers)

-- what is set in the choice
abbrev Sets : Choice → Form → Type 0
Sets choice name = Has (map variable_of choice) name

sets_without : (names : List Form) (choice : Choice) (name : Form) → Sets choice name → is_other names name ≡ true → Sets (without names choice) name
sets_without names choice name h other =
    let r = has_map variable_of choice name h in
    subst (Sets (without names choice)) r.2
    (has_mapped variable_of (without names choice) r.0
    (has_filter (λ (setting : Setting). is_other names setting.variable) choice r.0 r.1 (ap (is_other names) r.2 ∙ other)))

-- ---- kinds of forms, and what is spliced

row_or_variable : (layer : Form-F Form) → is_name_layer layer ≡ true → is_row_layer layer ≡ false → is_variable_layer layer ≡ true
row_or_variable (Form-F.Word text) n r = absurd (false_true n)
row_or_variable (Form-F.Variable text) n r = refl
row_or_variable (Form-F.Row text) n r = absurd (false_true (sym r))
row_or_variable (Form-F.Numeral text) n r = absurd (false_true n)
row_or_variable (Form-F.Quoted text) n r = absurd (false_true n)
row_or_variable (Form-F.List parts) n r = absurd (false_true n)

-- the choice inside a list
abbrev inside : List Form → Choice → Choice
inside parts choice = without (bound parts) choice

-- what its shape says of a list
record IsFaultless (parts : List Form) : Type 0 where
  pub well : is_misshapen parts ≡ false
  pub each : Each Faultless (tested (map as_part parts))

faultless_list : (parts : List Form) → Shaped (form.List parts) → IsFaultless parts
faultless_list parts shaped =
    let fs = none_left (fault_if (is_misshapen parts)) (faults_from 1 (tested (map as_part parts))) (sym (faults-List parts) ∙ shaped) in
    record { well = no_fault (is_misshapen parts) fs.0; each = faultless 1 (tested (map as_part parts)) fs.1 }

leaf_spliced : (choice : Choice) (f : Form) → is_name f ≡ false → spliced_part choice f ≡ replaced f choice ∷ []
leaf_spliced choice f other = ap (λ b. if b then becomes_by choice f else replaced f choice ∷ []) other

name_spliced : (choice : Choice) (f : Form) → is_name f ≡ true → spliced_part choice f ≡ becomes_by choice f
name_spliced choice f name = ap (λ b. if b then becomes_by choice f else replaced f choice ∷ []) name

list_no_name : (layer : Form-F Form) → is_list_layer layer ≡ true → is_name_layer layer ≡ false
list_no_name (Form-F.Word text) h = absurd (false_true h)
list_no_name (Form-F.Variable text) h = absurd (false_true h)
list_no_name (Form-F.Row text) h = absurd (false_true h)
list_no_name (Form-F.Numeral text) h = absurd (false_true h)
list_no_name (Form-F.Quoted text) h = absurd (false_true h)
list_no_name (Form-F.List parts) h = refl

names_no_name : (layer : Form-F Form) → lists_names_layer layer ≡ true → is_name_layer layer ≡ false
names_no_name (Form-F.Word text) h = absurd (false_true h)
names_no_name (Form-F.Variable text) h = absurd (false_true h)
names_no_name (Form-F.Row text) h = absurd (false_true h)
names_no_name (Form-F.Numeral text) h = absurd (false_true h)
names_no_name (Form-F.Quoted text) h = absurd (false_true h)
names_no_name (Form-F.List parts) h = refl

word_spliced : (choice : Choice) (word : Bytes) → spliced_part choice (form.Word word) ≡ form.Word word ∷ []
word_spliced choice word =
    leaf_spliced choice (form.Word word) (ap is_name_layer (form.outs-Word word))
    ∙ ap (λ f. f ∷ []) (replaced_other (form.Word word) choice (no_list (form.Word word) (ap is_list_layer (form.outs-Word word))))

replaced_list : (parts : List Form) (choice : Choice) → replaced (form.List parts) choice ≡ form.List (flat_map (spliced_part (inside parts choice)) parts)
replaced_list parts choice = sym (list_replaced (form.List parts) parts choice (inside parts choice) (flat_map (spliced_part (inside parts choice)) parts) refl refl refl)

sentences_spliced : (choice : Choice) (fs : List Form) → list_all may_be_sentence fs ≡ true → flat_map (spliced_part choice) fs ≡ map (λ f. replaced f choice) fs
sentences_spliced choice [] h = refl
sentences_spliced choice (f ∷ fs) h =
    let hs = both (may_be_sentence f) (list_all may_be_sentence fs) h in
    ap₂ ◌++◌ (leaf_spliced choice f (list_no_name (out-Form f) (both (is_list f) (not (is_function_list f)) hs.0).0)) (sentences_spliced choice fs hs.1)

variable_passes : (test : Bytes → Bool) (layer : Form-F Form) → is_variable_layer layer ≡ true → passes test layer ≡ false
variable_passes test (Form-F.Word text) h = absurd (false_true h)
variable_passes test (Form-F.Variable text) h = refl
variable_passes test (Form-F.Row text) h = refl
variable_passes test (Form-F.Numeral text) h = refl
variable_passes test (Form-F.Quoted text) h = refl
variable_passes test (Form-F.List parts) h = refl

variable_name : (layer : Form-F Form) → is_variable_layer layer ≡ true → is_name_layer layer ≡ true
variable_name (Form-F.Word text) h = absurd (false_true h)
variable_name (Form-F.Variable text) h = refl
variable_name (Form-F.Row text) h = refl
variable_name (Form-F.Numeral text) h = absurd (false_true h)
variable_name (Form-F.Quoted text) h = absurd (false_true h)
variable_name (Form-F.List parts) h = absurd (false_true h)

-- a word or a variable stands at the head
head_kind : (layer : Form-F Form) (arguments : List Form) → not (may_head arguments layer) ≡ false → ((text : Bytes) × (roll-Form layer ≡ form.Word text)) ⊎ (is_variable_layer layer ≡ true)
head_kind (Form-F.Word text) arguments h = inl (text, form.rolls-Word text)
head_kind (Form-F.Variable text) arguments h = inr refl
head_kind (Form-F.Row text) arguments h = absurd (false_true (sym h))
head_kind (Form-F.Numeral text) arguments h = absurd (false_true (sym h))
head_kind (Form-F.Quoted text) arguments h = absurd (false_true (sym h))
head_kind (Form-F.List parts) arguments h = absurd (false_true (sym h))

no_sentence : (f : Form) → is_list f ≡ false → {A : Type 0} → may_be_sentence f ≡ true → A
no_sentence f leaf h = absurd (false_true (sym leaf ∙ (both (is_list f) (not (is_function_list f)) h).0))

leaf_term : (f : Form) → is_list f ≡ false → has_no_row f ≡ true → IsTerm f
leaf_term f leaf rowless = record { headed = heads_other f (no_list f leaf); rowless = rowless }

module _ (relations : List Bytes) (heads : (word : Bytes) → Has relations word → IsHead word) where
  -- a predicate variable becomes a word for a head
  record IsHeaded (becomes : List Form) : Type 0 where
    pub word : Bytes
    pub is : becomes ≡ form.Word word ∷ []
    pub head : IsHead word

  head_option : (becomes : List Form) → Has (relation_options relations) becomes → IsHeaded becomes
  head_option becomes h =
      let r = has_map (λ (relation : Bytes). form.Word relation ∷ []) relations becomes h in
      record { word = r.0; is = sym r.2; head = heads r.0 r.1 }

  variable_option : (layer : Form-F Form) (becomes : List Form) → is_variable (roll-Form layer) ≡ true → Has (options_layer relations layer) becomes → IsHeaded becomes
  variable_option (Form-F.Word text) becomes v h = absurd h
  variable_option (Form-F.Variable text) becomes v h = head_option becomes h
  variable_option (Form-F.Row text) becomes v h = absurd (false_true (sym (ap is_variable (form.rolls-Row text) ∙ ap is_variable_layer (form.outs-Row text)) ∙ v))
  variable_option (Form-F.Numeral text) becomes v h = absurd h
  variable_option (Form-F.Quoted text) becomes v h = absurd h
  variable_option (Form-F.List parts) becomes v h = absurd h

  option_terms : (layer : Form-F Form) (becomes : List Form) → Has (options_layer relations layer) becomes → Each IsTerm becomes
  option_terms (Form-F.Word text) becomes h = absurd h
  option_terms (Form-F.Variable text) becomes h = let o = head_option becomes h in subst (Each IsTerm) (sym o.is) (word_term o.word, tt)
  option_terms (Form-F.Row text) becomes h = row_terms text becomes h
  option_terms (Form-F.Numeral text) becomes h = absurd h
  option_terms (Form-F.Quoted text) becomes h = absurd h
  option_terms (Form-F.List parts) becomes h = absurd h

  name_terms : (choice : Choice) (f : Form) → IsDrawn relations choice → is_name f ≡ true → (is_row f ≡ true → Sets choice f) → Each IsTerm (becomes_by choice f)
  name_terms choice f drawn name set = go (is_row f) refl (becomes_of relations choice f drawn).cases
    where
      go : (b : Bool) → is_row f ≡ b → ((set_to choice f ≡ None) × (becomes_by choice f ≡ f ∷ [])) ⊎ Has (options relations f) (becomes_by choice f) → Each IsTerm (becomes_by choice f)
      go true e by_cases = option_terms (out-Form f) (becomes_by choice f) (chosen_of relations choice f drawn (set e))
      go false e (inl unset) = subst (Each IsTerm) (sym unset.1) (variable_is_term f (row_or_variable (out-Form f) name e), tt)
      go false e (inr has) = option_terms (out-Form f) (becomes_by choice f) has

  head_becomes : (choice : Choice) (head : Form) → IsDrawn relations choice → is_variable head ≡ true → Sets choice head → IsHeaded (becomes_by choice head)
  head_becomes choice head drawn variable set =
      variable_option (out-Form head) (becomes_by choice head) (ap is_variable (roll-out-Form head) ∙ variable) (chosen_of relations choice head drawn set)

  -- ---- forms of which nothing is wrong, and whose predicate variables and row variables are set

  record IsGiven (choice : Choice) (f : Form) : Type 0 where
    pub shaped : Shaped f
    pub answerless : Answerless f
    pub fit : (parts : List Form) → Has (compounds f) parts → fits parts ≡ true
    pub applied : (parts : List Form) → Has (compounds f) parts → HeadOf (Sets choice) parts
    pub rows : (name : Form) → Has (free f) name → is_row name ≡ true → Sets choice name

  -- in argument place it becomes terms, in sentence place a sentence
  record Stands (choice : Choice) (f : Form) : Type 0 where
    pub argument : may_be_argument f ≡ true → Each IsTerm (spliced_part choice f)
    pub sentence : may_be_sentence f ≡ true → IsSentence (replaced f choice)

  abbrev StandsGiven : Form → Type 0
  StandsGiven f = (choice : Choice) → IsDrawn relations choice → IsGiven choice f → Stands choice f

  drawn_inside : (parts : List Form) (choice : Choice) → IsDrawn relations choice → IsDrawn relations (inside parts choice)
  drawn_inside parts choice drawn =
      each_filter (λ (setting : Setting). Has (options relations setting.variable) setting.becomes) (λ (setting : Setting). not (list_any (same setting.variable) (bound parts))) choice drawn

  inner_given : (choice : Choice) (parts : List Form) → IsGiven choice (form.List parts) → (f : Form) → Has (operands parts) f → Shaped f → IsGiven (inside parts choice) f
  inner_given choice parts given f at shaped =
      let here = given.fit parts (own_list parts) in
      let stands = operand_part parts f at in
      record {
        shaped = shaped;
        answerless = each_has Answerless parts f (each_of_false (has_word (codes "!answer")) parts (sym (has_word-List (codes "!answer") parts) ∙ given.answerless)) stands;
        fit = λ q h. given.fit q (inner_list parts f q at h);
        applied = λ q h. both_heads (Sets choice) (λ head. is_other (bound parts) head ≡ true) (Sets (inside parts choice)) (λ head set other. sets_without (bound parts) choice head set other) q
            (given.applied q (inner_list parts f q at h)) (head_other parts q here (has_flat compounds (operands parts) f q at h));
        rows = λ name h row.
            let other = row_other parts name here row in
            sets_without (bound parts) choice name (given.rows name (free_part parts f name stands h other) row) other;
      }

  all_given : (choice : Choice) (parts : List Form) → IsGiven choice (form.List parts) → Each Shaped (operands parts) → Each (IsGiven (inside parts choice)) (operands parts)
  all_given choice parts given shaped =
      each_where (IsGiven (inside parts choice)) (operands parts) (λ f at. inner_given choice parts given f at (each_has Shaped (operands parts) f shaped at))

  -- ---- the parts of a list

  terms : (choice : Choice) (fs : List Form) → IsDrawn relations choice → Each StandsGiven fs → Each (IsGiven choice) fs → list_all may_be_argument fs ≡ true → Each IsTerm (flat_map (spliced_part choice) fs)
  terms choice [] drawn each given h = tt
  terms choice (f ∷ fs) drawn each given h =
      let hs = both (may_be_argument f) (list_all may_be_argument fs) h in
      each_append IsTerm (spliced_part choice f) (flat_map (spliced_part choice) fs) ((each.0 choice drawn given.0).argument hs.0) (terms choice fs drawn each.1 given.1 hs.1)

  sentences : (choice : Choice) (fs : List Form) → IsDrawn relations choice → Each StandsGiven fs → Each (IsGiven choice) fs → list_all may_be_sentence fs ≡ true → Each IsSentence (map (λ f. replaced f choice) fs)
  sentences choice [] drawn each given h = tt
  sentences choice (f ∷ fs) drawn each given h =
      let hs = both (may_be_sentence f) (list_all may_be_sentence fs) h in
      ((each.0 choice drawn given.0).sentence hs.0, sentences choice fs drawn each.1 given.1 hs.1)

  -- ---- lists

  abbrev AtList : List Form → Type 0
  AtList parts = (choice : Choice) → IsDrawn relations choice → IsGiven choice (form.List parts) → Stands choice (form.List parts)

  at_head : (word : Bytes) → IsHead word → (head : Form) (arguments : List Form) (choice : Choice) → spliced_part (inside (head ∷ arguments) choice) head ≡ form.Word word ∷ []
      → Each IsTerm (flat_map (spliced_part (inside (head ∷ arguments) choice)) arguments) → Stands choice (form.List (head ∷ arguments))
  at_head word is_head head arguments choice spliced all =
      let after = flat_map (spliced_part (inside (head ∷ arguments) choice)) arguments in
      let e : replaced (form.List (head ∷ arguments)) choice ≡ form.List (form.Word word ∷ after) = replaced_list (head ∷ arguments) choice ∙ ap (λ fs. form.List (fs ++ after)) spliced in
      record {
        argument = λ h. subst (Each IsTerm) (sym (leaf_spliced choice (form.List (head ∷ arguments)) (ap is_name_layer (form.outs-List (head ∷ arguments)))))
            (subst IsTerm (sym e) (list_term word after all), tt);
        sentence = λ h. ap is_sentence e ∙ atom_sentence word after (plain_word word is_head.logical).named is_head.plain all;
      }

  -- the arguments of a head that is neither a logical word nor a quantifier
  plain_terms : (head : Form) (arguments : List Form) → is_logical (head ∷ arguments) ≡ false → is_quantifier head ≡ false → Each StandsGiven arguments → (choice : Choice) → IsDrawn relations choice
      → IsGiven choice (form.List (head ∷ arguments)) → Each IsTerm (flat_map (spliced_part (inside (head ∷ arguments) choice)) arguments)
  plain_terms head arguments logical plain each choice drawn given =
      let parts = head ∷ arguments in
      let alike : operands parts ≡ arguments = ap (λ b. without_first (b && binds arguments) arguments) plain in
      let shaped = shaped_parts parts (subst (Each Faultless) (tested_plain head arguments plain) (faultless_list parts given.shaped).each) in
      let own : list_all may_be_argument (operands parts) ≡ true =
      sym (ap (λ b. if b then list_all may_be_sentence (operands parts) else list_all may_be_argument (operands parts)) logical) ∙ own_fit parts (given.fit parts (own_list parts)) in
      terms (inside parts choice) arguments (drawn_inside parts choice drawn) each
      (subst (Each (IsGiven (inside parts choice))) alike (all_given choice parts given (subst (Each Shaped) (sym alike) shaped.1)))
      (subst (λ fs. list_all may_be_argument fs ≡ true) alike own)

  at_variable : (head : Form) (arguments : List Form) → is_variable head ≡ true → Each StandsGiven arguments → AtList (head ∷ arguments)
  at_variable head arguments variable each choice drawn given =
      let parts = head ∷ arguments in
      let plain = variable_no_quantifier head variable in
      let set = sets_without (bound parts) choice head (given.applied parts (own_list parts) variable) (ap (λ names. is_other names head) (plain_bound head arguments plain)) in
      let becomes = head_becomes (inside parts choice) head (drawn_inside parts choice drawn) variable set in
      at_head becomes.word becomes.head head arguments choice (name_spliced (inside parts choice) head (variable_name (out-Form head) variable) ∙ becomes.is)
      (plain_terms head arguments (variable_passes (is_among logical_words) (out-Form head) variable) plain each choice drawn given)

  abbrev AtWord : Bytes → Type 0
  AtWord word = (arguments : List Form) → Each StandsGiven arguments → AtList (form.Word word ∷ arguments)

  at_plain : (word : Bytes) → IsPlain word → AtWord word
  at_plain word plain arguments each choice drawn given =
      let head = form.Word word in
      let answerless = (each_of_false (has_word (codes "!answer")) (head ∷ arguments) (sym (has_word-List (codes "!answer") (head ∷ arguments)) ∙ given.answerless)).0 in
      at_head word (record { logical = plain.logical; plain = sym (has_word-Word (codes "!answer") word) ∙ answerless }) head arguments choice (word_spliced (inside (head ∷ arguments) choice) word)
      (plain_terms head arguments (logical-Word word arguments ∙ plain.logical) (quantifier-Word word ∙ plain.quantifies) each choice drawn given)

  -- a logical word stands in sentence place alone
  at_logical : (word : Bytes) (c : Connective) (arguments : List Form) (choice : Choice) → connective_named word ≡ Some c → is_function_word word ≡ false
      → are_connected c (sentences_beside (flat_map (spliced_part (inside (form.Word word ∷ arguments) choice)) arguments)) ≡ true → Stands choice (form.List (form.Word word ∷ arguments))
  at_logical word c arguments choice named plain connected =
      let after = flat_map (spliced_part (inside (form.Word word ∷ arguments) choice)) arguments in
      record {
        argument = λ h. absurd (false_true (sym (ap not (formula-Word word arguments ∙ ap not plain)) ∙ h));
        sentence = λ h. ap is_sentence (replaced_list (form.Word word ∷ arguments) choice ∙ ap (λ fs. form.List (fs ++ after)) (word_spliced (inside (form.Word word ∷ arguments) choice) word))
            ∙ connects word c after named connected;
      }

  operand_sentences : (word : Bytes) (arguments : List Form) (choice : Choice) → is_among logical_words word ≡ true → IsGiven choice (form.List (form.Word word ∷ arguments))
      → list_all may_be_sentence (operands (form.Word word ∷ arguments)) ≡ true
  operand_sentences word arguments choice logical given =
      let parts = form.Word word ∷ arguments in
      sym (ap (λ b. if b then list_all may_be_sentence (operands parts) else list_all may_be_argument (operands parts)) (logical-Word word arguments ∙ logical)) ∙ own_fit parts (given.fit parts (own_list parts))

  -- the arguments of a connective
  record AreSentences (word : Bytes) (arguments : List Form) (choice : Choice) : Type 0 where
    pub after : List Form
    pub spliced : flat_map (spliced_part (inside (form.Word word ∷ arguments) choice)) arguments ≡ after
    pub sentences : are_sentences (sentences_beside after) ≡ true
    pub count : length after ≡ length arguments
    pub taken : takes word arguments ≡ true

  connected_sentences : (word : Bytes) (arguments : List Form) → is_among logical_words word ≡ true → is_among quantifiers word ≡ false → Each StandsGiven arguments → (choice : Choice) → IsDrawn relations choice
      → IsGiven choice (form.List (form.Word word ∷ arguments)) → AreSentences word arguments choice
  connected_sentences word arguments logical plain each choice drawn given =
      let parts = form.Word word ∷ arguments in
      let alike = operands_plain word arguments plain in
      let faultless = faultless_list parts given.shaped in
      let shaped = shaped_parts parts (subst (Each Faultless) (tested_plain (form.Word word) arguments (quantifier-Word word ∙ plain)) faultless.each) in
      let own = subst (λ fs. list_all may_be_sentence fs ≡ true) alike (operand_sentences word arguments choice logical given) in
      let after = map (λ f. replaced f (inside parts choice)) arguments in
      record {
        after = after;
        spliced = sentences_spliced (inside parts choice) arguments own;
        sentences = all_sentences after (sentences (inside parts choice) arguments (drawn_inside parts choice drawn) each
            (subst (Each (IsGiven (inside parts choice))) alike (all_given choice parts given (subst (Each Shaped) (sym alike) shaped.1))) own);
        count = length-map arguments (λ f. replaced f (inside parts choice));
        taken = takes_arguments word arguments faultless.well;
      }

  at_connective : (word : Bytes) (c : Connective) → connective_named word ≡ Some c → is_function_word word ≡ false → is_among logical_words word ≡ true → is_among quantifiers word ≡ false
      → ((arguments after : List Form) → length after ≡ length arguments → takes word arguments ≡ true → are_sentences (sentences_beside after) ≡ true → are_connected c (sentences_beside after) ≡ true) → AtWord word
  at_connective word c named plain logical unbound connect arguments each choice drawn given =
      let all = connected_sentences word arguments logical unbound each choice drawn given in
      at_logical word c arguments choice named plain (ap (λ fs. are_connected c (sentences_beside fs)) all.spliced ∙ connect arguments all.after all.count all.taken all.sentences)

  -- the body of a quantifier
  at_quantifier : (word : Bytes) (c : Connective) → connective_named word ≡ Some c → is_function_word word ≡ false → is_among logical_words word ≡ true → is_among quantifiers word ≡ true
      → ((arguments : List Form) → takes word arguments ≡ true → binds arguments ≡ true) → ((names body : Form) → IsSentence body → are_connected c (sentences_beside (names ∷ body ∷ [])) ≡ true) → AtWord word
  at_quantifier word c named plain logical quantifies taking connect arguments each choice drawn given =
      go arguments each given (taking arguments (takes_arguments word arguments (faultless_list (form.Word word ∷ arguments) given.shaped).well))
    where
      go : (fs : List Form) → Each StandsGiven fs → IsGiven choice (form.List (form.Word word ∷ fs)) → binds fs ≡ true → Stands choice (form.List (form.Word word ∷ fs))
      go [] all given listed = absurd (false_true listed)
      go (names ∷ []) all given listed = absurd (false_true listed)
      go (names ∷ body ∷ []) all given listed =
          let parts = form.Word word ∷ names ∷ body ∷ [] in
          let within = inside parts choice in
          let alike = operands_bound word names body quantifies listed in
          let kept : Each Faultless (as_part (form.Word word) ∷ as_names names ∷ as_part body ∷ []) =
          subst (λ (b : Bool). Each Faultless (as_part (form.Word word) ∷ (if b then as_names names ∷ as_part body ∷ [] else as_part names ∷ as_part body ∷ []))) (quantifier-Word word ∙ quantifies) (faultless_list parts given.shaped).each in
          let own = subst (λ gs. list_all may_be_sentence gs ≡ true) alike (operand_sentences word (names ∷ body ∷ []) choice logical given) in
          let inner = (all_given choice parts given (subst (Each Shaped) (sym alike) (kept.1.1.0, tt))) in
          let sentence = (sentences within (body ∷ []) (drawn_inside parts choice drawn) all.1 (subst (Each (IsGiven within)) alike inner) own).0 in
          at_logical word c (names ∷ body ∷ []) choice named plain
          (ap (λ fs. are_connected c (sentences_beside fs)) (ap₂ ◌++◌ (leaf_spliced within names (names_no_name (out-Form names) listed)) (sentences_spliced within (body ∷ []) own))
          ∙ connect (replaced names within) (replaced body within) sentence)
      go (names ∷ body ∷ more ∷ fs) all given listed = absurd (false_true listed)

  at_word : (word : Bytes) → AtWord word
  at_word = by_word AtWord (record {
    negation = at_connective (codes "not") Not refl refl refl refl (λ arguments after count taken h. one_argument after (ap (λ n. nat_eq n 1) count ∙ taken) h);
    conjunction = at_connective (codes "and") And refl refl refl refl (λ arguments after count taken h. some_arguments_and after (ap (λ n. not (nat_eq n 0)) count ∙ taken) h);
    disjunction = at_connective (codes "or") Or refl refl refl refl (λ arguments after count taken h. some_arguments_or after (ap (λ n. not (nat_eq n 0)) count ∙ taken) h);
    implication = at_connective (codes "=>") Implies refl refl refl refl (λ arguments after count taken h. (two_arguments after (ap (λ n. nat_eq n 2) count ∙ taken) h).0);
    equivalence = at_connective (codes "<=>") Equivalent refl refl refl refl (λ arguments after count taken h. (two_arguments after (ap (λ n. nat_eq n 2) count ∙ taken) h).1);
    universal = at_quantifier (codes "forall") ForAll refl refl refl refl (λ arguments taken. taken) (λ names body h. h);
    existential = at_quantifier (codes "exists") Exists refl refl refl refl (λ arguments taken. taken) (λ names body h. h);
    plain = at_plain;
  })

  list_stands : (parts : List Form) → Each StandsGiven parts → AtList parts
  list_stands [] each choice drawn given = absurd (false_true (sym (faultless_list [] given.shaped).well))
  list_stands (head ∷ arguments) each choice drawn given = go (head_kind (out-Form head) arguments (faultless_list (head ∷ arguments) given.shaped).well)
    where
      go : ((text : Bytes) × (roll-Form (out-Form head) ≡ form.Word text)) ⊎ (is_variable head ≡ true) → Stands choice (form.List (head ∷ arguments))
      go (inl (text, is)) =
          let e : head ≡ form.Word text = sym (roll-out-Form head) ∙ is in
          subst (λ (f : Form). Stands choice (form.List (f ∷ arguments))) (sym e) (at_word text arguments each.1 choice drawn (subst (λ (f : Form). IsGiven choice (form.List (f ∷ arguments))) e given))
      go (inr variable) = at_variable head arguments variable each.1 choice drawn given

  leaf_stands : (f : Form) → is_list f ≡ false → is_name f ≡ false → IsTerm f → StandsGiven f
  leaf_stands f leaf other term choice drawn given = record {
    argument = λ h. subst (Each IsTerm) (sym (leaf_spliced choice f other ∙ ap (λ g. g ∷ []) (replaced_other f choice (no_list f leaf)))) (term, tt);
    sentence = λ h. no_sentence f leaf h;
  }

  name_stands : (f : Form) → is_list f ≡ false → is_name f ≡ true → (is_row f ≡ true → Has (free f) f) → StandsGiven f
  name_stands f leaf name itself choice drawn given = record {
    argument = λ h. subst (Each IsTerm) (sym (name_spliced choice f name)) (name_terms choice f drawn name (λ row. given.rows f (itself row) row));
    sentence = λ h. no_sentence f leaf h;
  }

  stands : (f : Form) → StandsGiven f
  stands = induction StandsGiven (record {
    word = λ text. let leaf = ap is_list_layer (form.outs-Word text) in leaf_stands (form.Word text) leaf (ap is_name_layer (form.outs-Word text)) (word_term text);
    variable = λ text. name_stands (form.Variable text) (ap is_list_layer (form.outs-Variable text)) (ap is_name_layer (form.outs-Variable text)) (λ row. absurd (false_true (sym (ap is_row_layer (form.outs-Variable text)) ∙ row)));
    row = λ text. name_stands (form.Row text) (ap is_list_layer (form.outs-Row text)) (ap is_name_layer (form.outs-Row text)) (λ row. subst (λ names. Has names (form.Row text)) (sym (free-Row text)) (inl refl));
    numeral = λ text. let leaf = ap is_list_layer (form.outs-Numeral text) in leaf_stands (form.Numeral text) leaf (ap is_name_layer (form.outs-Numeral text)) (leaf_term (form.Numeral text) leaf (clean-Numeral true text));
    quoted = λ text. let leaf = ap is_list_layer (form.outs-Quoted text) in leaf_stands (form.Quoted text) leaf (ap is_name_layer (form.outs-Quoted text)) (leaf_term (form.Quoted text) leaf (clean-Quoted true text));
    list = list_stands;
  })

  -- ---- a form at the top of a text

  pub replaced_sentence : (f : Form) → is_shaped f ≡ true → is_in_profile f ≡ true → (choice : Choice) → Has (choices relations (chosen_for f)) choice → is_sentence (replaced f choice) ≡ true
  replaced_sentence f shaped profiled choice h =
      let hs = both (is_none (first_form_fault f)) (not (has_word (codes "!answer") f)) shaped in
      let ps = both (may_be_sentence f) (list_all fits (compounds f)) (sym (by_lists f) ∙ profiled) in
      let listed = (both (is_list f) (not (is_function_list f)) ps.0).0 in
      let faults : form_faults f ≡ shape_faults f = ap (λ b. if b then shape_faults f else 0 ∷ []) listed in
      let is_for = each_has (IsFor relations (chosen_for f)) (choices relations (chosen_for f)) choice (choices_for relations (chosen_for f)) h in
      let all_fit = each_of_true fits (compounds f) ps.1 in
      (stands f choice is_for.drawn (record {
        shaped = sym faults ∙ none_first (form_faults f) hs.0;
        answerless = negated (has_word (codes "!answer") f) hs.1;
        fit = λ parts k. each_has (λ parts. fits parts ≡ true) (compounds f) parts all_fit k;
        applied = λ parts k. all_heads parts k is_for.covers (free_heads f (λ q j. each_has (λ parts. fits parts ≡ true) (compounds f) q all_fit j) parts k);
        rows = λ name k row. subst (λ names. Has names name) (sym is_for.covers) (has_right (predicate_variables f) (row_variables f) name (has_filter is_row (free_names f) name (once_has (free f) name k) row));
      })).sentence ps.0
    where
      all_heads : (parts : List Form) → Has (compounds f) parts → map variable_of choice ≡ chosen_for f → HeadOf (Has (free f)) parts → HeadOf (Sets choice) parts
      all_heads [] k covers heads_free = tt
      all_heads (head ∷ arguments) k covers heads_free = λ variable.
          subst (λ names. Has names head) (sym covers)
          (has_left (predicate_variables f) (row_variables f) head
          (has_filter (λ name. is_variable name && heads_a_list f name) (free_names f) head (once_has (free f) head (heads_free variable))
          (ap₂ ◌&&◌ variable (has_any (begins_with head) (compounds f) (head ∷ arguments) k (itself head)))))

-- where nothing is to be chosen, as it is
pub plain_sentence : (f : Form) → is_shaped f ≡ true → is_in_profile f ≡ true → chosen_for f ≡ [] → is_sentence f ≡ true
plain_sentence f shaped profiled none =
    sym (ap is_sentence (replaced_nothing f)) ∙ replaced_sentence [] (λ word h. absurd h) f shaped profiled [] (subst (λ names. Has (choices [] names) []) (sym none) (inl refl))
