-- Atoms and terms, and what filling in terms leaves of them.
use Rattle.std.proofs.Common.{◌≡◌, List, [], ◌∷◌, map, Bool, true, false, not, ◌&&◌, codes, refl, sym, ap, ap₂, ◌∙◌, subst}
use Rattle.std.specs.List.{list_all}
use Rattle.std.specs.Str.{bytes_eq}
use Rattle.sigma_base.specs.Lists.{Each, each_map}
use Rattle.kif_tree.specs.declared.form.Form.{Form, out-Form, roll-Form, roll-out-Form}
use Rattle.kif_tree.specs.declared.form.Form.TheVariants as form
use Rattle.kif_tree.specs.declared.form.Form.TheOpen.{Form-F}
use Rattle.kif_tree.specs.Terms.{Bytes, has_no_row}
use Rattle.kif_tree.specs.FormLaws.{induction}
use Rattle.kif_tree.specs.Shape.{is_list, is_list_layer}
use Rattle.kif_tree.specs.Subst.{Filling, bind}
use Rattle.kif_tree.specs.Clauses.{is_answer, is_word, heads_layer, is_headed}
use Rattle.kif_tree.proofs.TermLaws.{clean-parts, clean-Word, clean-Variable}
use Rattle.kif_tree.proofs.SubstLaws.{bind-Word, bind-Variable, bind-Row, bind-Numeral, bind-Quoted, bind-List, clean-bind}
use Rattle.calculus.specs.Proper.{has_word_heads, is_word_layer}
use Rattle.calculus.proofs.TruthLaws.{both, false_true, negated}
use Rattle.calculus_programs.specs.Shape.{is_any_word, begins_with_any_word}
use Rattle.calculus_programs.proofs.ShapeLaws.{is_word-Word, heads-List, heads_other}
use Rattle.clause_form.specs.Sentences.{is_atom}
use Rattle.clause_form.specs.SentenceLaws.{IsTerm}

-- ---- tests of all elements

pub each_of_true : {X : Type 0} (p : X → Bool) (xs : List X) → list_all p xs ≡ true → Each (λ x. p x ≡ true) xs
each_of_true p [] h = tt
each_of_true p (x ∷ xs) h = let hs = both (p x) (list_all p xs) h in (hs.0, each_of_true p xs hs.1)

pub true_of_each : {X : Type 0} (p : X → Bool) (xs : List X) → Each (λ x. p x ≡ true) xs → list_all p xs ≡ true
true_of_each p [] h = refl
true_of_each p (x ∷ xs) h = ap₂ ◌&&◌ h.0 (true_of_each p xs h.1)

-- ---- lists and words

pub record IsListOf (f : Form) : Type 0 where
  pub parts : List Form
  pub is : f ≡ form.List parts

list_in : (layer : Form-F Form) → is_list_layer layer ≡ true → IsListOf (roll-Form layer)
list_in (Form-F.Word text) h = absurd (false_true h)
list_in (Form-F.Variable text) h = absurd (false_true h)
list_in (Form-F.Row text) h = absurd (false_true h)
list_in (Form-F.Numeral text) h = absurd (false_true h)
list_in (Form-F.Quoted text) h = absurd (false_true h)
list_in (Form-F.List parts) h = record { parts = parts; is = form.rolls-List parts }

pub list_of : (f : Form) → is_list f ≡ true → IsListOf f
list_of f h = subst IsListOf (roll-out-Form f) (list_in (out-Form f) h)

pub is_list-List : (parts : List Form) → is_list (form.List parts) ≡ true
is_list-List parts = ap is_list_layer (form.outs-List parts)

pub record IsWordOf (f : Form) : Type 0 where
  pub text : Bytes
  pub is : f ≡ form.Word text

word_in : (layer : Form-F Form) → is_word_layer layer ≡ true → IsWordOf (roll-Form layer)
word_in (Form-F.Word text) h = record { text = text; is = form.rolls-Word text }
word_in (Form-F.Variable text) h = absurd (false_true h)
word_in (Form-F.Row text) h = absurd (false_true h)
word_in (Form-F.Numeral text) h = absurd (false_true h)
word_in (Form-F.Quoted text) h = absurd (false_true h)
word_in (Form-F.List parts) h = absurd (false_true h)

pub word_of : (f : Form) → is_word_layer (out-Form f) ≡ true → IsWordOf f
word_of f h = subst IsWordOf (roll-out-Form f) (word_in (out-Form f) h)

-- the answer word at the head
pub answer-List : (word : Bytes) (arguments : List Form) → is_answer (form.List (form.Word word ∷ arguments)) ≡ bytes_eq (codes "!answer") word
unfolding is_headed
answer-List word arguments =
    ap (heads_layer (codes "!answer")) (form.outs-List (form.Word word ∷ arguments)) ∙ ap (is_word (codes "!answer")) (form.outs-Word word)

-- ---- terms

pub variable_term : (text : Bytes) → IsTerm (form.Variable text)
variable_term text = record { headed = heads_other (form.Variable text) (λ parts e. let k : Form-F.Variable text ≡ Form-F.List parts = sym (form.outs-Variable text) ∙ ap out-Form e ∙ form.outs-List parts in absurd (cc)); rowless = clean-Variable true text }

pub word_term : (text : Bytes) → IsTerm (form.Word text)
word_term text = record { headed = heads_other (form.Word text) (λ parts e. let k : Form-F.Word text ≡ Form-F.List parts = sym (form.outs-Word text) ∙ ap out-Form e ∙ form.outs-List parts in absurd (cc)); rowless = clean-Word true text }

-- a list headed by a word is a term where its arguments are
pub list_term : (word : Bytes) (arguments : List Form) → Each IsTerm arguments → IsTerm (form.List (form.Word word ∷ arguments))
list_term word arguments each =
    let head = word_term word in
    record {
      headed = heads-List (form.Word word ∷ arguments)
          ∙ ap₂ ◌&&◌ (is_word-Word word) (ap₂ ◌&&◌ head.headed (true_of_each has_word_heads arguments (each_map IsTerm (λ x. has_word_heads x ≡ true) (λ x t. t.headed) arguments each)));
      rowless = clean-parts true (form.Word word ∷ arguments)
          ∙ ap₂ ◌&&◌ head.rowless (true_of_each has_no_row arguments (each_map IsTerm (λ x. has_no_row x ≡ true) (λ x t. t.rowless) arguments each));
    }

each_term : (parts : List Form) → Each (λ x. has_word_heads x ≡ true) parts → Each (λ x. has_no_row x ≡ true) parts → Each IsTerm parts
each_term [] h k = tt
each_term (x ∷ parts) h k = (record { headed = h.0; rowless = k.0 }, each_term parts h.1 k.1)

-- ---- atoms

-- a list of a word and terms
pub record Applied (f : Form) : Type 0 where
  pub word : Bytes
  pub arguments : List Form
  pub is : f ≡ form.List (form.Word word ∷ arguments)
  pub terms : Each IsTerm arguments

applied_parts : (parts : List Form) → begins_with_any_word parts ≡ true → list_all has_word_heads parts ≡ true → list_all has_no_row parts ≡ true → Applied (form.List parts)
applied_parts [] begins heads rows = absurd (false_true begins)
applied_parts (head ∷ arguments) begins heads rows =
    let word = word_of head begins in
    let hs = both (has_word_heads head) (list_all has_word_heads arguments) heads in
    let rs = both (has_no_row head) (list_all has_no_row arguments) rows in
    record {
      word = word.text;
      arguments = arguments;
      is = ap (λ x. form.List (x ∷ arguments)) word.is;
      terms = each_term arguments (each_of_true has_word_heads arguments hs.1) (each_of_true has_no_row arguments rs.1);
    }

-- a list that is a term
pub applied : (parts : List Form) → IsTerm (form.List parts) → Applied (form.List parts)
applied parts term =
    let hs = both (begins_with_any_word parts) (list_all has_word_heads parts) (sym (heads-List parts) ∙ term.headed) in
    applied_parts parts hs.0 hs.1 (sym (clean-parts true parts) ∙ term.rowless)

pub record Atom (f : Form) : Type 0 where
  pub word : Bytes
  pub arguments : List Form
  pub is : f ≡ form.List (form.Word word ∷ arguments)
  pub terms : Each IsTerm arguments
  pub plain : bytes_eq (codes "!answer") word ≡ false

pub atom_of : (f : Form) → is_atom f ≡ true → Atom f
atom_of f h =
    let h0 = both (is_list f) (has_word_heads f && (has_no_row f && not (is_answer f))) h in
    let h1 = both (has_word_heads f) (has_no_row f && not (is_answer f)) h0.1 in
    let h2 = both (has_no_row f) (not (is_answer f)) h1.1 in
    let l = list_of f h0.0 in
    let a = applied l.parts (subst IsTerm l.is (record { headed = h1.0; rowless = h2.0 })) in
    record {
      word = a.word;
      arguments = a.arguments;
      is = l.is ∙ a.is;
      terms = a.terms;
      plain = sym (ap is_answer (l.is ∙ a.is) ∙ answer-List a.word a.arguments) ∙ negated (is_answer f) h2.1;
    }

pub atom_from : (word : Bytes) (arguments : List Form) → Each IsTerm arguments → bytes_eq (codes "!answer") word ≡ false → is_atom (form.List (form.Word word ∷ arguments)) ≡ true
atom_from word arguments terms plain =
    let term = list_term word arguments terms in
    ap₂ ◌&&◌ (is_list-List (form.Word word ∷ arguments)) (ap₂ ◌&&◌ term.headed (ap₂ ◌&&◌ term.rowless (ap not (answer-List word arguments ∙ plain))))

-- ---- filling in terms

heads_parts : (g : Filling) (parts : List Form) → Each (λ x. has_word_heads x ≡ true → has_word_heads (bind g x) ≡ true) parts → list_all has_word_heads parts ≡ true
    → list_all has_word_heads (map (bind g) parts) ≡ true
heads_parts g [] each h = refl
heads_parts g (x ∷ parts) each h = let hs = both (has_word_heads x) (list_all has_word_heads parts) h in ap₂ ◌&&◌ (each.0 hs.0) (heads_parts g parts each.1 hs.1)

begins_bound : (g : Filling) (parts : List Form) → begins_with_any_word parts ≡ true → begins_with_any_word (map (bind g) parts) ≡ true
begins_bound g [] h = h
begins_bound g (head ∷ parts) h = let word = word_of head h in ap is_any_word (ap (bind g) word.is ∙ bind-Word g word.text) ∙ is_word-Word word.text

leaf_heads : (g : Filling) (f : Form) → bind g f ≡ f → has_word_heads f ≡ true → has_word_heads (bind g f) ≡ true
leaf_heads g f e h = ap has_word_heads e ∙ h

heads-bind : (g : Filling) → ((name : Bytes) → IsTerm (g name)) → (f : Form) → has_word_heads f ≡ true → has_word_heads (bind g f) ≡ true
heads-bind g fills = induction (λ f. has_word_heads f ≡ true → has_word_heads (bind g f) ≡ true) (record {
  word = λ text h. leaf_heads g (form.Word text) (bind-Word g text) h;
  variable = λ text h. ap has_word_heads (bind-Variable g text) ∙ (fills text).headed;
  row = λ text h. leaf_heads g (form.Row text) (bind-Row g text) h;
  numeral = λ text h. leaf_heads g (form.Numeral text) (bind-Numeral g text) h;
  quoted = λ text h. leaf_heads g (form.Quoted text) (bind-Quoted g text) h;
  list = λ parts each h.
      let hs = both (begins_with_any_word parts) (list_all has_word_heads parts) (sym (heads-List parts) ∙ h) in
      ap has_word_heads (bind-List g parts) ∙ heads-List (map (bind g) parts) ∙ ap₂ ◌&&◌ (begins_bound g parts hs.0) (heads_parts g parts each hs.1);
})

pub term-bind : (g : Filling) → ((name : Bytes) → IsTerm (g name)) → (f : Form) → IsTerm f → IsTerm (bind g f)
term-bind g fills f term = record { headed = heads-bind g fills f term.headed; rowless = clean-bind true g (λ name. (fills name).rowless) f term.rowless }

pub terms-bind : (g : Filling) → ((name : Bytes) → IsTerm (g name)) → (fs : List Form) → Each IsTerm fs → Each IsTerm (map (bind g) fs)
terms-bind g fills [] each = tt
terms-bind g fills (f ∷ fs) each = (term-bind g fills f each.0, terms-bind g fills fs each.1)

-- the head stays, and the arguments are filled in
pub bind-applied : (g : Filling) (word : Bytes) (arguments : List Form) → bind g (form.List (form.Word word ∷ arguments)) ≡ form.List (form.Word word ∷ map (bind g) arguments)
bind-applied g word arguments = bind-List g (form.Word word ∷ arguments) ∙ ap (λ x. form.List (x ∷ map (bind g) arguments)) (bind-Word g word)

pub atom-bind : (g : Filling) → ((name : Bytes) → IsTerm (g name)) → (f : Form) → is_atom f ≡ true → is_atom (bind g f) ≡ true
atom-bind g fills f h =
    let a = atom_of f h in
    ap is_atom (ap (bind g) a.is ∙ bind-applied g a.word a.arguments) ∙ atom_from a.word (map (bind g) a.arguments) (terms-bind g fills a.arguments a.terms) a.plain
