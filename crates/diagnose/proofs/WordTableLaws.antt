-- Documented words, and relation names without a stated arity.
use Rattle.std.proofs.Common.{◌≡◌, ℕ, ◌+◌, ◌<◌, ◌≤◌, ◌||◌, ◌&&◌, List, [], ◌∷◌, length, get_or, take, Bool, true, false, not, refl, sym, ap, ap₂, subst, ◌∙◌, arith}
use Rattle.std.specs.Prelude.{Option, Some, None, MatchOption, codes, is_none, is_some}
use Rattle.std.specs.Borrow.{Bor}
use Rattle.std.specs.List.{list_any}
use Rattle.std.specs.Str.{bytes_eq}
use Rattle.std.proofs.lemmas.List.{take_all}
use Rattle.std.proofs.lemmas.List.Folds.{list_any_more}
use Rattle.std.proofs.Math.Bool.{and-false, or-false, or-true}
use Rattle.std.proofs.lemmas.Slice.Eq.{bytes_eq-Decides}
use Rattle.kif_tree.specs.Clauses.{is_word, is_headed, heads_layer}
use Rattle.kif_tree.specs.FormLaws.{induction}
use Rattle.kif_tree.specs.Names.{parts_in, parts_layer}
use Rattle.kif_tree.specs.Shape.{is_among, logical_words}
use Rattle.kif_tree.specs.Terms.{Bytes}
use Rattle.kif_tree.specs.declared.form.Form.{Form, out-Form}
use Rattle.kif_tree.specs.declared.form.Form.TheOpen.{Form-F}
use Rattle.kif_tree.specs.declared.form.Form.TheVariants as form
use Rattle.kif_tree.specs.declared.place.Located.{Located}
use Rattle.taxonomy.specs.Told.{word_text, word_layer}
use Rattle.signatures.specs.Arities.{built_in, IsArity}
use Rattle.signatures.specs.Tables.{AreSignatures, arity_in, relations_in}
use Rattle.signatures.specs.declared.signatures.Signatures.{Signatures}
use Rattle.signatures.specs.declared.told.Arity.{Arity}
use Rattle.signatures.specs.declared.told.Arity.TheVariants.{Exactly, Any, Unstated}
use Rattle.signatures.proofs.NameLaws.{arity_one, contains_among, among_contains}
use Rattle.diagnose.specs.WordFaults.{second_text, second_word, is_plain, is_unstated, AreUnstated}
use Rattle.diagnose.specs.Words.{documents_in, documents}
use Rattle.diagnose.proofs.NewWordLaws.{both, join}
use Rattle.diagnose.specs.WordTables.{AreWords, IsDocumented, IsUnstated}

-- ---- the second part of a list

pub text_of_word : (f : Form) (text : Bytes) → f ≡ form.Word text → word_text f ≡ Some text
unfolding word_text
text_of_word f text is = ap (λ (g : Form). word_layer (out-Form g)) is ∙ ap word_layer (form.outs-Word text)

pub text_of_other : (f : Form) → ((text : Bytes) → f ≡ form.Word text → ⊥) → word_text f ≡ None
unfolding word_text
text_of_other = induction (λ f. ((text : Bytes) → f ≡ form.Word text → ⊥) → word_text f ≡ None) (record {
  word = λ text no. absurd (no text refl);
  variable = λ text no. ap word_layer (form.outs-Variable text);
  row = λ text no. ap word_layer (form.outs-Row text);
  numeral = λ text no. ap word_layer (form.outs-Numeral text);
  quoted = λ text no. ap word_layer (form.outs-Quoted text);
  list = λ parts each no. ap word_layer (form.outs-List parts);
})

pub parts_of_list : (f : Form) (parts : List Form) → f ≡ form.List parts → parts_in f ≡ parts
parts_of_list f parts is = ap (λ (g : Form). parts_layer (out-Form g)) is ∙ ap parts_layer (form.outs-List parts)

second_at : (items : List Form) (second : Form) → 2 ≤ length items → second ≡ get_or items 1 second → second_text items ≡ word_text second
second_at [] second long is = absurd (omega (arith, long))
second_at (x ∷ []) second long is = absurd (omega (arith, long))
second_at (x ∷ y ∷ items) second long is = ap word_text (sym is)

pub second_of : (f second : Form) (parts items : List Form) (o : Option Bytes) → f ≡ form.List parts → items ≡ parts → 2 ≤ length items → second ≡ get_or items 1 second → word_text second ≡ o → second_word f ≡ o
second_of f second parts items o is same long at text = ap second_text (parts_of_list f parts is ∙ sym same) ∙ second_at items second long at ∙ text

-- ---- documented words

abbrev head : Bytes
head = codes "documentation"

pub documents_none : (f : Form) (b : Bool) → b ≡ is_headed head f → b ≡ false → (word : Bytes) → documents_in word (parts_in f) ≡ false
unfolding is_headed
documents_none f b is fails word = go (out-Form f) (sym is ∙ fails)
  where
    go : (layer : Form-F Form) → heads_layer head layer ≡ false → documents_in word (parts_layer layer) ≡ false
    go (Form-F.Word text) e = refl
    go (Form-F.Variable text) e = refl
    go (Form-F.Row text) e = refl
    go (Form-F.Numeral text) e = refl
    go (Form-F.Quoted text) e = refl
    go (Form-F.List []) e = refl
    go (Form-F.List (p ∷ [])) e = refl
    go (Form-F.List (p ∷ q ∷ parts)) e = ap (λ b. b && is_word word (out-Form q)) e

is_no_word : (word : Bytes) (layer : Form-F Form) → word_layer layer ≡ None → is_word word layer ≡ false
is_no_word word (Form-F.Word text) e = absurd (cc)
is_no_word word (Form-F.Variable text) e = refl
is_no_word word (Form-F.Row text) e = refl
is_no_word word (Form-F.Numeral text) e = refl
is_no_word word (Form-F.Quoted text) e = refl
is_no_word word (Form-F.List parts) e = refl

is_the_word : (word text : Bytes) (layer : Form-F Form) → word_layer layer ≡ Some text → is_word word layer ≡ bytes_eq word text
is_the_word word text (Form-F.Word other) e = let same : other ≡ text = cc in ap (bytes_eq word) same
is_the_word word text (Form-F.Variable other) e = absurd (cc)
is_the_word word text (Form-F.Row other) e = absurd (cc)
is_the_word word text (Form-F.Numeral other) e = absurd (cc)
is_the_word word text (Form-F.Quoted other) e = absurd (cc)
is_the_word word text (Form-F.List parts) e = absurd (cc)

-- what the word that the form documents has to do with its second word
abbrev Documented : Option Bytes → Bytes → Bool
Documented (Some text) word = bytes_eq word text
Documented None word = false

documents_by : (f : Form) (o : Option Bytes) → is_headed head f ≡ true → second_word f ≡ o → (word : Bytes) → documents_in word (parts_in f) ≡ Documented o word
unfolding is_headed word_text
documents_by f o holds second word = go (out-Form f) o holds second
  where
    no_word : {X : Type 0} (text : Bytes) → None ≡ Some text → X
    no_word text e = absurd (cc)

    none : (o : Option Bytes) → None ≡ o → false ≡ Documented o word
    none None e = refl
    none (Some text) e = absurd (cc)

    at_second : (layer : Form-F Form) (o : Option Bytes) → word_layer layer ≡ o → is_word word layer ≡ Documented o word
    at_second layer None e = is_no_word word layer e
    at_second layer (Some text) e = is_the_word word text layer e

    go : (layer : Form-F Form) (o : Option Bytes) → heads_layer head layer ≡ true → second_text (parts_layer layer) ≡ o → documents_in word (parts_layer layer) ≡ Documented o word
    go (Form-F.Word text) o h e = none o e
    go (Form-F.Variable text) o h e = none o e
    go (Form-F.Row text) o h e = none o e
    go (Form-F.Numeral text) o h e = none o e
    go (Form-F.Quoted text) o h e = none o e
    go (Form-F.List []) o h e = none o e
    go (Form-F.List (p ∷ [])) o h e = none o e
    go (Form-F.List (p ∷ q ∷ parts)) o h e = ap (λ b. b && is_word word (out-Form q)) h ∙ at_second (out-Form q) o e

pub documented_by : (located : Located) (b : Bool) (o : Option (Bor Bytes)) → b ≡ is_headed head located.form → b ≡ true → MatchOption o (second_word located.form ≡ None) (λ word. second_word located.form ≡ Some word.now)
    → MatchOption o ((word : Bytes) → documents word located ≡ false) (λ text. (word : Bytes) → documents word located ≡ bytes_eq word text.now)
documented_by located b None is holds h = λ word. documents_by located.form None (sym is ∙ holds) h word
documented_by located b (Some text) is holds h = λ word. documents_by located.form (Some text.now) (sym is ∙ holds) h word

pub documents_skip : (forms : List Located) (i : ℕ) (located : Located) (words : List Bytes) → i < length forms → located ≡ get_or forms i located → ((word : Bytes) → documents word located ≡ false)
    → ((word : Bytes) → is_among words word ≡ list_any (documents word) (take i forms)) → (word : Bytes) → is_among words word ≡ list_any (documents word) (take (i + 1) forms)
documents_skip forms i located words lt is none h = λ word.
    h word ∙ sym (list_any_more (documents word) forms i located lt ∙ ap (λ (l : Located). list_any (documents word) (take i forms) || documents word l) (sym is)
    ∙ ap (λ b. list_any (documents word) (take i forms) || b) (none word) ∙ or-false (list_any (documents word) (take i forms)))

pub documents_more : (forms : List Located) (i : ℕ) (located : Located) (old new : List Bytes) (text word : Bytes) → i < length forms → located ≡ get_or forms i located → ((other : Bytes) → documents other located ≡ bytes_eq other text) → word ≡ text
    → ((other : Bytes) → is_among old other ≡ list_any (documents other) (take i forms)) → ((other : Bytes) → is_among new other ≡ (is_among old other || bytes_eq other word))
    → (other : Bytes) → is_among new other ≡ list_any (documents other) (take (i + 1) forms)
documents_more forms i located old new text word lt is by same h add = λ other.
    add other ∙ ap₂ (λ a b. a || b) (h other) (ap (bytes_eq other) same ∙ sym (by other))
    ∙ sym (list_any_more (documents other) forms i located lt ∙ ap (λ (l : Located). list_any (documents other) (take i forms) || documents other l) (sym is))

pub documents_all : (forms : List Located) (i : ℕ) (words : List Bytes) → length forms ≤ i → ((word : Bytes) → is_among words word ≡ list_any (documents word) (take i forms)) → AreWords (IsDocumented forms) words
documents_all forms i words end h = λ word. (λ a. sym (same word) ∙ a, λ b. same word ∙ b)
  where
    same : (word : Bytes) → is_among words word ≡ list_any (documents word) forms
    same word = h word ∙ ap (list_any (documents word)) (take_all i forms end)

-- ---- relation names without a stated arity

unstated_one : (arity : Arity) → is_unstated arity ≡ true → arity ≡ Unstated
unstated_one (Exactly count) e = absurd (cc)
unstated_one Any e = absurd (cc)
unstated_one Unstated e = refl

one_more : (names : List Bytes) (i : ℕ) (name : Bytes) → i < length names → name ≡ get_or names i name → (word : Bytes) → is_among (take (i + 1) names) word ≡ (is_among (take i names) word || bytes_eq word name)
one_more names i name lt is word = list_any_more (bytes_eq word) names i name lt ∙ ap (λ (n : Bytes). is_among (take i names) word || bytes_eq word n) (sym is)

pub unstated_skip : (test : Bytes → Bool) (names : List Bytes) (i : ℕ) (name text : Bytes) (words : List Bytes) → i < length names → name ≡ get_or names i name → text ≡ name → test text ≡ false
    → ((word : Bytes) → is_among words word ≡ (is_among (take i names) word && test word)) → (word : Bytes) → is_among words word ≡ (is_among (take (i + 1) names) word && test word)
unstated_skip test names i name text words lt is same fails h = λ word.
    h word ∙ go word (bytes_eq word name) refl ∙ ap (λ b. b && test word) (sym (one_more names i name lt is word))
  where
    go : (word : Bytes) (b : Bool) → bytes_eq word name ≡ b → (is_among (take i names) word && test word) ≡ ((is_among (take i names) word || bytes_eq word name) && test word)
    go word true e =
        let none : test word ≡ false = ap test ((bytes_eq-Decides word name).0 e ∙ sym same) ∙ fails in
        ap (λ b. is_among (take i names) word && b) none ∙ and-false (is_among (take i names) word)
        ∙ sym (ap (λ b. (is_among (take i names) word || bytes_eq word name) && b) none ∙ and-false (is_among (take i names) word || bytes_eq word name))
    go word false e = ap (λ b. b && test word) (sym (ap (λ b. is_among (take i names) word || b) e ∙ or-false (is_among (take i names) word)))

pub unstated_more : (test : Bytes → Bool) (names : List Bytes) (i : ℕ) (name text : Bytes) (old new : List Bytes) → i < length names → name ≡ get_or names i name → text ≡ name → test text ≡ true
    → ((word : Bytes) → is_among old word ≡ (is_among (take i names) word && test word)) → ((word : Bytes) → is_among new word ≡ (is_among old word || bytes_eq word text))
    → (word : Bytes) → is_among new word ≡ (is_among (take (i + 1) names) word && test word)
unstated_more test names i name text old new lt is same holds h add = λ word.
    add word ∙ ap₂ (λ a b. a || b) (h word) (ap (bytes_eq word) same) ∙ go word (bytes_eq word name) refl ∙ ap (λ b. b && test word) (sym (one_more names i name lt is word))
  where
    go : (word : Bytes) (b : Bool) → bytes_eq word name ≡ b → ((is_among (take i names) word && test word) || bytes_eq word name) ≡ ((is_among (take i names) word || bytes_eq word name) && test word)
    go word true e =
        let passes : test word ≡ true = ap test ((bytes_eq-Decides word name).0 e ∙ sym same) ∙ holds in
        ap (λ b. (is_among (take i names) word && test word) || b) e ∙ or-true (is_among (take i names) word && test word)
        ∙ sym (ap₂ (λ a b. (is_among (take i names) word || a) && b) e passes ∙ join (is_among (take i names) word || true) true (or-true (is_among (take i names) word)) refl)
    go word false e =
        ap (λ b. (is_among (take i names) word && test word) || b) e ∙ or-false (is_among (take i names) word && test word)
        ∙ ap (λ b. b && test word) (sym (ap (λ b. is_among (take i names) word || b) e ∙ or-false (is_among (take i names) word)))

pub unstated_all : (signatures : Signatures) (names : List Bytes) (i : ℕ) (words : List Bytes) → names ≡ relations_in signatures → length names ≤ i
    → ((word : Bytes) → is_among words word ≡ (is_among (take i names) word && is_unstated (arity_in signatures word))) → AreUnstated signatures words
unstated_all signatures names i words is end h = λ word. h word ∙ ap (λ (ns : List Bytes). is_among ns word && is_unstated (arity_in signatures word)) (take_all i names end ∙ is)

pub unstated_by : (forms : List Located) (signatures : Signatures) (words : List Bytes) → AreUnstated signatures words → AreSignatures forms signatures → AreWords (IsUnstated forms) words
unstated_by forms signatures words h are = λ word. (to word, from word)
  where
    to : (word : Bytes) → is_among words word ≡ true → IsUnstated forms word
    to word a =
        let e = both (is_among (relations_in signatures) word) (is_unstated (arity_in signatures word)) (sym (h word) ∙ a) in (
          (are.relations.exactly word).0 (among_contains (relations_in signatures) word e.0),
          subst (IsArity forms word) (unstated_one (arity_in signatures word) e.1) (are.arities word),
        )

    from : (word : Bytes) → IsUnstated forms word → is_among words word ≡ true
    from word u =
        h word ∙ join (is_among (relations_in signatures) word) (is_unstated (arity_in signatures word)) (contains_among (relations_in signatures) word ((are.relations.exactly word).1 u.0))
        (ap is_unstated (arity_one forms word (arity_in signatures word) Unstated (are.arities word) u.1))

-- ---- plain words

pub plain_not : (word : Bytes) (b : Bool) → b ≡ is_among logical_words word → b ≡ true → false ≡ is_plain word
unfolding is_plain
plain_not word b is holds = sym (ap (λ c. not c && is_none (built_in word)) (sym is ∙ holds))

is_none_by : (o : Option Arity) (n : Bool) → is_some o ≡ not n → n ≡ is_none o
is_none_by None true e = refl
is_none_by None false e = absurd (cc)
is_none_by (Some arity) true e = absurd (cc)
is_none_by (Some arity) false e = refl

pub plain_by : (word : Bytes) (o : Option Arity) (b n : Bool) → b ≡ is_among logical_words word → b ≡ false → o ≡ built_in word → is_some o ≡ not n → n ≡ is_plain word
unfolding is_plain
plain_by word o b n is fails built none = is_none_by o n none ∙ ap is_none built ∙ sym (ap (λ c. not c && is_none (built_in word)) (sym is ∙ fails))
