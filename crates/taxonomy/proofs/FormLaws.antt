-- What the parts of a form tell.
use Rattle.std.proofs.Common.{◌≡◌, ℕ, suc, zero, ◌+◌, ◌<◌, ◌≤◌, List, [], ◌∷◌, ◌++◌, length, get_or, take, drop, Bool, true, false, refl, sym, ap, subst, ◌∙◌, arith, if◌then◌else◌, codes, map, ap₂, ◌↔◌}
use Rattle.std.specs.Prelude.{Option, Some, None, is_some}
use Rattle.std.proofs.lemmas.List.{take_more}
use Rattle.kif_tree.specs.Terms.{Bytes}
use Rattle.kif_tree.specs.declared.form.Form.{Form, out-Form, roll-Form, roll-out-Form}
use Rattle.kif_tree.specs.declared.form.Form.TheOpen.{Form-F}
use Rattle.kif_tree.specs.declared.form.Form.TheVariants as form
use Rattle.kif_tree.specs.declared.place.Located.{Located}
use Rattle.kif_tree.specs.declared.place.Place.{Place}
use Rattle.std.specs.Str.{bytes_eq}
use Rattle.taxonomy.specs.Forms.{IsDisjointForm}
use Rattle.taxonomy.specs.declared.told.ChainKind.{ChainKind}
use Rattle.taxonomy.specs.Told.{told_words, word_text, word_layer, text_before, word_texts, parts_of, parts_layer, link_of_words, link_of_kind, kind_of, told_link, parts_a_whole, disjoint_of_words, told_disjoint}

-- ---- one form

pub word_text-Word : (f : Form) (text : Bytes) → f ≡ form.Word text → Some text ≡ word_text f
unfolding word_text
word_text-Word f text e = sym (ap (λ (x : Form). word_layer (out-Form x)) e ∙ ap word_layer (form.outs-Word text))

word_layer_other : (f : Form) (layer : Form-F Form) → f ≡ roll-Form layer → ((text : Bytes) → f ≡ form.Word text → ⊥) → None ≡ word_layer layer
word_layer_other f (Form-F.Word text) e no_word = absurd (no_word text (e ∙ form.rolls-Word text))
word_layer_other f (Form-F.Variable text) e no_word = refl
word_layer_other f (Form-F.Row text) e no_word = refl
word_layer_other f (Form-F.Numeral text) e no_word = refl
word_layer_other f (Form-F.Quoted text) e no_word = refl
word_layer_other f (Form-F.List parts) e no_word = refl

pub word_text_other : (f : Form) → ((text : Bytes) → f ≡ form.Word text → ⊥) → None ≡ word_text f
unfolding word_text
word_text_other f no_word = word_layer_other f (out-Form f) (sym (roll-out-Form f)) no_word

pub parts_of-List : (f : Form) (parts : List Form) → f ≡ form.List parts → parts ≡ parts_of f
unfolding parts_of
parts_of-List f parts e = sym (ap (λ (x : Form). parts_layer (out-Form x)) e ∙ ap parts_layer (form.outs-List parts))

parts_layer_other : (f : Form) (layer : Form-F Form) → f ≡ roll-Form layer → ((parts : List Form) → f ≡ form.List parts → ⊥) → [] ≡ parts_layer layer
parts_layer_other f (Form-F.Word text) e no_list = refl
parts_layer_other f (Form-F.Variable text) e no_list = refl
parts_layer_other f (Form-F.Row text) e no_list = refl
parts_layer_other f (Form-F.Numeral text) e no_list = refl
parts_layer_other f (Form-F.Quoted text) e no_list = refl
parts_layer_other f (Form-F.List parts) e no_list = absurd (no_list parts (e ∙ form.rolls-List parts))

pub parts_of_other : (f : Form) → ((parts : List Form) → f ≡ form.List parts → ⊥) → [] ≡ parts_of f
unfolding parts_of
parts_of_other f no_list = parts_layer_other f (out-Form f) (sym (roll-out-Form f)) no_list

-- ---- several parts

pub texts_length : (parts : List Form) (texts : List Bytes) → word_texts parts ≡ Some texts → length texts ≡ length parts
texts_length [] texts e = let none : [] ≡ texts = cc in ap (λ (x : List Bytes). length x) (sym none)
texts_length (part ∷ parts) texts e = go (word_text part) (word_texts parts) (texts_length parts) e refl
  where
    go : (o : Option Bytes) (p : Option (List Bytes)) → ((more : List Bytes) → word_texts parts ≡ Some more → length more ≡ length parts) → text_before o p ≡ Some texts → word_texts parts ≡ p → length texts ≡ length (part ∷ parts)
    go (Some text) (Some more) ih e is =
        let more_is : text ∷ more ≡ texts = cc in
        sym (ap (λ (x : List Bytes). length x) more_is) ∙ ap (λ (n : ℕ). suc n) (ih more is)
    go (Some text) None ih e is = absurd (cc)
    go None (Some more) ih e is = absurd (cc)
    go None None ih e is = absurd (cc)

before_none : (o : Option (List Bytes)) → text_before None o ≡ None
before_none None = refl
before_none (Some texts) = refl

before_after_none : (o : Option Bytes) → text_before o None ≡ None
before_after_none None = refl
before_after_none (Some text) = refl

-- other than three parts tell no link
no_link_of_texts : (place : Place) (texts : List Bytes) → (length texts ≡ 3 → ⊥) → link_of_words place (Some texts) ≡ None
no_link_of_texts place [] h = refl
no_link_of_texts place (a ∷ []) h = refl
no_link_of_texts place (a ∷ b ∷ []) h = refl
no_link_of_texts place (a ∷ b ∷ c ∷ []) h = absurd (h refl)
no_link_of_texts place (a ∷ b ∷ c ∷ d ∷ texts) h = refl

pub no_link : (located : Located) (parts : List Form) → parts ≡ parts_of located.form → (length parts ≡ 3 → ⊥) → None ≡ told_link located
no_link located parts e h = go (word_texts parts) refl
  where
    back : (o : Option (List Bytes)) → word_texts parts ≡ o → link_of_words located.place o ≡ told_link located
    back o is = ap (link_of_words located.place) (sym is ∙ ap word_texts e)

    go : (o : Option (List Bytes)) → word_texts parts ≡ o → None ≡ told_link located
    go None is = back None is
    go (Some texts) is = sym (no_link_of_texts located.place texts (λ three. h (sym (texts_length parts texts is) ∙ three))) ∙ back (Some texts) is

-- three parts
pub three_parts : (parts : List Form) (a b c : Form) → 3 ≤ length parts → length parts < 4 → a ≡ get_or parts 0 a → b ≡ get_or parts 1 b → c ≡ get_or parts 2 c → parts ≡ a ∷ b ∷ c ∷ []
three_parts [] a b c low high p q r = absurd (omega arith)
three_parts (x ∷ []) a b c low high p q r = absurd (omega arith)
three_parts (x ∷ y ∷ []) a b c low high p q r = absurd (omega arith)
three_parts (x ∷ y ∷ z ∷ []) a b c low high p q r = cc
three_parts (x ∷ y ∷ z ∷ w ∷ parts) a b c low high p q r = absurd (omega arith)

pub link_of_three : (located : Located) (parts : List Form) (a b c : Form) (head low high : Option Bytes) → parts ≡ parts_of located.form → parts ≡ a ∷ b ∷ c ∷ [] → head ≡ word_text a → low ≡ word_text b → high ≡ word_text c
    → link_of_words located.place (text_before head (text_before low (text_before high (Some [])))) ≡ told_link located
link_of_three located parts a b c head low high e is p q r =
    ap (λ (x : Option Bytes). link_of_words located.place (text_before x (text_before low (text_before high (Some []))))) p
    ∙ ap (λ (x : Option Bytes). link_of_words located.place (text_before (word_text a) (text_before x (text_before high (Some []))))) q
    ∙ ap (λ (x : Option Bytes). link_of_words located.place (text_before (word_text a) (text_before (word_text b) (text_before x (Some []))))) r
    ∙ ap (λ (x : List Form). link_of_words located.place (word_texts x)) (sym is ∙ e)

pub no_head : (place : Place) (low high : Option Bytes) → None ≡ link_of_words place (text_before None (text_before low (text_before high (Some []))))
no_head place low high = sym (ap (link_of_words place) (before_none (text_before low (text_before high (Some [])))))

pub no_low : (place : Place) (head high : Option Bytes) → None ≡ link_of_words place (text_before head (text_before None (text_before high (Some []))))
no_low place head high = sym (ap (λ (x : Option (List Bytes)). link_of_words place (text_before head x)) (before_none (text_before high (Some []))) ∙ ap (link_of_words place) (before_after_none head))

pub no_high : (place : Place) (head low : Option Bytes) → None ≡ link_of_words place (text_before head (text_before low (text_before None (Some []))))
no_high place head low =
    sym (ap (λ (x : Option (List Bytes)). link_of_words place (text_before head x)) (before_after_none low) ∙ ap (link_of_words place) (before_after_none head))

-- ---- parts that are all words

both_some : (o : Option Bytes) (p : Option (List Bytes)) → is_some o ≡ true → is_some p ≡ true → is_some (text_before o p) ≡ true
both_some (Some text) (Some texts) h k = refl
both_some (Some text) None h k = absurd (cc)
both_some None p h k = absurd (cc)

first_some : (o : Option Bytes) (p : Option (List Bytes)) → is_some (text_before o p) ≡ true → (is_some o ≡ true) × (is_some p ≡ true)
first_some (Some text) (Some texts) h = (refl, refl)
first_some (Some text) None h = absurd (cc)
first_some None (Some texts) h = absurd (cc)
first_some None None h = absurd (cc)

words_append : (xs ys : List Form) → is_some (word_texts xs) ≡ true → is_some (word_texts ys) ≡ true → is_some (word_texts (xs ++ ys)) ≡ true
words_append [] ys h k = k
words_append (x ∷ xs) ys h k = let split = first_some (word_text x) (word_texts xs) h in both_some (word_text x) (word_texts (xs ++ ys)) split.0 (words_append xs ys split.1 k)

pub words_none : is_some (word_texts []) ≡ true
words_none = refl

pub words_more : (parts : List Form) (i : ℕ) (part : Form) (text : Bytes) → i < length parts → part ≡ get_or parts i part → Some text ≡ word_text part → is_some (word_texts (take i parts)) ≡ true
    → is_some (word_texts (take (i + 1) parts)) ≡ true
words_more parts i part text lt is some h =
    subst (λ (x : List Form). is_some (word_texts x) ≡ true) (sym (take_more parts i part lt))
    (words_append (take i parts) (get_or parts i part ∷ []) h
    (both_some (word_text (get_or parts i part)) (Some [])
    (ap is_some (ap (λ (x : Form). word_text x) (sym is) ∙ sym some)) refl))

pub words_fail : (parts : List Form) (i : ℕ) (part : Form) → i < length parts → part ≡ get_or parts i part → None ≡ word_text part → false ≡ is_some (word_texts parts)
words_fail [] i part lt is none = absurd (omega arith)
words_fail (x ∷ parts) zero part lt is none = sym (ap is_some (ap (λ (o : Option Bytes). text_before o (word_texts parts)) (ap (λ (y : Form). word_text y) (sym is) ∙ sym none) ∙ before_none (word_texts parts)))
words_fail (x ∷ parts) (suc i) part lt is none = go (word_text x) (word_texts parts) (words_fail parts i part (omega arith) is none)
  where
    go : (o : Option Bytes) (p : Option (List Bytes)) → false ≡ is_some p → false ≡ is_some (text_before o p)
    go o None h = sym (ap is_some (before_after_none o))
    go o (Some texts) h = absurd (cc)

-- ---- parts that are disjoint

record Split (part : Form) (parts : List Form) (texts : List Bytes) : Type 0 where
  text : Bytes
  more : List Bytes
  is : texts ≡ text ∷ more
  first : word_text part ≡ Some text
  rest : word_texts parts ≡ Some more

split_texts : (part : Form) (parts : List Form) (texts : List Bytes) → word_texts (part ∷ parts) ≡ Some texts → Split part parts texts
split_texts part parts texts e = go (word_text part) (word_texts parts) refl refl e
  where
    go : (o : Option Bytes) (p : Option (List Bytes)) → word_text part ≡ o → word_texts parts ≡ p → text_before o p ≡ Some texts → Split part parts texts
    go (Some text) (Some more) first rest e = record { text = text; more = more; is = cc; first = first; rest = rest }
    go (Some text) None first rest e = absurd (cc)
    go None (Some more) first rest e = absurd (cc)
    go None None first rest e = absurd (cc)

some_texts : (parts : List Form) → true ≡ is_some (word_texts parts) → (texts : List Bytes) × (word_texts parts ≡ Some texts)
some_texts parts h = go (word_texts parts) refl h
  where
    go : (p : Option (List Bytes)) → word_texts parts ≡ p → true ≡ is_some p → (texts : List Bytes) × (word_texts parts ≡ Some texts)
    go (Some texts) is h = (texts, is)
    go None is h = absurd (cc)

same_head : (text head : Bytes) (part : Form) → word_text part ≡ Some text → Some head ≡ word_text part → text ≡ head
same_head text head part e k = let both : Some head ≡ Some text = k ∙ e in cc

told_by : (located : Located) (parts : List Form) (texts : List Bytes) → parts ≡ parts_of located.form → word_texts parts ≡ Some texts → told_disjoint located ≡ disjoint_of_words located.place (Some texts)
told_by located parts texts e is = ap (disjoint_of_words located.place) (ap word_texts (sym e) ∙ is)

few_of_texts : (place : Place) (texts : List Bytes) → length texts < 3 → disjoint_of_words place (Some texts) ≡ None
few_of_texts place [] h = refl
few_of_texts place (a ∷ []) h = refl
few_of_texts place (a ∷ b ∷ []) h = refl
few_of_texts place (a ∷ b ∷ c ∷ texts) h = absurd (omega arith)

pub too_few : (located : Located) (parts : List Form) → parts ≡ parts_of located.form → true ≡ is_some (word_texts parts) → length parts < 3 → told_disjoint located ≡ None
too_few located parts e all h =
    let texts = some_texts parts all in
    told_by located parts texts.0 e texts.1 ∙ few_of_texts located.place texts.0 (omega (arith, texts_length parts texts.0 texts.1))

pub not_words : (located : Located) (parts : List Form) → parts ≡ parts_of located.form → false ≡ is_some (word_texts parts) → told_disjoint located ≡ None
not_words located parts e h = go (word_texts parts) refl h
  where
    go : (p : Option (List Bytes)) → word_texts parts ≡ p → false ≡ is_some p → told_disjoint located ≡ None
    go None is h = ap (disjoint_of_words located.place) (ap word_texts (sym e) ∙ is)
    go (Some texts) is h = absurd (cc)

-- a head and two arguments
record ThreeTexts (part : Form) (arguments : List Form) (head : Bytes) (parts : List Form) : Type 0 where
  texts : List Bytes
  words : word_texts arguments ≡ Some texts
  all : word_texts parts ≡ Some (head ∷ texts)

three_texts : (part : Form) (arguments : List Form) (head : Bytes) → true ≡ is_some (word_texts (part ∷ arguments)) → Some head ≡ word_text part → ThreeTexts part arguments head (part ∷ arguments)
three_texts part arguments head all h =
    let texts = some_texts (part ∷ arguments) all in
    let s = split_texts part arguments texts.0 texts.1 in
    record { texts = s.more; words = s.rest; all = texts.1 ∙ ap (λ (x : List Bytes). Some x) (s.is ∙ ap (λ (t : Bytes). t ∷ s.more) (same_head s.text head part s.first h)) }

two_of_texts : (place : Place) (head : Bytes) (texts : List Bytes) → length texts ≡ 2 → disjoint_of_words place (Some (head ∷ texts)) ≡ (if bytes_eq head (codes "disjoint") then Some (record { words = texts; place = place }) else None)
two_of_texts place head [] h = absurd (omega arith)
two_of_texts place head (a ∷ []) h = absurd (omega arith)
two_of_texts place head (a ∷ b ∷ []) h = refl
two_of_texts place head (a ∷ b ∷ c ∷ texts) h = absurd (omega arith)

many_of_texts : (place : Place) (head whole : Bytes) (texts : List Bytes) → 2 ≤ length texts → disjoint_of_words place (Some (head ∷ whole ∷ texts)) ≡ (if parts_a_whole head then Some (record { words = texts; place = place }) else None)
many_of_texts place head whole [] h = absurd (omega arith)
many_of_texts place head whole (a ∷ []) h = absurd (omega arith)
many_of_texts place head whole (a ∷ b ∷ texts) h = refl

pub two_disjoint : (located : Located) (parts : List Form) (part : Form) (head : Bytes) → parts ≡ parts_of located.form → true ≡ is_some (word_texts parts) → part ≡ get_or parts 0 part → Some head ≡ word_text part → length (drop 1 parts) ≡ 2
    → bytes_eq head (codes "disjoint") ≡ true → IsDisjointForm located (drop 1 parts)
two_disjoint located [] part head e all is h two test = absurd (omega arith)
two_disjoint located (x ∷ parts) part head e all is h two test =
    let t = three_texts x parts head all (h ∙ ap word_text is) in
    record {
      texts = t.texts;
      words = t.words;
      told = told_by located (x ∷ parts) (head ∷ t.texts) e t.all ∙ two_of_texts located.place head t.texts (texts_length parts t.texts t.words ∙ two)
          ∙ ap (λ (b : Bool). if b then Some (record { words = t.texts; place = located.place }) else None) test;
    }

pub two_other : (located : Located) (parts : List Form) (part : Form) (head : Bytes) → parts ≡ parts_of located.form → true ≡ is_some (word_texts parts) → part ≡ get_or parts 0 part → Some head ≡ word_text part → length (drop 1 parts) ≡ 2
    → bytes_eq head (codes "disjoint") ≡ false → told_disjoint located ≡ None
two_other located [] part head e all is h two test = absurd (omega arith)
two_other located (x ∷ parts) part head e all is h two test =
    let t = three_texts x parts head all (h ∙ ap word_text is) in
    told_by located (x ∷ parts) (head ∷ t.texts) e t.all ∙ two_of_texts located.place head t.texts (texts_length parts t.texts t.words ∙ two)
    ∙ ap (λ (b : Bool). if b then Some (record { words = t.texts; place = located.place }) else None) test

record ManyTexts (listed : List Form) (head : Bytes) (located : Located) : Type 0 where
  texts : List Bytes
  words : word_texts listed ≡ Some texts
  told : told_disjoint located ≡ (if parts_a_whole head then Some (record { words = texts; place = located.place }) else None)

many_texts : (located : Located) (parts : List Form) (part : Form) (head : Bytes) → parts ≡ parts_of located.form → true ≡ is_some (word_texts parts) → part ≡ get_or parts 0 part → Some head ≡ word_text part → 3 ≤ length parts
    → (length (drop 1 parts) ≡ 2 → ⊥) → ManyTexts (drop 1 (drop 1 parts)) head located
many_texts located [] part head e all is h low other = absurd (omega arith)
many_texts located (x ∷ []) part head e all is h low other = absurd (omega arith)
many_texts located (x ∷ y ∷ []) part head e all is h low other = absurd (omega arith)
many_texts located (x ∷ y ∷ z ∷ []) part head e all is h low other = absurd (other refl)
many_texts located (x ∷ y ∷ z ∷ w ∷ parts) part head e all is h low other =
    let t = three_texts x (y ∷ z ∷ w ∷ parts) head all (h ∙ ap word_text is) in
    let s = split_texts y (z ∷ w ∷ parts) t.texts t.words in
    let long = texts_length (z ∷ w ∷ parts) s.more s.rest in
    record {
      texts = s.more;
      words = s.rest;
      told = told_by located (x ∷ y ∷ z ∷ w ∷ parts) (head ∷ t.texts) e t.all ∙ ap (λ (ts : List Bytes). disjoint_of_words located.place (Some (head ∷ ts))) s.is
          ∙ many_of_texts located.place head s.text s.more (omega (arith, long));
    }

pub many_disjoint : (located : Located) (parts : List Form) (part : Form) (head : Bytes) → parts ≡ parts_of located.form → true ≡ is_some (word_texts parts) → part ≡ get_or parts 0 part → Some head ≡ word_text part → 3 ≤ length parts
    → (length (drop 1 parts) ≡ 2 → ⊥) → parts_a_whole head ≡ true → IsDisjointForm located (drop 1 (drop 1 parts))
many_disjoint located parts part head e all is h low other test =
    let t = many_texts located parts part head e all is h low other in
    record { texts = t.texts; words = t.words; told = t.told ∙ ap (λ (b : Bool). if b then Some (record { words = t.texts; place = located.place }) else None) test }

pub many_other : (located : Located) (parts : List Form) (part : Form) (head : Bytes) → parts ≡ parts_of located.form → true ≡ is_some (word_texts parts) → part ≡ get_or parts 0 part → Some head ≡ word_text part → 3 ≤ length parts
    → (length (drop 1 parts) ≡ 2 → ⊥) → parts_a_whole head ≡ false → told_disjoint located ≡ None
many_other located parts part head e all is h low other test =
    let t = many_texts located parts part head e all is h low other in
    t.told ∙ ap (λ (b : Bool). if b then Some (record { words = t.texts; place = located.place }) else None) test

pub link_found : (located : Located) (parts : List Form) (a b c : Form) (head low high bytes : Bytes) (kind : ChainKind) → parts ≡ parts_of located.form → (length parts ≡ 3) → a ≡ get_or parts 0 a → b ≡ get_or parts 1 b → c ≡ get_or parts 2 c
    → Some head ≡ word_text a → Some low ≡ word_text b → Some high ≡ word_text c → Some kind ≡ kind_of bytes → bytes ≡ head → Some (record { kind = kind; low = low; high = high; place = located.place }) ≡ told_link located
link_found located parts a b c head low high bytes kind e three is also more p q r k same =
    ap (link_of_kind low high located.place) (k ∙ ap kind_of same)
    ∙ link_of_three located parts a b c (Some head) (Some low) (Some high) e (three_parts parts a b c (omega arith) (omega arith) is also more) p q r

-- ---- the words of a form are those of which it is the list

word_layer_back : (f : Form) (layer : Form-F Form) (text : Bytes) → f ≡ roll-Form layer → word_layer layer ≡ Some text → f ≡ form.Word text
word_layer_back f (Form-F.Word word) text e is = let same : word ≡ text = cc in e ∙ form.rolls-Word word ∙ ap form.Word same
word_layer_back f (Form-F.Variable word) text e is = absurd (cc)
word_layer_back f (Form-F.Row word) text e is = absurd (cc)
word_layer_back f (Form-F.Numeral word) text e is = absurd (cc)
word_layer_back f (Form-F.Quoted word) text e is = absurd (cc)
word_layer_back f (Form-F.List parts) text e is = absurd (cc)

word_back : (f : Form) (text : Bytes) → word_text f ≡ Some text → f ≡ form.Word text
unfolding word_text
word_back f text is = word_layer_back f (out-Form f) text (sym (roll-out-Form f)) is

parts_layer_back : (f : Form) (layer : Form-F Form) (part : Form) (parts : List Form) → f ≡ roll-Form layer → parts_layer layer ≡ part ∷ parts → f ≡ form.List (part ∷ parts)
parts_layer_back f (Form-F.Word word) part parts e is = absurd (cc)
parts_layer_back f (Form-F.Variable word) part parts e is = absurd (cc)
parts_layer_back f (Form-F.Row word) part parts e is = absurd (cc)
parts_layer_back f (Form-F.Numeral word) part parts e is = absurd (cc)
parts_layer_back f (Form-F.Quoted word) part parts e is = absurd (cc)
parts_layer_back f (Form-F.List all) part parts e is = e ∙ form.rolls-List all ∙ ap form.List is

parts_back : (f : Form) (part : Form) (parts : List Form) → parts_of f ≡ part ∷ parts → f ≡ form.List (part ∷ parts)
unfolding parts_of
parts_back f part parts is = parts_layer_back f (out-Form f) part parts (sym (roll-out-Form f)) is

words_back : (parts : List Form) (texts : List Bytes) → word_texts parts ≡ Some texts → parts ≡ map form.Word texts
words_back [] texts is = let none : [] ≡ texts = cc in ap (map form.Word) none
words_back (part ∷ parts) texts is =
    let s = split_texts part parts texts is in
    ap₂ ◌∷◌ (word_back part s.text s.first) (words_back parts s.more s.rest) ∙ ap (map form.Word) (sym s.is)

words_there : (texts : List Bytes) → word_texts (map form.Word texts) ≡ Some texts
words_there [] = refl
words_there (text ∷ texts) = ap₂ text_before (sym (word_text-Word (form.Word text) text refl)) (words_there texts)

pub told_words_are : (f : Form) (text : Bytes) (texts : List Bytes) → (told_words f ≡ Some (text ∷ texts)) ↔ (f ≡ form.List (map form.Word (text ∷ texts)))
told_words_are f text texts = (
  λ told. parts_back f (form.Word text) (map form.Word texts) (words_back (parts_of f) (text ∷ texts) told),
  λ is. ap word_texts (sym (parts_of-List f (map form.Word (text ∷ texts)) is)) ∙ words_there (text ∷ texts),
)
