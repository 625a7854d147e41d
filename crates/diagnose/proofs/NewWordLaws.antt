-- What was added, and words that are new at a form.
use Rattle.std.proofs.Common.{◌≡◌, ℕ, ◌+◌, ◌<◌, ◌≤◌, ◌⊎◌, ◌||◌, ◌&&◌, not, List, length, get_or, take, Bool, true, false, refl, sym, ap, ap₂, subst, ◌∙◌, inl, inr}
use Rattle.std.specs.List.{list_any}
use Rattle.std.specs.Str.{bytes_eq}
use Rattle.std.proofs.lemmas.List.{take_all}
use Rattle.std.proofs.lemmas.List.Folds.{list_any_more}
use Rattle.std.proofs.Math.Bool.{or-false, or-true, or_assoc}
use Rattle.std.proofs.lemmas.Slice.Eq.{bytes_eq-Decides}
use Rattle.kif_tree.specs.Shape.{is_among, has_word}
use Rattle.kif_tree.specs.Terms.{Bytes}
use Rattle.kif_tree.specs.declared.form.Form.{Form}
use Rattle.kif_tree.specs.declared.form.Form.TheVariants as form
use Rattle.kif_tree.specs.declared.place.Place.{Place}
use Rattle.kif_tree.proofs.ShapeLaws.{has_word-Word, has_word-List, has_word_other}
use Rattle.taxonomy.specs.Told.{ToldTaxonomy}
use Rattle.diagnose.specs.declared.diagnostic.Diagnostic.{Diagnostic}
use Rattle.diagnose.specs.declared.words.WordTables.{WordTables}
use Rattle.diagnose.specs.Found.{Adds}
use Rattle.diagnose.proofs.FoundLaws.{adds_none, adds_same, adds_both}
use Rattle.diagnose.specs.WordFaults.{lacks_parent, lacks_documentation, of_word, IsFault, Gains, IsNew, is_word, occurs_in}

-- ---- tests

pub neither : (a b : Bool) → (a || b) ≡ false → (a ≡ false) × (b ≡ false)
neither true b h = absurd (cc)
neither false b h = (refl, h)

pub both : (a b : Bool) → (a && b) ≡ true → (a ≡ true) × (b ≡ true)
both true b h = (refl, h)
both false b h = absurd (cc)

pub join : (a b : Bool) → a ≡ true → b ≡ true → (a && b) ≡ true
join true b h k = k
join false b h k = absurd (cc)

-- ---- what was added in turn

pub adds_then : (P Q R : Diagnostic → Type 0) (xs ys zs : List Diagnostic) → Adds P xs ys → Adds Q ys zs → ((d : Diagnostic) → R d → P d ⊎ Q d) → ((d : Diagnostic) → P d → R d) → ((d : Diagnostic) → Q d → R d) → Adds R xs zs
adds_then P Q R xs ys zs first next split left right = adds_same (λ d. P d ⊎ Q d) R xs zs into split (adds_both P Q xs ys zs first next)
  where
    into : (d : Diagnostic) → P d ⊎ Q d → R d
    into d (inl p) = left d p
    into d (inr q) = right d q

-- ---- what is missing of one word

abbrev Two : Place → Bytes → Bool → Bool → Diagnostic → Type 0
Two place word b c d = ((b ≡ true) × (d ≡ of_word 2 place word)) ⊎ ((c ≡ true) × (d ≡ of_word 11 place word))

pub faults_of : (taxonomy : ToldTaxonomy) (tables : WordTables) (place : Place) (word : Bytes) (a b c : Bool) (xs ys zs ws : List Diagnostic)
    → a ≡ lacks_parent taxonomy word → b ≡ lacks_documentation tables word → c ≡ is_among tables.unstated word
    → Adds (λ d. (a ≡ true) × (d ≡ of_word 1 place word)) xs ys → Adds (λ d. (b ≡ true) × (d ≡ of_word 2 place word)) ys zs
    → Adds (λ d. (c ≡ true) × (d ≡ of_word 11 place word)) zs ws → Adds (IsFault taxonomy tables place word) xs ws
faults_of taxonomy tables place word a b c xs ys zs ws is_a is_b is_c one two three =
    adds_then (λ d. (a ≡ true) × (d ≡ of_word 1 place word)) (Two place word b c) (IsFault taxonomy tables place word) xs ys ws one
    (adds_then (λ d. (b ≡ true) × (d ≡ of_word 2 place word)) (λ d. (c ≡ true) × (d ≡ of_word 11 place word)) (Two place word b c) ys zs ws two three (λ d h. h) (λ d h. inl h) (λ d h. inr h))
    split (λ d h. inl (sym is_a ∙ h.0, h.1)) right
  where
    split : (d : Diagnostic) → IsFault taxonomy tables place word d → ((a ≡ true) × (d ≡ of_word 1 place word)) ⊎ Two place word b c d
    split d (inl h) = inl (is_a ∙ h.0, h.1)
    split d (inr (inl h)) = inr (inl (is_b ∙ h.0, h.1))
    split d (inr (inr h)) = inr (inr (is_c ∙ h.0, h.1))

    right : (d : Diagnostic) → Two place word b c d → IsFault taxonomy tables place word d
    right d (inl h) = inr (inl (sym is_b ∙ h.0, h.1))
    right d (inr h) = inr (inr (sym is_c ∙ h.0, h.1))

-- ---- new words

pub was_new : (added had : Bool) → added ≡ not had → added ≡ true → had ≡ false
was_new added false is new = refl
was_new added true is new = let e : false ≡ true = sym is ∙ new in absurd (cc)

pub new_one : (F : Bytes → Diagnostic → Type 0) (old : List Bytes) (word : Bytes) (xs ys : List Diagnostic) → is_among old word ≡ false → Adds (F word) xs ys → Adds (IsNew F old (is_word word)) xs ys
new_one F old word xs ys new h = adds_same (F word) (IsNew F old (is_word word)) xs ys
    (λ d f. record { word = word; new = new; has = (bytes_eq-Decides word word).1 refl; fault = f })
    (λ d i. subst (λ (w : Bytes). F w d) ((bytes_eq-Decides i.word word).0 i.has) i.fault) h

pub new_as : (F : Bytes → Diagnostic → Type 0) (old : List Bytes) (test other : Bytes → Bool) (xs ys : List Diagnostic) → ((word : Bytes) → test word ≡ other word) → Adds (IsNew F old test) xs ys → Adds (IsNew F old other) xs ys
new_as F old test other xs ys same h = adds_same (IsNew F old test) (IsNew F old other) xs ys
    (λ d i. record { word = i.word; new = i.new; has = sym (same i.word) ∙ i.has; fault = i.fault })
    (λ d i. record { word = i.word; new = i.new; has = same i.word ∙ i.has; fault = i.fault }) h

pub new_none : (F : Bytes → Diagnostic → Type 0) (old : List Bytes) (test : Bytes → Bool) (xs : List Diagnostic) → ((word : Bytes) → test word ≡ false) → Adds (IsNew F old test) xs xs
new_none F old test xs none = adds_none (IsNew F old test) xs (λ d i. let e : true ≡ false = sym i.has ∙ none i.word in absurd (cc))

pub new_then : (F : Bytes → Diagnostic → Type 0) (old mid : List Bytes) (s t u : Bytes → Bool) (xs ys zs : List Diagnostic) → Gains s old mid → ((word : Bytes) → u word ≡ (s word || t word))
    → Adds (IsNew F old s) xs ys → Adds (IsNew F mid t) ys zs → Adds (IsNew F old u) xs zs
new_then F old mid s t u xs ys zs gains both first next = adds_then (IsNew F old s) (IsNew F mid t) (IsNew F old u) xs ys zs first next split
    (λ d i. record { word = i.word; new = i.new; has = both i.word ∙ ap (λ b. b || t i.word) i.has; fault = i.fault })
    (λ d i. record { word = i.word; new = (neither (is_among old i.word) (s i.word) (sym (gains i.word) ∙ i.new)).0; has = both i.word ∙ ap (λ b. s i.word || b) i.has ∙ or-true (s i.word); fault = i.fault })
  where
    split : (d : Diagnostic) → IsNew F old u d → IsNew F old s d ⊎ IsNew F mid t d
    split d i = go (s i.word) refl
      where
        go : (b : Bool) → s i.word ≡ b → IsNew F old s d ⊎ IsNew F mid t d
        go true e = inl (record { word = i.word; new = i.new; has = e; fault = i.fault })
        go false e = inr (record {
          word = i.word;
          new = gains i.word ∙ ap₂ (λ a b. a || b) i.new e;
          has = ap (λ b. b || t i.word) (sym e) ∙ sym (both i.word) ∙ i.has;
          fault = i.fault;
        })

pub gains_then : (old mid new : List Bytes) (s t u : Bytes → Bool) → Gains s old mid → Gains t mid new → ((word : Bytes) → u word ≡ (s word || t word)) → Gains u old new
gains_then old mid new s t u first next both = λ word.
    next word ∙ ap (λ b. b || t word) (first word) ∙ or_assoc (is_among old word) (s word) (t word) ∙ ap (λ b. is_among old word || b) (sym (both word))

pub gains_as : (old new : List Bytes) (test other : Bytes → Bool) → ((word : Bytes) → test word ≡ other word) → Gains test old new → Gains other old new
gains_as old new test other same h = λ word. h word ∙ ap (λ b. is_among old word || b) (same word)

pub gains_none : (words : List Bytes) (test : Bytes → Bool) → ((word : Bytes) → test word ≡ false) → Gains test words words
gains_none words test none = λ word. sym (ap (λ b. is_among words word || b) (none word) ∙ or-false (is_among words word))

-- ---- the words of a form

pub of_one : (f : Form) (text word : Bytes) → f ≡ form.Word text → text ≡ word → (other : Bytes) → is_word word other ≡ occurs_in f other
of_one f text word is same other = ap (bytes_eq other) (sym same) ∙ sym (has_word-Word other text) ∙ ap (has_word other) (sym is)

pub of_parts : (f : Form) (parts items : List Form) (i : ℕ) → f ≡ form.List parts → items ≡ parts → length items ≤ i → (word : Bytes) → list_any (has_word word) (take i items) ≡ occurs_in f word
of_parts f parts items i is same end word = ap (list_any (has_word word)) (take_all i items end ∙ same) ∙ sym (has_word-List word parts) ∙ ap (has_word word) (sym is)

pub of_other : (f : Form) → ((text : Bytes) → f ≡ form.Word text → ⊥) → ((parts : List Form) → f ≡ form.List parts → ⊥) → (word : Bytes) → occurs_in f word ≡ false
of_other f no_word no_list word = has_word_other word f no_word no_list

pub of_more : (items : List Form) (i : ℕ) (part : Form) → i < length items → part ≡ get_or items i part → (word : Bytes) → list_any (has_word word) (take (i + 1) items) ≡ (list_any (has_word word) (take i items) || occurs_in part word)
of_more items i part lt is word = list_any_more (has_word word) items i part lt ∙ ap (λ (f : Form). list_any (has_word word) (take i items) || has_word word f) (sym is)
