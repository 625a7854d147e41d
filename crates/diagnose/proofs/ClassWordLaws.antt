-- Words of told `subclass` forms.
use Rattle.std.proofs.Common.{◌≡◌, ℕ, ◌+◌, ◌<◌, ◌≤◌, ◌⊎◌, ◌↔◌, ◌||◌, List, [], ◌∷◌, ◌++◌, length, get_or, take, Bool, true, false, refl, sym, ap, ap₂, subst, ◌∙◌, inl, inr, if◌then◌else◌, codes}
use Rattle.std.specs.Prelude.{Contains, Option, Some, None}
use Rattle.std.specs.List.{cons_option}
use Rattle.std.specs.Str.{bytes_eq}
use Rattle.std.proofs.lemmas.List.{take_more, take_all}
use Rattle.std.proofs.lemmas.List.Elements.{Contains-append_left, Contains-push, Contains-push_cases}
use Rattle.std.proofs.lemmas.Slice.Eq.{bytes_eq-Decides}
use Rattle.kif_tree.specs.Shape.{is_among}
use Rattle.kif_tree.specs.Terms.{Bytes}
use Rattle.kif_tree.specs.declared.form.Form.{Form}
use Rattle.kif_tree.specs.declared.form.Form.TheVariants as form
use Rattle.kif_tree.specs.declared.place.Located.{Located}
use Rattle.taxonomy.specs.declared.told.ChainKind.{ChainKind}
use Rattle.taxonomy.specs.declared.told.ChainKind.TheVariants as kinds
use Rattle.taxonomy.specs.Told.{Link, links, told_link, told_words, link_of_words, link_of_kind, kind_of}
use Rattle.taxonomy.proofs.FormLaws.{told_words_are}
use Rattle.diagnose.specs.Arguments.{IsClassWord}
use Rattle.diagnose.specs.ClassWords.{subclass_form, IsOfSubclassForm, HasSubclassForm}
use Rattle.diagnose.specs.WordTables.{AreWords}
use Rattle.diagnose.proofs.FoundLaws.{contains_nothing, contains_first, contains_later, contains_cases}

-- ---- what one form tells

told_class : (located : Located) (low high : Bytes) → located.form ≡ subclass_form low high → told_link located ≡ Some (record { kind = kinds.Class; low = low; high = high; place = located.place })
told_class located low high is = ap (link_of_words located.place) ((told_words_are located.form (codes "subclass") (low ∷ high ∷ [])).1 is)

some_link : (a b : Link) → Some a ≡ Some b → a ≡ b
some_link a b e = cc

kind_class : (head : Bytes) (kind : ChainKind) → kind_of head ≡ Some kind → kind ≡ kinds.Class → head ≡ codes "subclass"
kind_class head kind e is = go (bytes_eq head (codes "instance")) (bytes_eq head (codes "subclass")) refl (bytes_eq head (codes "subrelation")) (e ∙ ap (λ (k : ChainKind). Some k) is)
  where
    go : (a b : Bool) → bytes_eq head (codes "subclass") ≡ b → (c : Bool)
        → (if a then Some kinds.Instance else if b then Some kinds.Class else if c then Some kinds.Relation else None) ≡ Some kinds.Class → head ≡ codes "subclass"
    go true b same c h = absurd (cc)
    go false true same c h = (bytes_eq-Decides head (codes "subclass")).0 same
    go false false same true h = absurd (cc)
    go false false same false h = absurd (cc)

class_told : (located : Located) (link : Link) → told_link located ≡ Some link → link.kind ≡ kinds.Class → located.form ≡ subclass_form link.low link.high
class_told located link told kind = go (told_words located.form) refl told
  where
    three : (head low high : Bytes) (o : Option ChainKind) → kind_of head ≡ o → told_words located.form ≡ Some (head ∷ low ∷ high ∷ []) → link_of_kind low high located.place o ≡ Some link → located.form ≡ subclass_form link.low link.high
    three head low high None is words e = absurd (cc)
    three head low high (Some k) is words e =
        let same : record { kind = k; low = low; high = high; place = located.place } ≡ link = some_link (record { kind = k; low = low; high = high; place = located.place }) link e in
        let begun : head ≡ codes "subclass" = kind_class head k is (ap (λ (l : Link). l.kind) same ∙ kind) in
        (told_words_are located.form head (low ∷ high ∷ [])).0 words
        ∙ ap (λ (w : Bytes). form.List (form.Word w ∷ form.Word low ∷ form.Word high ∷ [])) begun
        ∙ ap₂ subclass_form (ap (λ (l : Link). l.low) same) (ap (λ (l : Link). l.high) same)

    go : (o : Option (List Bytes)) → told_words located.form ≡ o → link_of_words located.place o ≡ Some link → located.form ≡ subclass_form link.low link.high
    go (Some (head ∷ low ∷ high ∷ [])) is e = three head low high (kind_of head) refl is e
    go (Some []) is e = absurd (cc)
    go (Some (a ∷ [])) is e = absurd (cc)
    go (Some (a ∷ b ∷ [])) is e = absurd (cc)
    go (Some (a ∷ b ∷ c ∷ d ∷ more)) is e = absurd (cc)
    go None is e = absurd (cc)

-- ---- links of forms

has_link : (forms : List Located) (located : Located) (link : Link) → Contains forms located → told_link located ≡ Some link → Contains (links forms) link
has_link [] located link c told = absurd (contains_nothing located c)
has_link (first ∷ forms) located link c told = go (contains_cases first forms located c) (λ later. has_link forms located link later told)
  where
    later : (o : Option Link) → Contains (links forms) link → Contains (cons_option o (links forms)) link
    later None h = h
    later (Some other) h = contains_later other (links forms) link h

    go : (first ≡ located) ⊎ Contains forms located → (Contains forms located → Contains (links forms) link) → Contains (links (first ∷ forms)) link
    go (inl e) more = subst (λ (o : Option Link). Contains (cons_option o (links forms)) link) (sym (ap told_link e ∙ told)) (contains_first link (links forms))
    go (inr h) more = later (told_link first) (more h)

record IsTold (forms : List Located) (link : Link) : Type 0 where
  located : Located
  among : Contains forms located
  told : told_link located ≡ Some link

link_told : (forms : List Located) (link : Link) → Contains (links forms) link → IsTold forms link
link_told [] link c = absurd (contains_nothing link c)
link_told (first ∷ forms) link c = go (told_link first) refl c (λ h. link_told forms link h)
  where
    later : IsTold forms link → IsTold (first ∷ forms) link
    later h = record { located = h.located; among = contains_later first forms h.located h.among; told = h.told }

    which : (other : Link) → told_link first ≡ Some other → (other ≡ link) ⊎ Contains (links forms) link → (Contains (links forms) link → IsTold forms link) → IsTold (first ∷ forms) link
    which other is (inl e) more = record { located = first; among = contains_first first forms; told = is ∙ ap (λ (l : Link). Some l) e }
    which other is (inr h) more = later (more h)

    go : (o : Option Link) → told_link first ≡ o → Contains (cons_option o (links forms)) link → (Contains (links forms) link → IsTold forms link) → IsTold (first ∷ forms) link
    go None is h more = later (more h)
    go (Some other) is h more = which other is (contains_cases other (links forms) link h) more

-- ---- words of told subclass forms

to_class_word : (forms : List Located) (word : Bytes) → HasSubclassForm forms word → IsClassWord (links forms) word
to_class_word forms word h = record {
  link = record { kind = kinds.Class; low = h.of_form.low; high = h.of_form.high; place = h.located.place };
  told = has_link forms h.located (record { kind = kinds.Class; low = h.of_form.low; high = h.of_form.high; place = h.located.place }) h.among
      (told_class h.located h.of_form.low h.of_form.high h.of_form.tells);
  kind = refl;
  has = h.of_form.has;
}

from_class_word : (forms : List Located) (word : Bytes) → IsClassWord (links forms) word → HasSubclassForm forms word
from_class_word forms word h =
    let t = link_told forms h.link h.told in
    record { located = t.located; among = t.among; of_form = record { low = h.link.low; high = h.link.high; tells = class_told t.located h.link t.told h.kind; has = h.has } }

-- ---- the set, form by form

pub words_more : (forms : List Located) (i : ℕ) (located : Located) (old new : List Bytes) → i < length forms → located ≡ get_or forms i located
    → ((word : Bytes) → (is_among old word ≡ true) ↔ HasSubclassForm (take i forms) word)
    → ((word : Bytes) → (is_among new word ≡ true) ↔ ((is_among old word ≡ true) ⊎ IsOfSubclassForm located.form word))
    → (word : Bytes) → (is_among new word ≡ true) ↔ HasSubclassForm (take (i + 1) forms) word
words_more forms i located old new lt is before added word = (λ h. to ((added word).0 h), λ h. (added word).1 (back h))
  where
    longer : take (i + 1) forms ≡ take i forms ++ located ∷ []
    longer = take_more forms i located lt ∙ ap (λ (x : Located). take i forms ++ x ∷ []) (sym is)

    earlier : HasSubclassForm (take i forms) word → HasSubclassForm (take (i + 1) forms) word
    earlier h = record {
      located = h.located;
      among = subst (λ (xs : List Located). Contains xs h.located) (sym longer) (Contains-append_left (take i forms) (located ∷ []) h.located h.among);
      of_form = h.of_form;
    }

    to : (is_among old word ≡ true) ⊎ IsOfSubclassForm located.form word → HasSubclassForm (take (i + 1) forms) word
    to (inl h) = earlier ((before word).0 h)
    to (inr h) = record { located = located; among = subst (λ (xs : List Located). Contains xs located) (sym longer) (Contains-push (take i forms) located); of_form = h }

    which : (h : HasSubclassForm (take (i + 1) forms) word) → Contains (take i forms) h.located ⊎ (located ≡ h.located) → (is_among old word ≡ true) ⊎ IsOfSubclassForm located.form word
    which h (inl c) = inl ((before word).1 (record { located = h.located; among = c; of_form = h.of_form }))
    which h (inr e) = inr (subst (λ (x : Located). IsOfSubclassForm x.form word) (sym e) h.of_form)

    back : HasSubclassForm (take (i + 1) forms) word → (is_among old word ≡ true) ⊎ IsOfSubclassForm located.form word
    back h = which h (Contains-push_cases (take i forms) located h.located (subst (λ (xs : List Located). Contains xs h.located) longer h.among))

pub words_all : (forms : List Located) (i : ℕ) (words : List Bytes) → length forms ≤ i → ((word : Bytes) → (is_among words word ≡ true) ↔ HasSubclassForm (take i forms) word) → AreWords (IsClassWord (links forms)) words
words_all forms i words end h word = (
  λ k. to_class_word forms word (subst (λ (xs : List Located). HasSubclassForm xs word) (take_all i forms end) ((h word).0 k)),
  λ k. (h word).1 (subst (λ (xs : List Located). HasSubclassForm xs word) (sym (take_all i forms end)) (from_class_word forms word k)),
)

-- ---- one form's words

either : (a b : Bool) → (a || b) ≡ true → (a ≡ true) ⊎ (b ≡ true)
either true b h = inl refl
either false b h = inr h

or_left : (a b : Bool) → a ≡ true → (a || b) ≡ true
or_left true b h = refl
or_left false b h = absurd (cc)

or_right : (a b : Bool) → b ≡ true → (a || b) ≡ true
or_right true b h = refl
or_right false b h = h

parts_of_subclass : (low high a b : Bytes) → subclass_form low high ≡ subclass_form a b → (low ≡ a) × (high ≡ b)
parts_of_subclass low high a b e =
    let words : Some (codes "subclass" ∷ low ∷ high ∷ []) ≡ Some (codes "subclass" ∷ a ∷ b ∷ []) =
    sym ((told_words_are (subclass_form low high) (codes "subclass") (low ∷ high ∷ [])).1 refl) ∙ (told_words_are (subclass_form low high) (codes "subclass") (a ∷ b ∷ [])).1 e in
    (cc, cc)

pub words_both : (f : Form) (low high first second : Bytes) (old mid new : List Bytes) → f ≡ subclass_form low high → first ≡ low → second ≡ high
    → ((other : Bytes) → is_among mid other ≡ (is_among old other || bytes_eq other first)) → ((other : Bytes) → is_among new other ≡ (is_among mid other || bytes_eq other second))
    → (word : Bytes) → (is_among new word ≡ true) ↔ ((is_among old word ≡ true) ⊎ IsOfSubclassForm f word)
words_both f low high first second old mid new is one two begun ended word = (λ h. to (either (is_among mid word) (bytes_eq word second) (sym (ended word) ∙ h)), λ h. ended word ∙ back h)
  where
    early : (is_among old word ≡ true) ⊎ (bytes_eq word first ≡ true) → (is_among old word ≡ true) ⊎ IsOfSubclassForm f word
    early (inl h) = inl h
    early (inr e) = inr (record { low = low; high = high; tells = is; has = inl (sym one ∙ sym ((bytes_eq-Decides word first).0 e)) })

    to : (is_among mid word ≡ true) ⊎ (bytes_eq word second ≡ true) → (is_among old word ≡ true) ⊎ IsOfSubclassForm f word
    to (inl h) = early (either (is_among old word) (bytes_eq word first) (sym (begun word) ∙ h))
    to (inr e) = inr (record { low = low; high = high; tells = is; has = inr (sym two ∙ sym ((bytes_eq-Decides word second).0 e)) })

    kept : is_among mid word ≡ true → (is_among mid word || bytes_eq word second) ≡ true
    kept h = or_left (is_among mid word) (bytes_eq word second) h

    which : (a b : Bytes) → (low ≡ a) × (high ≡ b) → (a ≡ word) ⊎ (b ≡ word) → (is_among mid word || bytes_eq word second) ≡ true
    which a b same (inl e) = kept (begun word ∙ or_right (is_among old word) (bytes_eq word first) ((bytes_eq-Decides word first).1 (sym (one ∙ same.0 ∙ e))))
    which a b same (inr e) = or_right (is_among mid word) (bytes_eq word second) ((bytes_eq-Decides word second).1 (sym (two ∙ same.1 ∙ e)))

    back : (is_among old word ≡ true) ⊎ IsOfSubclassForm f word → (is_among mid word || bytes_eq word second) ≡ true
    back (inl h) = kept (begun word ∙ or_left (is_among old word) (bytes_eq word first) h)
    back (inr h) = which h.low h.high (parts_of_subclass low high h.low h.high (sym is ∙ h.tells)) h.has
