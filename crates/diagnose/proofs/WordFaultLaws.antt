-- What is wrong with words at a form.
use Rattle.std.proofs.Common.{◌≡◌, ◌≢◌, ℕ, suc, zero, ◌⊎◌, ◌||◌, ◌&&◌, List, [], ◌∷◌, ◌++◌, length, map, filter, Bool, true, false, not, refl, sym, ap, ap₂, subst, ◌∙◌, arith, inl, inr, if◌then◌else◌}
use Rattle.std.specs.Prelude.{Option, Some, None, Contains, codes, is_none, nat_eq}
use Rattle.std.specs.List.{list_any, filter_map, cons_option}
use Rattle.std.specs.Str.{bytes_eq}
use Rattle.std.proofs.lemmas.Bool.Decides.{nat_tests}
use Rattle.std.proofs.lemmas.List.Elements.{Contains-append_right}
use Rattle.std.proofs.lemmas.List.Folds.{list_any-append}
use Rattle.std.proofs.Math.Bool.{or-false, or-true}
use Rattle.std.specs.Cmp.{both_ways}
use Rattle.std.proofs.lemmas.Slice.Eq.{bytes_eq-Decides}
use Rattle.sigma_base.specs.Lists.{Each, each_right}
use Rattle.kif_tree.specs.FormLaws.{induction}
use Rattle.kif_tree.specs.Names.{parts_in, parts_layer}
use Rattle.kif_tree.specs.Places.{PlacesDiffer}
use Rattle.kif_tree.specs.Shape.{is_among, first_of, logical_words, has_word}
use Rattle.kif_tree.specs.Terms.{Bytes}
use Rattle.kif_tree.specs.declared.form.Form.{Form, out-Form}
use Rattle.kif_tree.specs.declared.form.Form.TheOpen.{Form-F}
use Rattle.kif_tree.specs.declared.form.Form.TheVariants as form
use Rattle.kif_tree.specs.declared.place.Located.{Located}
use Rattle.kif_tree.specs.declared.place.Place.{Place}
use Rattle.kif_tree.proofs.ShapeLaws.{has_word-Word, has_word-List}
use Rattle.taxonomy.specs.declared.told.ChainKind.{ChainKind}
use Rattle.taxonomy.specs.declared.told.Told.{Told}
use Rattle.taxonomy.specs.Chains.{parents, as_told}
use Rattle.taxonomy.specs.Disjoint.{Separates, AreNotDisjoint, AreDisjointBy}
use Rattle.taxonomy.specs.Told as told
use Rattle.taxonomy.specs.Told.{Link, links, told_link, link_of_words, link_of_kind, kind_of, word_text, word_layer, word_texts, text_before, parts_of, DisjointWords, ToldTaxonomy, told_taxonomy}
use Rattle.signatures.specs.Arities.{built_in}
use Rattle.signatures.specs.Relations.{is_shown, is_snapshot_word}
use Rattle.diagnose.specs.declared.diagnostic.Diagnostic.{Diagnostic}
use Rattle.diagnose.specs.declared.words.WordTables.{WordTables}
use Rattle.diagnose.specs.Diagnostics.{IsOfWord}
use Rattle.diagnose.specs.Found.{Adds}
use Rattle.diagnose.specs.WordFaults.{second_text, second_word, is_plain, IsFault, Gains, IsNew, occurs_in, IsFirstTold, IsDisjoint, StandsAmong}
use Rattle.diagnose.specs.Words.{IsPlainWord, place_with, first_with, documents}
use Rattle.diagnose.specs.WordTables.{AreSeen}
use Rattle.diagnose.proofs.FoundLaws.{adds_one}
use Rattle.diagnose.proofs.NewWordLaws.{adds_then, neither, both, join}
use Rattle.diagnose.proofs.WordTableLaws.{text_of_word, text_of_other}

-- ---- disjoint parents

not_by : (taxonomy : ToldTaxonomy) (a b : Bytes) (place : Place) → AreNotDisjoint taxonomy a b → AreDisjointBy taxonomy a b place → ⊥
not_by taxonomy a b place none by =
    (each_right (λ form. Separates taxonomy.links form a b → ⊥) by.before (by.form ∷ by.after) (subst (Each (λ form. Separates taxonomy.links form a b → ⊥)) by.stands none)).0 by.separates

first_one : (P : DisjointWords → Type 0) (xs ys : List DisjointWords) (x y : DisjointWords) (more rest : List DisjointWords) → xs ++ x ∷ more ≡ ys ++ y ∷ rest
    → Each (λ z. P z → ⊥) xs → P x → Each (λ z. P z → ⊥) ys → P y → x ≡ y
first_one P [] [] x y more rest e nx px ny py = cc
first_one P [] (b ∷ ys) x y more rest e nx px ny py = let same : x ≡ b = cc in absurd (ny.0 (subst P same px))
first_one P (a ∷ xs) [] x y more rest e nx px ny py = let same : y ≡ a = cc in absurd (nx.0 (subst P same py))
first_one P (a ∷ xs) (b ∷ ys) x y more rest e nx px ny py = let tails : xs ++ x ∷ more ≡ ys ++ y ∷ rest = cc in first_one P xs ys x y more rest tails nx.1 px ny.1 py

by_one : (taxonomy : ToldTaxonomy) (a b : Bytes) (p q : Place) → AreDisjointBy taxonomy a b p → AreDisjointBy taxonomy a b q → p ≡ q
by_one taxonomy a b p q one other =
    sym one.at_place
    ∙ ap (λ (w : DisjointWords). w.place) (first_one (λ form. Separates taxonomy.links form a b) one.before other.before one.form other.form one.after other.after (sym one.stands ∙ other.stands) one.first_of_all one.separates other.first_of_all other.separates)
    ∙ other.at_place

same_word : (o : Option Bytes) (a b : Bytes) → o ≡ Some a → o ≡ Some b → a ≡ b
same_word o a b e f = cc

pub not_disjoint : (taxonomy : ToldTaxonomy) (located : Located) (word a b : Bytes) → second_word located.form ≡ Some word → a ≡ word → b ≡ word → AreNotDisjoint taxonomy a b → (d : Diagnostic) → IsDisjoint taxonomy located d → ⊥
not_disjoint taxonomy located word a b second is_a is_b none d i =
    let same : word ≡ i.word = same_word (second_word located.form) word i.word second i.second in
    not_by taxonomy i.word i.word i.by
    (subst (λ (w : Bytes). AreNotDisjoint taxonomy w i.word) (is_a ∙ same) (subst (AreNotDisjoint taxonomy a) (is_b ∙ same) none)) i.disjoint

abbrev with_by : Place → Place → Bytes → Diagnostic
with_by place by word = record { code = 3; place = place; term = word; other = Some by }

pub disjoint_one : (taxonomy : ToldTaxonomy) (located : Located) (word a b c e term : Bytes) (by : Place) (xs ys : List Diagnostic) → second_word located.form ≡ Some word → a ≡ word → b ≡ word → c ≡ word → e ≡ word → term ≡ word
    → IsFirstTold taxonomy.links a located.place → is_plain b ≡ true → AreDisjointBy taxonomy c e by → ys ≡ xs ++ record { code = 3; place = located.place; term = term; other = Some by } ∷ [] → Adds (IsDisjoint taxonomy located) xs ys
disjoint_one taxonomy located word a b c e term by xs ys second is_a is_b is_c is_e is_term first plain disjoint items =
    adds_one (IsDisjoint taxonomy located) xs ys (with_by located.place by word) (items ∙ ap (λ (w : Bytes). xs ++ with_by located.place by w ∷ []) is_term)
    (record {
      word = word;
      second = second;
      plain = ap is_plain (sym is_b) ∙ plain;
      first = subst (λ (w : Bytes). IsFirstTold taxonomy.links w located.place) is_a first;
      by = by;
      disjoint = apart;
      is = refl;
    })
    (λ d i.
    let same : i.word ≡ word = same_word (second_word located.form) i.word word i.second second in
    sym (i.is ∙ ap (with_by located.place i.by) same
    ∙ ap (λ (p : Place). with_by located.place p word) (by_one taxonomy word word i.by by (subst (λ (w : Bytes). AreDisjointBy taxonomy w w i.by) same i.disjoint) apart)))
  where
    apart : AreDisjointBy taxonomy word word by
    apart = subst (λ (w : Bytes). AreDisjointBy taxonomy w word by) is_c (subst (λ (w : Bytes). AreDisjointBy taxonomy c w by) is_e disjoint)

-- ---- the form that tells a parent first

parts_same : (f : Form) → parts_of f ≡ parts_in f
unfolding parts_of
parts_same f = go (out-Form f)
  where
    go : (layer : Form-F Form) → told.parts_layer layer ≡ parts_layer layer
    go (Form-F.Word text) = refl
    go (Form-F.Variable text) = refl
    go (Form-F.Row text) = refl
    go (Form-F.Numeral text) = refl
    go (Form-F.Quoted text) = refl
    go (Form-F.List parts) = refl

second_of_texts : (parts : List Form) (a b : Bytes) (more : List Bytes) → word_texts parts ≡ Some (a ∷ b ∷ more) → second_text parts ≡ Some b
second_of_texts [] a b more e = absurd (cc)
second_of_texts (p ∷ []) a b more e = go (word_text p) e
  where
    go : (o : Option Bytes) → text_before o (Some []) ≡ Some (a ∷ b ∷ more) → second_text (p ∷ []) ≡ Some b
    go (Some text) e = absurd (cc)
    go None e = absurd (cc)
second_of_texts (p ∷ q ∷ parts) a b more e = go (word_text p) (word_text q) (word_texts parts) e
  where
    go : (o r : Option Bytes) (rest : Option (List Bytes)) → text_before o (text_before r rest) ≡ Some (a ∷ b ∷ more) → r ≡ Some b
    go (Some x) (Some y) (Some zs) e = cc
    go (Some x) (Some y) None e = absurd (cc)
    go (Some x) None (Some zs) e = absurd (cc)
    go (Some x) None None e = absurd (cc)
    go None (Some y) (Some zs) e = absurd (cc)
    go None (Some y) None e = absurd (cc)
    go None None (Some zs) e = absurd (cc)
    go None None None e = absurd (cc)

-- a told link's first word is its form's second part, and its place is the form's
link_second : (located : Located) (link : Link) → told_link located ≡ Some link → (second_word located.form ≡ Some link.low) × (located.place ≡ link.place)
link_second located link e = go (word_texts (parts_of located.form)) refl e
  where
    by_kind : (b c : Bytes) (k : Option ChainKind) → link_of_kind b c located.place k ≡ Some link → (b ≡ link.low) × (located.place ≡ link.place)
    by_kind b c (Some k) e = let same : record { kind = k; low = b; high = c; place = located.place } ≡ link = cc in (ap (λ (l : Link). l.low) same, ap (λ (l : Link). l.place) same)
    by_kind b c None e = absurd (cc)

    go : (o : Option (List Bytes)) → word_texts (parts_of located.form) ≡ o → link_of_words located.place o ≡ Some link → (second_word located.form ≡ Some link.low) × (located.place ≡ link.place)
    go (Some (a ∷ b ∷ c ∷ [])) is e =
        let k = by_kind b c (kind_of a) e in
        (ap second_text (sym (parts_same located.form)) ∙ second_of_texts (parts_of located.form) a b (c ∷ []) is ∙ ap (λ w. Some w) k.0, k.1)
    go (Some []) is e = absurd (cc)
    go (Some (a ∷ [])) is e = absurd (cc)
    go (Some (a ∷ b ∷ [])) is e = absurd (cc)
    go (Some (a ∷ b ∷ c ∷ d ∷ more)) is e = absurd (cc)
    go None is e = absurd (cc)

-- a form tells the parent
record Teller (forms : List Located) (word : Bytes) (told : Told) : Type 0 where
  located : Located
  among : Contains forms located
  second : second_word located.form ≡ Some word
  at : located.place ≡ told.place

first_teller : (forms : List Located) (word : Bytes) (told : Told) (more : List Told) → parents (links forms) word ≡ told ∷ more → Teller forms word told
first_teller [] word told more e = absurd (cc)
first_teller (located ∷ forms) word told more e = go (told_link located) refl e (first_teller forms word told more)
  where
    later : Teller forms word told → Teller (located ∷ forms) word told
    later t = let c = t.among in record { located = t.located; among = (suc c.0, omega (arith, c.1), c.2); second = t.second; at = t.at }

    go : (o : Option Link) → told_link located ≡ o → map as_told (filter (λ (link : Link). bytes_eq link.low word) (cons_option o (links forms))) ≡ told ∷ more → (parents (links forms) word ≡ told ∷ more → Teller forms word told)
        → Teller (located ∷ forms) word told
    go None is e rest = later (rest e)
    go (Some link) is e rest = by_low (bytes_eq link.low word) refl e
      where
        by_low : (b : Bool) → bytes_eq link.low word ≡ b
            → map as_told (if b then link ∷ filter (λ (link : Link). bytes_eq link.low word) (links forms) else filter (λ (link : Link). bytes_eq link.low word) (links forms)) ≡ told ∷ more → Teller (located ∷ forms) word told
        by_low true same e =
            let first : as_told link ≡ told = cc in
            let second = link_second located link is in
            record {
              located = located;
              among = (zero, omega arith, refl);
              second = second.0 ∙ ap (λ w. Some w) ((bytes_eq-Decides link.low word).0 same);
              at = second.1 ∙ ap (λ (t : Told). t.place) first;
            }
        by_low false same e = later (rest e)

each_at : (P : Located → Type 0) (forms : List Located) (x : Located) → Each P forms → Contains forms x → P x
each_at P [] x each (n, lt, is) = absurd (omega (arith, lt))
each_at P (y ∷ forms) x each (zero, lt, is) = subst P is each.0
each_at P (y ∷ forms) x each (suc n, lt, is) = each_at P forms x each.1 (n, omega (arith, lt), is)

same_form : (forms : List Located) (a b : Located) → PlacesDiffer forms → Contains forms a → Contains forms b → a.place ≡ b.place → a ≡ b
same_form [] a b differ (n, lt, is) in_b at = absurd (omega (arith, lt))
same_form (x ∷ forms) a b differ (zero, lt, is) (zero, lt', is') at = sym is ∙ is'
same_form (x ∷ forms) a b differ (zero, lt, is) (suc n, lt', is') at =
    absurd (each_at (λ (other : Located). x.place ≢ other.place) forms b differ.0 (n, omega (arith, lt'), is') (ap (λ (l : Located). l.place) is ∙ at))
same_form (x ∷ forms) a b differ (suc n, lt, is) (zero, lt', is') at =
    absurd (each_at (λ (other : Located). x.place ≢ other.place) forms a differ.0 (n, omega (arith, lt), is) (ap (λ (l : Located). l.place) is' ∙ sym at))
same_form (x ∷ forms) a b differ (suc n, lt, is) (suc m, lt', is') at = same_form forms a b differ.1 (n, omega (arith, lt), is) (m, omega (arith, lt'), is') at

-- ---- the first form with a word

abbrev test : Bytes → Located → Bool
test word located = not (is_shown located.form) && has_word word located.form

first_here : (before after : List Located) (located : Located) (word : Bytes) → is_snapshot_word before word ≡ false → test word located ≡ true → first_with (before ++ located ∷ after) word ≡ Some located.place
first_here [] after located word none has = ap (λ (b : Bool). first_of (cons_option (if b then Some located.place else None) (filter_map (place_with word) after))) has
first_here (x ∷ before) after located word none has =
    let e = neither (test word x) (is_snapshot_word before word) none in
    ap (λ (b : Bool). first_of (cons_option (if b then Some x.place else None) (filter_map (place_with word) (before ++ located ∷ after)))) e.0 ∙ first_here before after located word e.1 has

never : (located : Located) (after : List Located) (word : Bytes) → Each (λ (other : Located). located.place ≢ other.place) after → first_with after word ≡ Some located.place → ⊥
never located [] word each e = absurd (cc)
never located (x ∷ after) word each e = go (test word x) e (never located after word each.1)
  where
    go : (b : Bool) → first_of (cons_option (if b then Some x.place else None) (filter_map (place_with word) after)) ≡ Some located.place → (first_with after word ≡ Some located.place → ⊥) → ⊥
    go true e rest = let same : located.place ≡ x.place = cc in each.0 same
    go false e rest = rest e

first_back : (before after : List Located) (located : Located) (word : Bytes) → PlacesDiffer (before ++ located ∷ after) → first_with (before ++ located ∷ after) word ≡ Some located.place → (is_snapshot_word before word ≡ false) × (test word located ≡ true)
first_back [] after located word differ e = go (test word located) refl e
  where
    go : (b : Bool) → test word located ≡ b → first_of (cons_option (if b then Some located.place else None) (filter_map (place_with word) after)) ≡ Some located.place → (is_snapshot_word [] word ≡ false) × (test word located ≡ true)
    go true is e = (refl, is)
    go false is e = absurd (never located after word differ.0 e)
first_back (x ∷ before) after located word differ e = go (test word x) refl e (first_back before after located word differ.1)
  where
    go : (b : Bool) → test word x ≡ b → first_of (cons_option (if b then Some x.place else None) (filter_map (place_with word) (before ++ located ∷ after))) ≡ Some located.place
        → (first_with (before ++ located ∷ after) word ≡ Some located.place → (is_snapshot_word before word ≡ false) × (test word located ≡ true))
        → (is_snapshot_word (x ∷ before) word ≡ false) × (test word located ≡ true)
    go true is e rest =
        let same : x.place ≡ located.place = cc in
        absurd ((each_right (λ (other : Located). x.place ≢ other.place) before (located ∷ after) differ.0).0 same)
    go false is e rest = let m = rest e in (ap (λ b. b || is_snapshot_word before word) is ∙ m.0, m.1)

-- ---- words that were seen

seen_before : (before : List Located) (seen : List Bytes) → AreSeen before seen → (word : Bytes) → is_among seen word ≡ is_snapshot_word before word
seen_before before seen h word = both_ways (is_among seen word) (is_snapshot_word before word) (h word).0 (h word).1

test_of : (word : Bytes) (located : Located) → is_shown located.form ≡ false → test word located ≡ has_word word located.form
test_of word located not_shown = ap (λ b. not b && has_word word located.form) not_shown

pub seen_more : (before : List Located) (located : Located) (old new : List Bytes) → Gains (occurs_in located.form) old new → AreSeen before old → is_shown located.form ≡ false → AreSeen (before ++ located ∷ []) new
seen_more before located old new gains h not_shown = λ word. (λ a. sym (same word) ∙ a, λ b. same word ∙ b)
  where
    same : (word : Bytes) → is_among new word ≡ is_snapshot_word (before ++ located ∷ []) word
    same word =
        gains word ∙ ap₂ (λ a b. a || b) (seen_before before old h word) (sym (or-false (test word located) ∙ test_of word located not_shown))
        ∙ sym (list_any-append (test word) before (located ∷ []))

-- ---- the word that a form tells something of occurs in it

text_is : (text word : Bytes) → word_text (form.Word text) ≡ Some word → word ≡ text
text_is text word e = let k : Some text ≡ Some word = sym (text_of_word (form.Word text) text refl) ∙ e in cc

text_occurs : (f : Form) (word : Bytes) → word_text f ≡ Some word → has_word word f ≡ true
text_occurs f word = induction (λ f. word_text f ≡ Some word → has_word word f ≡ true) (record {
  word = λ text e. has_word-Word word text ∙ (bytes_eq-Decides word text).1 (text_is text word e);
  variable = λ text e. other (form.Variable text) (λ t k. let l : Form-F.Variable text ≡ Form-F.Word t = sym (form.outs-Variable text) ∙ ap out-Form k ∙ form.outs-Word t in absurd (cc)) e;
  row = λ text e. other (form.Row text) (λ t k. let l : Form-F.Row text ≡ Form-F.Word t = sym (form.outs-Row text) ∙ ap out-Form k ∙ form.outs-Word t in absurd (cc)) e;
  numeral = λ text e. other (form.Numeral text) (λ t k. let l : Form-F.Numeral text ≡ Form-F.Word t = sym (form.outs-Numeral text) ∙ ap out-Form k ∙ form.outs-Word t in absurd (cc)) e;
  quoted = λ text e. other (form.Quoted text) (λ t k. let l : Form-F.Quoted text ≡ Form-F.Word t = sym (form.outs-Quoted text) ∙ ap out-Form k ∙ form.outs-Word t in absurd (cc)) e;
  list = λ parts each e. other (form.List parts) (λ t k. let l : Form-F.List parts ≡ Form-F.Word t = sym (form.outs-List parts) ∙ ap out-Form k ∙ form.outs-Word t in absurd (cc)) e;
}) f
  where
    other : (g : Form) → ((t : Bytes) → g ≡ form.Word t → ⊥) → word_text g ≡ Some word → has_word word g ≡ true
    other g no_word e = let none : word_text g ≡ None = text_of_other g no_word in absurd (cc)

second_occurs : (f : Form) (word : Bytes) → second_word f ≡ Some word → has_word word f ≡ true
second_occurs f word = induction (λ f. second_word f ≡ Some word → has_word word f ≡ true) (record {
  word = λ text e. none (ap second_text (ap parts_layer (form.outs-Word text))) e;
  variable = λ text e. none (ap second_text (ap parts_layer (form.outs-Variable text))) e;
  row = λ text e. none (ap second_text (ap parts_layer (form.outs-Row text))) e;
  numeral = λ text e. none (ap second_text (ap parts_layer (form.outs-Numeral text))) e;
  quoted = λ text e. none (ap second_text (ap parts_layer (form.outs-Quoted text))) e;
  list = λ parts each e. has_word-List word parts ∙ in_parts parts (sym (ap second_text (ap parts_layer (form.outs-List parts))) ∙ e);
}) f
  where
    none : {o : Option Bytes} {b : Bool} → o ≡ None → o ≡ Some word → b ≡ true
    none e k = absurd (cc)

    in_parts : (parts : List Form) → second_text parts ≡ Some word → list_any (has_word word) parts ≡ true
    in_parts [] e = absurd (cc)
    in_parts (x ∷ []) e = absurd (cc)
    in_parts (x ∷ y ∷ parts) e = ap (λ b. has_word word x || (b || list_any (has_word word) parts)) (text_occurs y word e) ∙ or-true (has_word word x)

-- ---- plain words

denied : (b : Bool) → not b ≡ true → b ≡ false
denied true h = absurd (cc)
denied false h = refl

nothing : {X : Type 0} (o : Option X) → is_none o ≡ true → o ≡ None
nothing None e = refl
nothing (Some x) e = absurd (cc)

no_told : (ps : List Told) → nat_eq (length ps) 0 ≡ true → ps ≡ []
no_told [] e = refl
no_told (p ∷ ps) e = absurd (grind (arith, nat_tests))

plain_word : (forms : List Located) (word : Bytes) → is_snapshot_word forms word ≡ true → is_plain word ≡ true → IsPlainWord forms word
unfolding is_plain
plain_word forms word occurs plain =
    let e = both (not (is_among logical_words word)) (is_none (built_in word)) plain in
    record { occurs = occurs; not_logical = denied (is_among logical_words word) e.0; not_built_in = nothing (built_in word) e.1 }

plain_back : (forms : List Located) (word : Bytes) → IsPlainWord forms word → is_plain word ≡ true
unfolding is_plain
plain_back forms word p = join (not (is_among logical_words word)) (is_none (built_in word)) (ap not p.not_logical) (ap is_none p.not_built_in)

not_same : (a b : Bytes) → not (bytes_eq a b) ≡ true → a ≢ b
not_same a b h same = let e : bytes_eq a b ≡ true = (bytes_eq-Decides a b).1 same in let k : bytes_eq a b ≡ false = denied (bytes_eq a b) h in let t : true ≡ false = sym e ∙ k in absurd (cc)

apart : (a b : Bytes) → a ≢ b → not (bytes_eq a b) ≡ true
apart a b h = go (bytes_eq a b) refl
  where
    go : (c : Bool) → bytes_eq a b ≡ c → not c ≡ true
    go true e = absurd (h ((bytes_eq-Decides a b).0 e))
    go false e = refl

rebuilt : (d : Diagnostic) (code : ℕ) (place : Place) (other : Option Place) → d.code ≡ code → d.place ≡ place → d.other ≡ other → d ≡ record { code = code; place = place; term = d.term; other = other }
rebuilt d code place other is at has =
    ap (λ (c : ℕ). record { code = c; place = d.place; term = d.term; other = d.other }) is
    ∙ ap (λ (p : Place). record { code = code; place = p; term = d.term; other = d.other }) at
    ∙ ap (λ (o : Option Place). record { code = code; place = place; term = d.term; other = o }) has

-- ---- all that is wrong with words at the form

module _ (before : List Located) (located : Located) (after : List Located) (taxonomy : ToldTaxonomy) (tables : WordTables) (seen : List Bytes) (stands : StandsAmong before located after taxonomy tables seen) where
  abbrev forms : List Located
  forms = before ++ located ∷ after

  abbrev Fault : Bytes → Diagnostic → Type 0
  Fault = IsFault taxonomy tables located.place

  abbrev Wrong : Diagnostic → Type 0
  Wrong d = (d.place ≡ located.place) × IsOfWord forms d

  occurs_here : (word : Bytes) → has_word word located.form ≡ true → is_snapshot_word forms word ≡ true
  occurs_here word has =
      list_any-append (test word) before (located ∷ after)
      ∙ ap (λ b. is_snapshot_word before word || (b || is_snapshot_word after word)) (test_of word located stands.not_shown ∙ has) ∙ or-true (is_snapshot_word before word)

  first_by : (word : Bytes) → is_among seen word ≡ false → has_word word located.form ≡ true → first_with forms word ≡ Some located.place
  first_by word new has =
      first_here before after located word (sym (seen_before before seen stands.before_it word) ∙ new) (test_of word located stands.not_shown ∙ has)

  -- the form is the first with the word
  new_by : (d : Diagnostic) → d.place ≡ located.place → first_with forms d.term ≡ Some d.place → Fault d.term d → IsNew Fault seen (occurs_in located.form) d
  new_by d at first fault =
      let e = first_back before after located d.term stands.differ (first ∙ ap (λ (p : Place). Some p) at) in
      record {
        word = d.term;
        new = seen_before before seen stands.before_it d.term ∙ e.0;
        has = sym (test_of d.term located stands.not_shown) ∙ e.1;
        fault = fault;
      }

  parents_as : (word : Bytes) → parents taxonomy.links word ≡ parents (links forms) word
  parents_as word = ap (λ (t : ToldTaxonomy). parents t.links word) stands.told

  wrong_new : (d : Diagnostic) → IsNew Fault seen (occurs_in located.form) d → Wrong d
  wrong_new d i = go i.fault
    where
      occurs : is_snapshot_word forms i.word ≡ true
      occurs = occurs_here i.word i.has

      first : first_with forms i.word ≡ Some located.place
      first = first_by i.word i.new i.has

      go : Fault i.word d → Wrong d
      go (inl (lacks, is)) =
          let e = both (nat_eq (length (parents taxonomy.links i.word)) 0) (not (bytes_eq i.word (codes "Entity")) && is_plain i.word) lacks in
          let f = both (not (bytes_eq i.word (codes "Entity"))) (is_plain i.word) e.1 in
          subst Wrong (sym is) (
            refl,
            inl (
              refl,
              record {
                plain = plain_word forms i.word occurs f.1;
                not_entity = not_same i.word (codes "Entity") f.0;
                no_parent = sym (parents_as i.word) ∙ no_told (parents taxonomy.links i.word) e.0;
                first = first;
                alone = refl;
              },
            ),
          )
      go (inr (inl (lacks, is))) =
          let e = both (not (is_among tables.documented i.word)) (is_plain i.word) lacks in
          subst Wrong (sym is) (
            refl,
            inr (inl (
              refl,
              record {
                plain = plain_word forms i.word occurs e.1;
                undocumented = sym (both_ways (is_among tables.documented i.word) (list_any (documents i.word) forms) (stands.documented i.word).0 (stands.documented i.word).1) ∙ denied (is_among tables.documented i.word) e.0;
                first = first;
                alone = refl;
              },
            )),
          )
      go (inr (inr (lacks, is))) =
          let u = (stands.unstated i.word).0 lacks in
          subst Wrong (sym is) (
            refl,
            inr (inr (inr (
              refl,
              record {
                name = u.0;
                unstated = u.1;
                first = first;
                alone = refl;
              },
            ))),
          )

  wrong_disjoint : (d : Diagnostic) → IsDisjoint taxonomy located d → Wrong d
  wrong_disjoint d i = subst Wrong (sym i.is) (
    refl,
    inr (inr (inl (
      refl,
      record {
        plain = plain_word forms i.word (occurs_here i.word (second_occurs located.form i.word i.second)) i.plain;
        told = i.first.told;
        more = i.first.more;
        has_parent = sym (parents_as i.word) ∙ i.first.has_parent;
        at = sym i.first.at;
        by = i.by;
        disjoint = subst (λ (t : ToldTaxonomy). AreDisjointBy t i.word i.word i.by) stands.told i.disjoint;
        names = refl;
      },
    ))),
  )

  split_wrong : (d : Diagnostic) → Wrong d → IsNew Fault seen (occurs_in located.form) d ⊎ IsDisjoint taxonomy located d
  split_wrong d (at, inl (is, h)) =
      inl (new_by d at h.first (inl (
        join (nat_eq (length (parents taxonomy.links d.term)) 0) (not (bytes_eq d.term (codes "Entity")) && is_plain d.term) (ap (λ (ps : List Told). nat_eq (length ps) 0) (parents_as d.term ∙ h.no_parent))
            (join (not (bytes_eq d.term (codes "Entity"))) (is_plain d.term) (apart d.term (codes "Entity") h.not_entity) (plain_back forms d.term h.plain)),
        rebuilt d 1 located.place None is at h.alone,
      )))
  split_wrong d (at, inr (inl (is, h))) =
      inl (new_by d at h.first (inr (inl (
        join (not (is_among tables.documented d.term)) (is_plain d.term)
            (ap not (both_ways (is_among tables.documented d.term) (list_any (documents d.term) forms) (stands.documented d.term).0 (stands.documented d.term).1 ∙ h.undocumented)) (plain_back forms d.term h.plain),
        rebuilt d 2 located.place None is at h.alone,
      ))))
  split_wrong d (at, inr (inr (inl (is, h)))) =
      let t = first_teller forms d.term h.told h.more h.has_parent in
      let same : t.located ≡ located =
      same_form forms t.located located stands.differ t.among (Contains-append_right before (located ∷ after) located (zero, omega arith, refl)) (t.at ∙ sym h.at ∙ at) in
      inr (record {
        word = d.term;
        second = ap (λ (l : Located). second_word l.form) (sym same) ∙ t.second;
        plain = plain_back forms d.term h.plain;
        first = record { told = h.told; more = h.more; has_parent = parents_as d.term ∙ h.has_parent; at = sym h.at ∙ at };
        by = h.by;
        disjoint = subst (λ (t : ToldTaxonomy). AreDisjointBy t d.term d.term h.by) (sym stands.told) h.disjoint;
        is = rebuilt d 3 located.place (Some h.by) is at h.names;
      })
  split_wrong d (at, inr (inr (inr (is, h)))) =
      inl (new_by d at h.first (inr (inr ((stands.unstated d.term).1 (h.name, h.unstated), rebuilt d 11 located.place None is at h.alone))))

  pub all_faults : (xs ys zs : List Diagnostic) → Adds (IsNew (IsFault taxonomy tables located.place) seen (occurs_in located.form)) xs ys → Adds (IsDisjoint taxonomy located) ys zs
      → Adds (λ d. (d.place ≡ located.place) × IsOfWord (before ++ located ∷ after) d) xs zs
  all_faults xs ys zs first next = adds_then (IsNew Fault seen (occurs_in located.form)) (IsDisjoint taxonomy located) Wrong xs ys zs first next split_wrong wrong_new wrong_disjoint
