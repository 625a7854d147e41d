-- Where what forms tell stands.
use Rattle.std.proofs.Common.{◌≡◌, ℕ, ◌||◌, ◌&&◌, List, [], ◌∷◌, Bool, true, false, if◌then◌else◌, refl, sym, ap, ap₂, subst, ◌∙◌, inl, inr, nat_eq, arith}
use Rattle.std.specs.Prelude.{Option, Some, None, Contains, codes}
use Rattle.std.specs.List.{list_any}
use Rattle.std.specs.Str.{bytes_eq}
use Rattle.std.proofs.lemmas.List.Elements.{Contains-append_right}
use Rattle.std.proofs.lemmas.Slice.Eq.{bytes_eq-Decides}
use Rattle.kif_tree.specs.Clauses.{is_headed, heads_layer, is_word}
use Rattle.kif_tree.specs.declared.form.Form.{Form, out-Form}
use Rattle.kif_tree.specs.declared.form.Form.TheOpen.{Form-F}
use Rattle.kif_tree.specs.declared.place.Located.{Located}
use Rattle.kif_tree.specs.declared.place.Place.{Place}
use Rattle.kif_tree.specs.Terms.{Bytes}
use Rattle.taxonomy.specs.declared.told.ChainKind.{ChainKind}
use Rattle.taxonomy.specs.declared.told.ChainKind.TheVariants as kinds
use Rattle.taxonomy.specs.declared.told.Told.{Told}
use Rattle.taxonomy.specs.Chains.{parents}
use Rattle.taxonomy.specs.Disjoint.{AreDisjointBy}
use Rattle.taxonomy.specs.Told.{word_layer, word_text, text_before, word_texts, parts_layer, parts_of, told_words, kind_of, link_of_kind, link_of_words, told_link, Link, links, parts_a_whole, disjoint_of_words, told_disjoint, DisjointWords, told_taxonomy, argument_of, argument_of_parts, told_argument, ToldArgument, short_number, arguments}
use Rattle.taxonomy.proofs.ChainLaws.{contains_head, in_parents}
use Rattle.signatures.specs.Arities.{shown_heads}
use Rattle.signatures.specs.Relations.{is_shown}
use Rattle.signatures.specs.Types.{type_in, type_told, tells_subclass, own_types, AreTypes}
use Rattle.signatures.specs.declared.told.TypeTold.{TypeTold}
use Rattle.diagnose.specs.Order.{IsFormPlace}
use Rattle.diagnose.proofs.StandLaws.{IsOn, picked, told_by}

-- ---- told links aren't only shown

headed : (name head : Bytes) (more : List Bytes) (layer : Form-F Form) → word_texts (parts_layer layer) ≡ Some (head ∷ more) → heads_layer name layer ≡ bytes_eq name head
unfolding word_text
headed name head more (Form-F.Word text) e = absurd (cc)
headed name head more (Form-F.Variable text) e = absurd (cc)
headed name head more (Form-F.Row text) e = absurd (cc)
headed name head more (Form-F.Numeral text) e = absurd (cc)
headed name head more (Form-F.Quoted text) e = absurd (cc)
headed name head more (Form-F.List []) e = absurd (cc)
headed name head more (Form-F.List (part ∷ parts)) e = go (out-Form part) (word_texts parts) e
  where
    go : (layer : Form-F Form) (texts : Option (List Bytes)) → text_before (word_layer layer) texts ≡ Some (head ∷ more) → is_word name layer ≡ bytes_eq name head
    go (Form-F.Word text) (Some texts) e = let same : text ≡ head = cc in ap (bytes_eq name) same
    go (Form-F.Word text) None e = absurd (cc)
    go (Form-F.Variable text) (Some texts) e = absurd (cc)
    go (Form-F.Variable text) None e = absurd (cc)
    go (Form-F.Row text) (Some texts) e = absurd (cc)
    go (Form-F.Row text) None e = absurd (cc)
    go (Form-F.Numeral text) (Some texts) e = absurd (cc)
    go (Form-F.Numeral text) None e = absurd (cc)
    go (Form-F.Quoted text) (Some texts) e = absurd (cc)
    go (Form-F.Quoted text) None e = absurd (cc)
    go (Form-F.List parts) (Some texts) e = absurd (cc)
    go (Form-F.List parts) None e = absurd (cc)

headed_by : (name head : Bytes) (more : List Bytes) (f : Form) → told_words f ≡ Some (head ∷ more) → is_headed name f ≡ bytes_eq name head
unfolding is_headed parts_of
headed_by name head more f e = headed name head more (out-Form f) e

shown_by : (head : Bytes) (more : List Bytes) (f : Form) → told_words f ≡ Some (head ∷ more) → is_shown f ≡ list_any (λ name. bytes_eq name head) shown_heads
shown_by head more f e =
    ap₂ (λ a b. a || b) (headed_by (codes "documentation") head more f e)
    (ap₂ (λ a b. a || b) (headed_by (codes "termFormat") head more f e) (ap (λ a. a || false) (headed_by (codes "format") head more f e)))

not_shown_head : (head : Bytes) (kind : ChainKind) → kind_of head ≡ Some kind → list_any (λ name. bytes_eq name head) shown_heads ≡ false
not_shown_head head kind e = go (bytes_eq head (codes "instance")) refl (bytes_eq head (codes "subclass")) refl (bytes_eq head (codes "subrelation")) refl e
  where
    is : (word : Bytes) → bytes_eq head word ≡ true → list_any (λ name. bytes_eq name word) shown_heads ≡ false → list_any (λ name. bytes_eq name head) shown_heads ≡ false
    is word h known = ap (λ (w : Bytes). list_any (λ name. bytes_eq name w) shown_heads) ((bytes_eq-Decides head word).0 h) ∙ known

    go : (a : Bool) → bytes_eq head (codes "instance") ≡ a → (b : Bool) → bytes_eq head (codes "subclass") ≡ b → (c : Bool) → bytes_eq head (codes "subrelation") ≡ c
        → kind_of head ≡ Some kind → list_any (λ name. bytes_eq name head) shown_heads ≡ false
    go true h b i c j e = is (codes "instance") h refl
    go false h true i c j e = is (codes "subclass") i refl
    go false h false i true j e = is (codes "subrelation") j refl
    go false h false i false j e =
        let none : kind_of head ≡ None =
        ap (λ x. if x then Some kinds.Instance else if bytes_eq head (codes "subclass") then Some kinds.Class else if bytes_eq head (codes "subrelation") then Some kinds.Relation else None) h
        ∙ ap (λ x. if x then Some kinds.Class else if bytes_eq head (codes "subrelation") then Some kinds.Relation else None) i
        ∙ ap (λ x. if x then Some kinds.Relation else None) j in
        absurd (cc)

record LinkWords (located : Located) (link : Link) : Type 0 where
  head : Bytes
  low : Bytes
  high : Bytes
  words : told_words located.form ≡ Some (head ∷ low ∷ high ∷ [])
  kind : kind_of head ≡ Some link.kind
  at : link.place ≡ located.place

link_words : (located : Located) (link : Link) → told_link located ≡ Some link → LinkWords located link
link_words located link e = go (told_words located.form) refl e
  where
    by_kind : (head low high : Bytes) → told_words located.form ≡ Some (head ∷ low ∷ high ∷ []) → (kind : Option ChainKind) → kind_of head ≡ kind → link_of_kind low high located.place kind ≡ Some link → LinkWords located link
    by_kind head low high is (Some kind) k e = record {
      head = head;
      low = low;
      high = high;
      words = is;
      kind = k ∙ (let same : kind ≡ link.kind = cc in ap Some same);
      at = (let same : located.place ≡ link.place = cc in sym same);
    }
    by_kind head low high is None k e = absurd (cc)

    go : (words : Option (List Bytes)) → told_words located.form ≡ words → link_of_words located.place words ≡ Some link → LinkWords located link
    go None is e = absurd (cc)
    go (Some []) is e = absurd (cc)
    go (Some (a ∷ [])) is e = absurd (cc)
    go (Some (a ∷ b ∷ [])) is e = absurd (cc)
    go (Some (head ∷ low ∷ high ∷ [])) is e = by_kind head low high is (kind_of head) refl e
    go (Some (a ∷ b ∷ c ∷ d ∷ more)) is e = absurd (cc)

pub link_is_on : (forms : List Located) (link : Link) → Contains (links forms) link → IsOn forms link.place
link_is_on forms link h =
    let t = told_by told_link forms link h in
    let w = link_words t.located link t.told in
    record { located = t.located; among = t.among; at = sym w.at; not_shown = shown_by w.head (w.low ∷ w.high ∷ []) t.located.form w.words ∙ not_shown_head w.head link.kind w.kind }

pub parent_is_on : (forms : List Located) (word : Bytes) (told : Told) (more : List Told) → parents (links forms) word ≡ told ∷ more → IsOn forms told.place
parent_is_on forms word told more e =
    let found = in_parents (links forms) word told (subst (λ (ts : List Told). Contains ts told) (sym e) (contains_head told more)) in
    subst (IsOn forms) (ap (λ (t : Told). t.place) found.3) (link_is_on forms found.0 found.1)

-- ---- the places of disjoint words and of types

disjoint_place : (located : Located) (form : DisjointWords) → told_disjoint located ≡ Some form → form.place ≡ located.place
disjoint_place located form e = go (told_words located.form) e
  where
    at : (ws : List Bytes) (b : Bool) → (if b then Some (record { words = ws; place = located.place }) else None) ≡ Some form → form.place ≡ located.place
    at ws true e = let same : located.place ≡ form.place = cc in sym same
    at ws false e = absurd (cc)

    go : (words : Option (List Bytes)) → disjoint_of_words located.place words ≡ Some form → form.place ≡ located.place
    go None e = absurd (cc)
    go (Some []) e = absurd (cc)
    go (Some (a ∷ [])) e = absurd (cc)
    go (Some (a ∷ b ∷ [])) e = absurd (cc)
    go (Some (head ∷ one ∷ other ∷ [])) e = at (one ∷ other ∷ []) (bytes_eq head (codes "disjoint")) e
    go (Some (head ∷ whole ∷ one ∷ other ∷ more)) e = at (one ∷ other ∷ more) (parts_a_whole head) e

pub disjoint_known : (forms : List Located) (first second : Bytes) (place : Place) → AreDisjointBy (told_taxonomy forms) first second place → IsFormPlace forms (Some place)
disjoint_known forms first second place by =
    let t = told_by told_disjoint forms by.form (subst (λ (ds : List DisjointWords). Contains ds by.form) (sym by.stands) (Contains-append_right by.before (by.form ∷ by.after) by.form (contains_head by.form by.after))) in
    (t.located, t.among, sym (disjoint_place t.located by.form t.told) ∙ by.at_place)

argument_place : (located : Located) (told : ToldArgument) → told_argument located ≡ Some told → told.place ≡ located.place
argument_place located told e = go (parts_of located.form) e
  where
    at : (h w c : Bytes) (n : ℕ) (b : Bool) → (if b then None else Some (record { head = h; word = w; number = n; class = c; place = located.place })) ≡ Some told → told.place ≡ located.place
    at h w c n true e = absurd (cc)
    at h w c n false e = let same : located.place ≡ told.place = cc in sym same

    by : (words : Option (List Bytes)) (number : Option ℕ) → argument_of located.place words number ≡ Some told → told.place ≡ located.place
    by None None e = absurd (cc)
    by None (Some n) e = absurd (cc)
    by (Some []) None e = absurd (cc)
    by (Some []) (Some n) e = absurd (cc)
    by (Some (a ∷ [])) None e = absurd (cc)
    by (Some (a ∷ [])) (Some n) e = absurd (cc)
    by (Some (a ∷ b ∷ [])) None e = absurd (cc)
    by (Some (a ∷ b ∷ [])) (Some n) e = absurd (cc)
    by (Some (h ∷ w ∷ c ∷ [])) None e = absurd (cc)
    by (Some (h ∷ w ∷ c ∷ [])) (Some n) e = at h w c n (nat_eq n 0) e
    by (Some (a ∷ b ∷ c ∷ d ∷ more)) None e = absurd (cc)
    by (Some (a ∷ b ∷ c ∷ d ∷ more)) (Some n) e = absurd (cc)

    go : (parts : List Form) → argument_of_parts located.place parts ≡ Some told → told.place ≡ located.place
    go [] e = absurd (cc)
    go (a ∷ []) e = absurd (cc)
    go (a ∷ b ∷ []) e = absurd (cc)
    go (a ∷ b ∷ c ∷ []) e = absurd (cc)
    go (head ∷ word ∷ number ∷ class ∷ []) e = by (word_texts (head ∷ word ∷ class ∷ [])) (short_number number) e
    go (a ∷ b ∷ c ∷ d ∷ x ∷ more) e = absurd (cc)

type_place : (word : Bytes) (number : ℕ) (told : ToldArgument) (type : TypeTold) → type_in word number told ≡ Some type → type.place ≡ told.place
type_place word number told type e = go (bytes_eq told.word word && nat_eq told.number number) (tells_subclass (codes "domain") (codes "domainSubclass") told.head) e
  where
    go : (b : Bool) (s : Option Bool) → (if b then type_told told.class told.place s else None) ≡ Some type → type.place ≡ told.place
    go true (Some s) e = let same : told.place ≡ type.place = cc in sym same
    go true None e = absurd (cc)
    go false s e = absurd (cc)

own_known : (forms : List Located) (word : Bytes) (number : ℕ) (type : TypeTold) → Contains (own_types forms word number) type → IsFormPlace forms (Some type.place)
own_known forms word number type h =
    let t = picked (type_in word number) (arguments forms) type h in
    let u = told_by told_argument forms t.0 t.1 in
    (u.located, u.among, sym (argument_place u.located t.0 u.told) ∙ sym (type_place word number t.0 type t.2))

pub type_known : (forms : List Located) (word : Bytes) (number : ℕ) (types : List TypeTold) (type : TypeTold) → AreTypes forms word number types → Contains types type → IsFormPlace forms (Some type.place)
type_known forms word number types type (inl (has, is)) h = own_known forms word number type (subst (λ (ts : List TypeTold). Contains ts type) is h)
type_known forms word number types type (inr (none, inl inherited)) h = own_known forms inherited.near number type (subst (λ (ts : List TypeTold). Contains ts type) inherited.own h)
type_known forms word number types type (inr (none, inr none_at_all)) h = let (k, lt, is) = subst (λ (ts : List TypeTold). Contains ts type) none_at_all.is h in absurd (omega (arith, lt))
