-- Own arities and those that are inherited.
use Rattle.std.proofs.Common.{◌≡◌, ℕ, ◌+◌, ◌<◌, ◌⊎◌, List, [], ◌∷◌, ◌++◌, length, get_or, take, Bool, true, false, refl, sym, ap, subst, ◌∙◌, inl, inr}
use Rattle.std.specs.Prelude.{Option, Some, None, MatchOption, unwrap_or, ◌&&◌, ◌||◌, ◌↔◌, IsTrue, not, if◌then◌else◌, codes}
use Rattle.std.specs.HashMap.{HashMap}
use Rattle.std.specs.List.{filter_map, cons_option}
use Rattle.std.proofs.lemmas.List.{take_more}
use Rattle.std.proofs.lemmas.List.Elements.{filter_map-append}
use Rattle.kif_tree.specs.Terms.{Bytes}
use Rattle.kif_tree.specs.Shape.{first_of}
use Rattle.kif_tree.specs.declared.place.Located.{Located}
use Rattle.taxonomy.specs.Told.{ToldNumber, told_number, numbers}
use Rattle.signatures.specs.declared.told.Arity.{Arity}
use Rattle.std.specs.Str.{bytes_eq}
use Rattle.std.proofs.lemmas.Slice.Eq.{bytes_eq-Decides}
use Rattle.sigma_base.specs.Lists.{Each, each_map}
use Rattle.kif_tree.specs.Shape.{is_among}
use Rattle.taxonomy.specs.declared.told.ChainKind.TheVariants as kinds
use Rattle.taxonomy.specs.Chains.{Chain}
use Rattle.taxonomy.specs.Told.{Link, links}
use Rattle.signatures.specs.declared.inherited.Inherited.{Inherited}
use Rattle.signatures.specs.declared.told.Arity.TheVariants.{Exactly, Unstated}
use Rattle.signatures.specs.Arities.{ClassArity, gives, built_in, valence_in, told_valence, arity_classes, IsByClass, OrElse, IsOwnArity, HasOwnArity, IsInheritedArity, IsUnstated, IsArity}
use Rattle.signatures.specs.declared.below.Below.{Below}
use Rattle.signatures.specs.Below.{is_arity_class, may_lead, IsOpen, word_by_valence, arity_word}
use Rattle.signatures.specs.Marks.{has}
use Rattle.signatures.specs.Layers.{Among, near_of}
use Rattle.signatures.specs.Nearest.{IsNearest, NoneReached}
use Rattle.signatures.specs.Tables.{arity_by}
use Rattle.signatures.proofs.WordLaws.{among_here, among_later, among_left, among_right, each_among}
use Rattle.signatures.proofs.SubjectLaws.{instance_among, reached_among}
use Rattle.signatures.specs.Inherited.{first_found, find_near, value_in, Inherits}
use Rattle.signatures.specs.OwnArities.{valence_of, AddsValence, AreValences, NeedsNone, AreOwn, AreOwnArities}
use Rattle.signatures.specs.WordTables.{Key, find, Has}

-- ---- valences

first_append : {X : Type 0} (xs ys : List X) → first_of (xs ++ ys) ≡ first_found (first_of xs) (first_of ys)
first_append [] ys = refl
first_append (x ∷ xs) ys = refl

one_valence : (word : Bytes) (o : Option ToldNumber) → first_of (filter_map (valence_in word) (cons_option o [])) ≡ valence_of word o
one_valence word None = refl
one_valence word (Some told) = go (valence_in word told)
  where
    go : (o : Option Arity) → first_of (cons_option o []) ≡ o
    go None = refl
    go (Some arity) = refl

pub valences_more : {S : Type 0} → (forms : List Located) (i : ℕ) (located : Located) (old new : HashMap Key Arity S) → i < length forms → located ≡ get_or forms i located → AreValences (take i forms) old → AddsValence old new located
    → AreValences (take (i + 1) forms) new
valences_more forms i located old new lt is h adds = λ word.
    adds word ∙ ap (λ (o : Option Arity). first_found o (valence_of word (told_number located))) (h word)
    ∙ sym
    (ap (λ (fs : List Located). told_valence fs word) (take_more forms i located lt)
    ∙ ap (λ (ns : List ToldNumber). first_of (filter_map (valence_in word) ns)) (filter_map-append told_number (take i forms) (get_or forms i located ∷ []))
    ∙ ap first_of (filter_map-append (valence_in word) (numbers (take i forms)) (numbers (get_or forms i located ∷ [])))
    ∙ first_append (filter_map (valence_in word) (numbers (take i forms))) (filter_map (valence_in word) (numbers (get_or forms i located ∷ [])))
    ∙ ap (λ (o : Option Arity). first_found (told_valence (take i forms) word) o) (one_valence word (told_number (get_or forms i located)))
    ∙ ap (λ (l : Located). first_found (told_valence (take i forms) word) (valence_of word (told_number l))) (sym is))

-- ---- own arities

or_else_none : (o : Option Arity) (Next : Option Arity → Type 0) (given : Option Arity) → None ≡ o → Next given → OrElse o Next given
or_else_none o Next given e h = subst (λ (x : Option Arity). OrElse x Next given) e h

or_else_some : (o : Option Arity) (Next : Option Arity → Type 0) (arity : Arity) → Some arity ≡ o → OrElse o Next (Some arity)
or_else_some o Next arity e = subst (λ (x : Option Arity). OrElse x Next (Some arity)) e refl

pub own_by_class : (forms : List Located) (ls : List Link) (word : Bytes) (given : Option Arity) → ls ≡ links forms → None ≡ built_in word → None ≡ told_valence forms word → IsByClass ls word arity_classes given
    → IsOwnArity forms word given
own_by_class forms ls word given same no_word no_valence h =
    or_else_none (built_in word) (OrElse (told_valence forms word) (IsByClass (links forms) word arity_classes)) given no_word
    (or_else_none (told_valence forms word) (IsByClass (links forms) word arity_classes) given no_valence (subst (λ (l : List Link). IsByClass l word arity_classes given) same h))

or_else_one : (o : Option Arity) (Next : Option Arity → Type 0) (a b : Option Arity) → (Next a → Next b → a ≡ b) → OrElse o Next a → OrElse o Next b → a ≡ b
or_else_one (Some arity) Next a b more h k = h ∙ sym k
or_else_one None Next a b more h k = more h k

by_class_one : (ls : List Link) (word : Bytes) (classes : List ClassArity) (a b : Option Arity) → IsByClass ls word classes a → IsByClass ls word classes b → a ≡ b
by_class_one ls word [] a b h k = h ∙ sym k
by_class_one ls word (entry ∷ classes) a b (inl h) (inl k) = h.1 ∙ sym k.1
by_class_one ls word (entry ∷ classes) a b (inl h) (inr k) = absurd (k.0 h.0)
by_class_one ls word (entry ∷ classes) a b (inr h) (inl k) = absurd (h.0 k.0)
by_class_one ls word (entry ∷ classes) a b (inr h) (inr k) = by_class_one ls word classes a b h.1 k.1

-- a word has one own arity at most
pub own_one : (forms : List Located) (word : Bytes) (a b : Option Arity) → IsOwnArity forms word a → IsOwnArity forms word b → a ≡ b
own_one forms word a b =
    or_else_one (built_in word) (OrElse (told_valence forms word) (IsByClass (links forms) word arity_classes)) a b
    (or_else_one (told_valence forms word) (IsByClass (links forms) word arity_classes) a b (by_class_one (links forms) word arity_classes a b))

-- ---- classes one by one

pub by_found : (ls : List Link) (word : Bytes) (classes more : List ClassArity) (arity : Arity) → IsByClass ls word classes (Some arity) → IsByClass ls word (classes ++ more) (Some arity)
by_found ls word [] more arity h = absurd (cc)
by_found ls word (entry ∷ classes) more arity (inl h) = inl h
by_found ls word (entry ∷ classes) more arity (inr h) = inr (h.0, by_found ls word classes more arity h.1)

pub by_next : (ls : List Link) (word : Bytes) (classes more : List ClassArity) (given : Option Arity) → IsByClass ls word classes None → IsByClass ls word more given → IsByClass ls word (classes ++ more) given
by_next ls word [] more given h k = k
by_next ls word (entry ∷ classes) more given (inl h) k = let no_way : None ≡ Some entry.arity = h.1 in absurd (cc)
by_next ls word (entry ∷ classes) more given (inr h) k = inr (h.0, by_next ls word classes more given h.1 k)

-- the class is the next one
pub by_above : (ls : List Link) (word : Bytes) (classes : List ClassArity) (class : Bytes) (arity : Arity) (found : Option Arity) (b : Bool) → found ≡ None → (IsTrue b ↔ Chain ls kinds.Instance word class) → b ≡ true → IsByClass ls word classes found
    → IsByClass ls word (classes ++ gives class arity ∷ []) (Some arity)
by_above ls word classes class arity found b none above so h =
    by_next ls word classes (gives class arity ∷ []) (Some arity) (subst (IsByClass ls word classes) none h) (inl (above.0 so, refl))

pub by_none : (ls : List Link) (word : Bytes) (classes : List ClassArity) (class : Bytes) (arity : Arity) (found : Option Arity) (b : Bool) → found ≡ None → (IsTrue b ↔ Chain ls kinds.Instance word class) → b ≡ false → IsByClass ls word classes found
    → IsByClass ls word (classes ++ gives class arity ∷ []) None
by_none ls word classes class arity found b none above not_so h =
    by_next ls word classes (gives class arity ∷ []) None (subst (IsByClass ls word classes) none h) (inr ((λ chain. let no_way : true ≡ false = sym (above.1 chain) ∙ not_so in absurd (cc)), refl))

-- ---- words that nothing tells an arity

both : (a b : Bool) → (a && b) ≡ true → (a ≡ true) × (b ≡ true)
both true b h = (refl, h)
both false b h = absurd (cc)

kept_among : (o : Option Bytes) (words : List Bytes) (word : Bytes) → Among words word → Among (cons_option o words) word
kept_among None words word h = h
kept_among (Some first) words word h = among_later words word first h

valence_word : (told : ToldNumber) (word : Bytes) (b : Bool) → (bytes_eq told.head (codes "valence") && bytes_eq told.word word) ≡ b → b ≡ true → word_by_valence (Some told) ≡ Some word
valence_word told word b e h =
    let two = both (bytes_eq told.head (codes "valence")) (bytes_eq told.word word) (e ∙ h) in
    ap (λ d. if d then Some told.word else None) two.0 ∙ ap (λ (w : Bytes). Some w) ((bytes_eq-Decides told.word word).0 two.1)

valence_among : (forms : List Located) (below : Below) (word : Bytes) (arity : Arity) → told_valence forms word ≡ Some arity → Among (filter_map (arity_word below false) forms) word
valence_among [] below word arity e = absurd (cc)
valence_among (located ∷ forms) below word arity e = go (told_number located) refl e (valence_among forms below word arity)
  where
    kept : Among (filter_map (arity_word below false) forms) word → Among (filter_map (arity_word below false) (located ∷ forms)) word
    kept h = kept_among (arity_word below false located) (filter_map (arity_word below false) forms) word h

    by_test : (told : ToldNumber) → told_number located ≡ Some told → (b : Bool) → (bytes_eq told.head (codes "valence") && bytes_eq told.word word) ≡ b
        → first_of (cons_option (if b then Some (Exactly told.number) else None) (filter_map (valence_in word) (numbers forms))) ≡ Some arity
        → (told_valence forms word ≡ Some arity → Among (filter_map (arity_word below false) forms) word) → Among (filter_map (arity_word below false) (located ∷ forms)) word
    by_test told is true e k more =
        subst (λ (o : Option Bytes). Among (cons_option o (filter_map (arity_word below false) forms)) word) (sym (ap word_by_valence is ∙ valence_word told word true e refl))
        (among_here (filter_map (arity_word below false) forms) word word refl)
    by_test told is false e k more = kept (more k)

    go : (o : Option ToldNumber) → told_number located ≡ o → first_of (filter_map (valence_in word) (cons_option o (numbers forms))) ≡ Some arity → (told_valence forms word ≡ Some arity → Among (filter_map (arity_word below false) forms) word)
        → Among (filter_map (arity_word below false) (located ∷ forms)) word
    go None is k more = kept (more k)
    go (Some told) is k more = by_test told is (bytes_eq told.head (codes "valence") && bytes_eq told.word word) refl k more

no_class : (ls : List Link) (word : Bytes) (classes : List ClassArity) → Each (λ (entry : ClassArity). Chain ls kinds.Instance word entry.class → ⊥) classes → IsByClass ls word classes None
no_class ls word [] h = refl
no_class ls word (entry ∷ classes) h = inr (h.0, no_class ls word classes h.1)

at_class : (b c d : Bool) → c ≡ true → (b || (c || d)) ≡ true
at_class true c d h = refl
at_class false true d h = refl
at_class false false d h = absurd (cc)

-- instances of each of the classes that give an arity may have one
classes_lead : (below : Below) → Each (λ (entry : ClassArity). may_lead below entry.class ≡ true) arity_classes
classes_lead below =
    (at (codes "UnaryFunction") refl, (at (codes "BinaryFunction") refl, (at (codes "TernaryFunction") refl, (at (codes "QuaternaryFunction") refl, (at (codes "BinaryPredicate") refl, (at (codes "BinaryRelation") refl, (at (codes "TernaryPredicate") refl, (at (codes "TernaryRelation") refl, (at (codes "QuaternaryPredicate") refl, (at (codes "QuaternaryRelation") refl, (at (codes "QuintaryPredicate") refl, (at (codes "QuintaryRelation") refl, (at (codes "VariableArityRelation") refl, tt)))))))))))))
  where
    at : (word : Bytes) → is_arity_class word ≡ true → may_lead below word ≡ true
    at word h = at_class (not below.is_whole) (is_arity_class word) (has below.words word) h

untold : (forms : List Located) (below : Below) → IsOpen forms below → (word : Bytes) → None ≡ built_in word → is_among (filter_map (arity_word below true) forms) word ≡ false → is_among (filter_map (arity_word below false) forms) word ≡ false
    → IsOwnArity forms word None
untold forms below open_all word no_word no_link no_number =
    own_by_class forms (links forms) word None refl no_word (by_valence (told_valence forms word) refl)
    (no_class (links forms) word arity_classes
    (each_map (λ (entry : ClassArity). may_lead below entry.class ≡ true) (λ (entry : ClassArity). Chain (links forms) kinds.Instance word entry.class → ⊥)
    (λ entry h chain. outside true no_link (instance_among forms below open_all word entry.class h chain)) arity_classes (classes_lead below)))
  where
    outside : (is_link : Bool) → is_among (filter_map (arity_word below is_link) forms) word ≡ false → Among (filter_map (arity_word below is_link) forms) word → ⊥
    outside is_link out h = let no_way : true ≡ false = sym h ∙ out in absurd (cc)

    by_valence : (o : Option Arity) → told_valence forms word ≡ o → None ≡ o
    by_valence None e = refl
    by_valence (Some arity) e = absurd (outside false no_number (valence_among forms below word arity e))

pub own_arities_by : {S : Type 0} (forms : List Located) (below : Below) (table : HashMap Key Arity S) → IsOpen forms below → AreOwn forms (filter_map (arity_word below true) forms ++ filter_map (arity_word below false) forms) table
    → AreOwnArities forms table
own_arities_by forms below table open_all own = record {
  right = own.right;
  reached = λ low word chain e. gone word (among_left links_of numbers_of word (reached_among forms below low word chain)) e;
  others = λ word no_word e. by_list word no_word e (is_among links_of word) refl (is_among numbers_of word) refl;
}
  where
    links_of : List Bytes
    links_of = filter_map (arity_word below true) forms

    numbers_of : List Bytes
    numbers_of = filter_map (arity_word below false) forms

    gone : (word : Bytes) → Among (links_of ++ numbers_of) word → find table word ≡ None → NeedsNone forms word
    gone word h e = each_among (λ w. find table w ≡ None → NeedsNone forms w) (links_of ++ numbers_of) word own.all h e

    by_list : (word : Bytes) → built_in word ≡ None → find table word ≡ None → (b : Bool) → is_among links_of word ≡ b → (d : Bool) → is_among numbers_of word ≡ d → NeedsNone forms word
    by_list word no_word e true h d k = gone word (among_left links_of numbers_of word h) e
    by_list word no_word e false h true k = gone word (among_right links_of numbers_of word k) e
    by_list word no_word e false h false k = untold forms below open_all word (sym no_word) h k

-- ---- the nearest word, where having something is the same for the words that are reached

pub nearest_as : (ls : List Link) (Has Other : Bytes → Type 0) (word near : Bytes) → IsNearest ls Has word near → ((w : Bytes) → Chain ls kinds.Relation word w → Other w → Has w) → (Has near → Other near) → IsNearest ls Other word near
nearest_as ls Has Other word near n back there = record {
  has = there n.has;
  distance = n.distance;
  reached = n.reached;
  no_nearer = λ other k has d. n.no_nearer other k (back other d.shortest has) d;
  first = λ other has d. n.first other (back other d.shortest has) d;
}

-- ---- arities

pub is_arity : (forms : List Located) (table : Inherited Arity) → AreOwnArities forms table.own → Inherits (links forms) table → (word : Bytes) → IsArity forms word (arity_by table word)
is_arity forms table own inherits word = by_word (built_in word) refl
  where
    has_own : (w : Bytes) → Chain (links forms) kinds.Relation word w → HasOwnArity forms w → Has table.own w
    has_own w chain has = go (find table.own w) refl
      where
        go : (o : Option Arity) → find table.own w ≡ o → Has table.own w
        go (Some arity) e = (arity, e)
        go None e =
            let no_way : Some has.0 ≡ None = own_one forms w (Some has.0) None has.1 (own.reached word w chain e) in
            absurd (cc)

    own_has : (w : Bytes) → Has table.own w → HasOwnArity forms w
    own_has w has = (has.0, own.right w has.0 has.1)

    inherited : (o : Option Bytes) → MatchOption o (NoneReached (links forms) (Has table.own) word) (IsNearest (links forms) (Has table.own) word)
        → IsInheritedArity forms word (unwrap_or (find_near table.own o) Unstated) ⊎ IsUnstated forms word (unwrap_or (find_near table.own o) Unstated)
    inherited (Some near) n = inl (subst (λ (o : Option Arity). IsInheritedArity forms word (unwrap_or o Unstated)) (sym n.has.1)
        (record { near = near; nearest = nearest_as (links forms) (Has table.own) (HasOwnArity forms) word near n has_own (own_has near); own = own.right near n.has.0 n.has.1 }))
    inherited None n = inr (record { none = λ other has chain. n other (has_own other chain has) chain; unstated = refl })

    by_own : None ≡ built_in word → (o : Option Arity) → find table.own word ≡ o → IsArity forms word (unwrap_or (first_found o (find_near table.own (near_of (find table.nearest word)))) Unstated)
    by_own no_word (Some arity) e = inl (own.right word arity e)
    by_own no_word None e = inr (own.others word (sym no_word) e, inherited (near_of (find table.nearest word)) (inherits word e))

    by_word : (o : Option Arity) → built_in word ≡ o → IsArity forms word (unwrap_or (first_found o (value_in table word)) Unstated)
    by_word (Some arity) e = inl (or_else_some (built_in word) (OrElse (told_valence forms word) (IsByClass (links forms) word arity_classes)) arity (sym e))
    by_word None e = by_own (sym e) (find table.own word) refl
