-- Numbers that stand for words while words are added.
use Rattle.std.proofs.Common.{◌≡◌, ℕ, ◌<◌, ◌≤◌, List, [], ◌∷◌, ◌++◌, map, length, refl, sym, ap, ap₂, subst, ◌∙◌, arith}
use Rattle.std.specs.Prelude.{Option, Some, None}
use Rattle.std.specs.List.{filter_map, cons_option}
use Rattle.std.proofs.lemmas.List.{append_assoc, append-nil, length-append, get_or_append_left, map-append}
use Rattle.kif_tree.specs.Terms.{Bytes}
use Rattle.kif_tree.specs.declared.form.Form.{Form}
use Rattle.kif_tree.specs.declared.place.Located.{Located}
use Rattle.kif_tree.specs.declared.place.Place.{Place}
use Rattle.sigma_base.specs.Lists.{each_append, each_map, map_each}
use Rattle.taxonomy.specs.declared.numbered.NumberedLink.{NumberedLink}
use Rattle.taxonomy.specs.declared.numbered.NumberedGroup.{NumberedGroup}
use Rattle.taxonomy.specs.declared.told.ChainKind.{ChainKind}
use Rattle.taxonomy.specs.Names.{Extends, Adds}
use Rattle.taxonomy.specs.Numbered.{word, named, named_group, AreBelow, LinksWithin, GroupsWithin, AreLinks, AreWords, AreGroups, AddsLink, AddsWord, AddsGroup}
use Rattle.taxonomy.specs.Told.{told_link, told_disjoint, word_text, word_texts, text_before}
use Rattle.taxonomy.specs.Forms.{IsDisjointForm}

-- ---- lists that grow

pub extends_same : (words : List Bytes) → Extends words words
extends_same words = record { more = []; is = sym (append-nil words) }

pub extends_twice : (a b c : List Bytes) → Extends a b → Extends b c → Extends a c
extends_twice a b c h k = record { more = h.more ++ k.more; is = k.is ∙ ap (λ (x : List Bytes). x ++ k.more) h.is ∙ append_assoc a h.more k.more }

pub extends_length : (old new : List Bytes) → Extends old new → length old ≤ length new
extends_length old new h = omega (arith, ap (λ (x : List Bytes). length x) h.is, length-append old h.more)

pub word_grows : (old new : List Bytes) (number : ℕ) → Extends old new → number < length old → word new number ≡ word old number
word_grows old new number h lt = ap (λ (x : List Bytes). word x number) h.is ∙ get_or_append_left old h.more [] number lt

filter_none : {X Y : Type 0} (h : X → Option Y) (xs : List X) (x : X) → None ≡ h x → filter_map h xs ≡ filter_map h (xs ++ x ∷ [])
filter_none {Y = Y} h [] x e = ap (λ (o : Option Y). cons_option o []) e
filter_none h (y ∷ xs) x e = ap (cons_option (h y)) (filter_none h xs x e)

cons_last : {Y : Type 0} (o : Option Y) (ys : List Y) (y : Y) → cons_option o ys ++ y ∷ [] ≡ cons_option o (ys ++ y ∷ [])
cons_last None ys y = refl
cons_last (Some z) ys y = refl

filter_some : {X Y : Type 0} (h : X → Option Y) (xs : List X) (x : X) (y : Y) → Some y ≡ h x → filter_map h xs ++ y ∷ [] ≡ filter_map h (xs ++ x ∷ [])
filter_some {Y = Y} h [] x y e = ap (λ (o : Option Y). cons_option o []) e
filter_some h (z ∷ xs) x y e = cons_last (h z) (filter_map h xs) y ∙ ap (cons_option (h z)) (filter_some h xs x y e)

-- ---- links

pub links_grow : (old new : List Bytes) (links : List NumberedLink) → Extends old new → LinksWithin (length old) links → LinksWithin (length new) links
links_grow old new links h within =
    each_map (λ (l : NumberedLink). (l.low < length old) × (l.high < length old)) (λ (l : NumberedLink). (l.low < length new) × (l.high < length new))
    (λ l w. (omega (arith, w.0, extends_length old new h), omega (arith, w.1, extends_length old new h))) links within

named_grows : (old new : List Bytes) (link : NumberedLink) → Extends old new → (link.low < length old) × (link.high < length old) → named new link ≡ named old link
named_grows old new link h w =
    ap₂ (λ (x y : Bytes). record { kind = link.kind; low = x; high = y; place = link.place }) (word_grows old new link.low h w.0) (word_grows old new link.high h w.1)

pub all_named_grow : (old new : List Bytes) (links : List NumberedLink) → Extends old new → LinksWithin (length old) links → map (named new) links ≡ map (named old) links
all_named_grow old new links h within =
    map_each (named new) (named old) links (each_map (λ (l : NumberedLink). (l.low < length old) × (l.high < length old)) (λ (l : NumberedLink). named new l ≡ named old l) (λ l w. named_grows old new l h w) links within)

pub are_links_grow : (forms : List Located) (old new : List Bytes) (links : List NumberedLink) → Extends old new → AreLinks forms old links → AreLinks forms new links
are_links_grow forms old new links h are = record { within = links_grow old new links h are.within; are = all_named_grow old new links h are.within ∙ are.are }

pub no_more_links : (form : Located) (words : List Bytes) (links : List NumberedLink) → None ≡ told_link form → AddsLink form words words links links
no_more_links form words links none = record {
  extends = extends_same words;
  adds = λ forms are. record { within = are.within; are = are.are ∙ filter_none told_link forms form none };
}

pub more_links : (form : Located) (old mid new : List Bytes) (links longer : List NumberedLink) (kind : ChainKind) (low high : ℕ) (place : Place) (low_text high_text low_bytes high_bytes : Bytes)
    → Adds old mid low_bytes low → Adds mid new high_bytes high → low_bytes ≡ low_text → high_bytes ≡ high_text
    → longer ≡ links ++ record { kind = kind; low = low; high = high; place = place } ∷ []
    → Some (record { kind = kind; low = low_text; high = high_text; place = place }) ≡ told_link form → AddsLink form old new links longer
more_links form old mid new links longer kind low high place low_text high_text low_bytes high_bytes add_low add_high low_is high_is is told = record {
  extends = extends_twice old mid new add_low.extends add_high.extends;
  adds = λ forms are. subst (AreLinks (forms ++ form ∷ []) new) (sym is) (record {
    within = each_append (λ (l : NumberedLink). (l.low < length new) × (l.high < length new)) links (link ∷ []) (links_grow old new links all are.within)
        ((omega (arith, add_low.within, extends_length mid new add_high.extends), add_high.within), tt);
    are = map-append (named new) links (link ∷ []) ∙ ap₂ ◌++◌ (all_named_grow old new links all are.within ∙ are.are) (ap (λ l. l ∷ []) shown)
        ∙ filter_some told_link forms form (record { kind = kind; low = low_text; high = high_text; place = place }) told;
  });
}
  where
    all : Extends old new
    all = extends_twice old mid new add_low.extends add_high.extends

    link : NumberedLink
    link = record { kind = kind; low = low; high = high; place = place }

    shown : named new link ≡ record { kind = kind; low = low_text; high = high_text; place = place }
    shown = ap₂ (λ (x y : Bytes). record { kind = kind; low = x; high = y; place = place }) (word_grows mid new low add_high.extends add_low.within ∙ add_low.stands ∙ low_is) (add_high.stands ∙ high_is)

-- ---- words of a group

pub below_grow : (old new : List Bytes) (numbers : List ℕ) → Extends old new → AreBelow (length old) numbers → AreBelow (length new) numbers
below_grow old new numbers h within = each_map (λ (n : ℕ). n < length old) (λ (n : ℕ). n < length new) (λ n lt. omega (arith, lt, extends_length old new h)) numbers within

words_grow : (old new : List Bytes) (numbers : List ℕ) → Extends old new → AreBelow (length old) numbers → map (word new) numbers ≡ map (word old) numbers
words_grow old new numbers h within = map_each (word new) (word old) numbers (each_map (λ (n : ℕ). n < length old) (λ (n : ℕ). word new n ≡ word old n) (λ n lt. word_grows old new n h lt) numbers within)

pub no_more_words : (part : Form) (words : List Bytes) (numbers : List ℕ) → None ≡ word_text part → AddsWord part words words numbers numbers
no_more_words part words numbers none = record {
  extends = extends_same words;
  adds = λ parts are. record { within = are.within; are = are.are ∙ filter_none word_text parts part none };
}

pub more_words : (part : Form) (old new : List Bytes) (numbers longer : List ℕ) (number : ℕ) (text bytes : Bytes) → Adds old new bytes number → bytes ≡ text → longer ≡ numbers ++ number ∷ [] → Some text ≡ word_text part
    → AddsWord part old new numbers longer
more_words part old new numbers longer number text bytes add same is told = record {
  extends = add.extends;
  adds = λ parts are. subst (AreWords (parts ++ part ∷ []) new) (sym is) (record {
    within = each_append (λ (n : ℕ). n < length new) numbers (number ∷ []) (below_grow old new numbers add.extends are.within) (add.within, tt);
    are = map-append (word new) numbers (number ∷ []) ∙ ap₂ ◌++◌ (words_grow old new numbers add.extends are.within ∙ are.are) (ap (λ (w : Bytes). w ∷ []) (add.stands ∙ same))
        ∙ filter_some word_text parts part text told;
  });
}

-- the words among parts that are all words
words_of_texts : (parts : List Form) (texts : List Bytes) → word_texts parts ≡ Some texts → filter_map word_text parts ≡ texts
words_of_texts [] texts e = cc
words_of_texts (part ∷ parts) texts e = go (word_text part) (word_texts parts) refl (words_of_texts parts) e
  where
    go : (o : Option Bytes) (p : Option (List Bytes)) → word_texts parts ≡ p → ((more : List Bytes) → word_texts parts ≡ Some more → filter_map word_text parts ≡ more) → text_before o p ≡ Some texts
        → cons_option o (filter_map word_text parts) ≡ texts
    go (Some text) (Some more) is ih e = ap (λ (x : List Bytes). text ∷ x) (ih more is) ∙ cc
    go (Some text) None is ih e = absurd (cc)
    go None (Some more) is ih e = absurd (cc)
    go None None is ih e = absurd (cc)

-- ---- groups

pub groups_grow : (old new : List Bytes) (groups : List NumberedGroup) → Extends old new → GroupsWithin (length old) groups → GroupsWithin (length new) groups
groups_grow old new groups h within = each_map (λ (g : NumberedGroup). AreBelow (length old) g.words) (λ (g : NumberedGroup). AreBelow (length new) g.words) (λ g w. below_grow old new g.words h w) groups within

pub all_groups_grow : (old new : List Bytes) (groups : List NumberedGroup) → Extends old new → GroupsWithin (length old) groups → map (named_group new) groups ≡ map (named_group old) groups
all_groups_grow old new groups h within =
    map_each (named_group new) (named_group old) groups
    (each_map (λ (g : NumberedGroup). AreBelow (length old) g.words) (λ (g : NumberedGroup). named_group new g ≡ named_group old g)
    (λ g w. ap (λ (x : List Bytes). record { words = x; place = g.place }) (words_grow old new g.words h w)) groups within)

pub no_more_groups : (form : Located) (words : List Bytes) (groups : List NumberedGroup) → told_disjoint form ≡ None → AddsGroup form words words groups groups
no_more_groups form words groups none = record {
  extends = extends_same words;
  adds = λ forms are. record { within = are.within; are = are.are ∙ filter_none told_disjoint forms form (sym none) };
}

pub more_groups : (form : Located) (parts : List Form) (old new : List Bytes) (groups longer : List NumberedGroup) (numbers : List ℕ) → IsDisjointForm form parts → Extends old new → AreWords parts new numbers
    → longer ≡ groups ++ record { words = numbers; place = form.place } ∷ [] → AddsGroup form old new groups longer
more_groups form parts old new groups longer numbers found extends words is = record {
  extends = extends;
  adds = λ forms are. subst (AreGroups (forms ++ form ∷ []) new) (sym is) (record {
    within = each_append (λ (g : NumberedGroup). AreBelow (length new) g.words) groups (group ∷ []) (groups_grow old new groups extends are.within) (words.within, tt);
    are = map-append (named_group new) groups (group ∷ []) ∙ ap₂ ◌++◌ (all_groups_grow old new groups extends are.within ∙ are.are) (ap (λ g. g ∷ []) shown)
        ∙ filter_some told_disjoint forms form (record { words = found.texts; place = form.place }) (sym found.told);
  });
}
  where
    group : NumberedGroup
    group = record { words = numbers; place = form.place }

    shown : named_group new group ≡ record { words = found.texts; place = form.place }
    shown = ap (λ (x : List Bytes). record { words = x; place = form.place }) (words.are ∙ words_of_texts parts found.texts found.words)
