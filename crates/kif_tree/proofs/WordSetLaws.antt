-- Words of a set, as its keys change.
use Rattle.std.proofs.Common.{◌≡◌, ℕ, List, [], ◌∷◌, ◌||◌, ◌&&◌, not, map, Bool, true, false, cond, refl, sym, ap, ap₂, subst, ◌∙◌}
use Rattle.std.specs.BTreeSet.{insert_key}
use Rattle.std.specs.Cmp.Lexicographic.{slice_cmp}
use Rattle.std.specs.List.{list_any}
use Rattle.std.specs.Ordering.{nat_cmp, is_eq, match_ordering}
use Rattle.std.specs.Set.{remove_key}
use Rattle.std.specs.Str.{bytes_eq}
use Rattle.std.specs.declared.alloc.Global.{Global}
use Rattle.std.specs.declared.cmp.Ordering.{Ordering}
use Rattle.std.specs.declared.cmp.Ordering.TheVariants.{Less, Equal, Greater}
use Rattle.std.specs.declared.vec.Vec.{Vec}
use Rattle.std.proofs.lemmas.Map.Text.{is_eq-slice_cmp}
use Rattle.std.proofs.lemmas.Map.Lookups.{exact_bytes}
use Rattle.std.proofs.lemmas.Slice.Eq.{bytes_eq-Decides}
use Rattle.kif_tree.specs.Shape.{is_among}
use Rattle.kif_tree.specs.Terms.{Bytes}

abbrev pub Key : Type 0
Key = Vec ℕ Global

abbrev pub texts_of : List Key → List Bytes
texts_of keys = map (λ (key : Key). key.items) keys

abbrev order : Key → Key → Ordering
order x y = slice_cmp nat_cmp x.items y.items

abbrev at : Bytes → Key → Bool
at word key = is_eq (slice_cmp nat_cmp word key.items)

pub among_texts : (keys : List Key) (word : Bytes) → list_any (at word) keys ≡ is_among (texts_of keys) word
among_texts [] word = refl
among_texts (key ∷ keys) word = ap₂ (λ a b. a || b) (is_eq-slice_cmp word key.items) (among_texts keys word)

pub or_last : (a b : Bool) → (a || b) ≡ (b || a)
or_last true true = refl
or_last true false = refl
or_last false true = refl
or_last false false = refl

or_middle : (a b c : Bool) → (a || (b || c)) ≡ ((a || b) || c)
or_middle true b c = refl
or_middle false b c = refl

or_same : (a b : Bool) → (a || b) ≡ ((a || b) || a)
or_same true b = refl
or_same false true = refl
or_same false false = refl

pub among_inserted : (keys : List Key) (key : Key) (other : Bytes) → is_among (texts_of (insert_key order keys key)) other ≡ (is_among (texts_of keys) other || bytes_eq other key.items)
among_inserted [] key other = or_last (bytes_eq other key.items) false
among_inserted (k ∷ keys) key other = go (slice_cmp nat_cmp key.items k.items) refl (among_inserted keys key other)
  where
    go : (o : Ordering) → slice_cmp nat_cmp key.items k.items ≡ o → is_among (texts_of (insert_key order keys key)) other ≡ (is_among (texts_of keys) other || bytes_eq other key.items)
        → is_among (texts_of (match_ordering o (key ∷ k ∷ keys) (k ∷ keys) (k ∷ insert_key order keys key))) other ≡ (is_among (texts_of (k ∷ keys)) other || bytes_eq other key.items)
    go Less is ih = or_last (bytes_eq other key.items) (is_among (texts_of (k ∷ keys)) other)
    go Equal is ih =
        let same : k.items ≡ key.items = sym (exact_bytes key.items k.items is) in
        subst (λ (bs : Bytes). (bytes_eq other k.items || is_among (texts_of keys) other) ≡ ((bytes_eq other k.items || is_among (texts_of keys) other) || bytes_eq other bs)) same
        (or_same (bytes_eq other k.items) (is_among (texts_of keys) other))
    go Greater is ih = ap (λ b. bytes_eq other k.items || b) ih ∙ or_middle (bytes_eq other k.items) (is_among (texts_of keys) other) (bytes_eq other key.items)

at_true : (word : Bytes) (key : Key) → at word key ≡ true → word ≡ key.items
at_true word key e = (bytes_eq-Decides word key.items).0 (sym (is_eq-slice_cmp word key.items) ∙ e)

kept : (keys : List Key) (word other : Bytes) → bytes_eq other word ≡ false → is_among (texts_of (remove_key (at word) keys)) other ≡ is_among (texts_of keys) other
kept [] word other apart = refl
kept (key ∷ keys) word other apart = go (at word key) refl (bytes_eq other key.items) refl (kept keys word other apart)
  where
    go : (b : Bool) → at word key ≡ b → (d : Bool) → bytes_eq other key.items ≡ d → is_among (texts_of (remove_key (at word) keys)) other ≡ is_among (texts_of keys) other
        → is_among (texts_of (cond b keys (key ∷ remove_key (at word) keys))) other ≡ (d || is_among (texts_of keys) other)
    go true h true k ih =
        let same : bytes_eq other word ≡ true = (bytes_eq-Decides other word).1 ((bytes_eq-Decides other key.items).0 k ∙ sym (at_true word key h)) in
        let no_way : true ≡ false = sym same ∙ apart in absurd (cc)
    go true h false k ih = refl
    go false h d k ih = ap₂ (λ a b. a || b) k ih

pub among_removed : (old new : List Key) (word : Bytes) → new ≡ remove_key (at word) old → list_any (at word) new ≡ false → (other : Bytes) → is_among (texts_of new) other ≡ (is_among (texts_of old) other && not (bytes_eq other word))
among_removed old new word is gone other = go (bytes_eq other word) refl
  where
    and_true : (b : Bool) → b ≡ (b && true)
    and_true true = refl
    and_true false = refl

    and_false : (b : Bool) → false ≡ (b && false)
    and_false true = refl
    and_false false = refl

    go : (b : Bool) → bytes_eq other word ≡ b → is_among (texts_of new) other ≡ (is_among (texts_of old) other && not b)
    go true e = ap (is_among (texts_of new)) ((bytes_eq-Decides other word).0 e) ∙ sym (among_texts new word) ∙ gone ∙ and_false (is_among (texts_of old) other)
    go false e = ap (λ (ks : List Key). is_among (texts_of ks) other) is ∙ kept old word other e ∙ and_true (is_among (texts_of old) other)
