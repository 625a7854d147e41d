-- Words among others, and words that have a value.
use Rattle.std.proofs.Common.{◌≡◌, ◌⊎◌, ◌||◌, List, [], ◌∷◌, ◌++◌, Bool, true, false, refl, sym, ap, subst, ◌∙◌, inl, inr}
use Rattle.std.specs.Prelude.{Option, Some, None, is_some}
use Rattle.std.specs.HashMap.{HashMap}
use Rattle.std.specs.Str.{bytes_eq}
use Rattle.std.proofs.lemmas.Slice.Eq.{bytes_eq-Decides}
use Rattle.kif_tree.specs.Terms.{Bytes}
use Rattle.kif_tree.specs.Shape.{is_among}
use Rattle.sigma_base.specs.Lists.{Each}
use Rattle.signatures.specs.Layers.{Among}
use Rattle.signatures.specs.WordTables.{Key, find, Has}

or_left : (a b : Bool) → a ≡ true → (a || b) ≡ true
or_left true b h = refl
or_left false b h = absurd (cc)

or_right : (a b : Bool) → b ≡ true → (a || b) ≡ true
or_right true b h = refl
or_right false b h = h

or_cases : (a b : Bool) → (a || b) ≡ true → (a ≡ true) ⊎ (b ≡ true)
or_cases true b h = inl refl
or_cases false b h = inr h

pub true_false : (b : Bool) → b ≡ true → b ≡ false → ⊥
true_false b h k = absurd (cc)

pub same_word : (a b : Bytes) → bytes_eq a b ≡ true → a ≡ b
same_word a b = (bytes_eq-Decides a b).0

pub word_same : (a b : Bytes) → a ≡ b → bytes_eq a b ≡ true
word_same a b = (bytes_eq-Decides a b).1

pub among_here : (words : List Bytes) (word other : Bytes) → word ≡ other → Among (other ∷ words) word
among_here words word other e = or_left (bytes_eq word other) (is_among words word) (word_same word other e)

pub among_later : (words : List Bytes) (word other : Bytes) → Among words word → Among (other ∷ words) word
among_later words word other h = or_right (bytes_eq word other) (is_among words word) h

pub among_left : (xs ys : List Bytes) (word : Bytes) → Among xs word → Among (xs ++ ys) word
among_left [] ys word h = absurd (cc)
among_left (x ∷ xs) ys word h = go (or_cases (bytes_eq word x) (is_among xs word) h) (among_left xs ys word)
  where
    go : ((bytes_eq word x ≡ true) ⊎ Among xs word) → (Among xs word → Among (xs ++ ys) word) → Among (x ∷ xs ++ ys) word
    go (inl e) more = or_left (bytes_eq word x) (is_among (xs ++ ys) word) e
    go (inr k) more = or_right (bytes_eq word x) (is_among (xs ++ ys) word) (more k)

pub among_right : (xs ys : List Bytes) (word : Bytes) → Among ys word → Among (xs ++ ys) word
among_right [] ys word h = h
among_right (x ∷ xs) ys word h = or_right (bytes_eq word x) (is_among (xs ++ ys) word) (among_right xs ys word h)

pub among_split : (xs ys : List Bytes) (word : Bytes) → Among (xs ++ ys) word → Among xs word ⊎ Among ys word
among_split [] ys word h = inr h
among_split (x ∷ xs) ys word h = go (or_cases (bytes_eq word x) (is_among (xs ++ ys) word) h) (among_split xs ys word)
  where
    later : (Among xs word ⊎ Among ys word) → Among (x ∷ xs) word ⊎ Among ys word
    later (inl k) = inl (or_right (bytes_eq word x) (is_among xs word) k)
    later (inr k) = inr k

    go : ((bytes_eq word x ≡ true) ⊎ Among (xs ++ ys) word) → (Among (xs ++ ys) word → Among xs word ⊎ Among ys word) → Among (x ∷ xs) word ⊎ Among ys word
    go (inl e) more = inl (or_left (bytes_eq word x) (is_among xs word) e)
    go (inr k) more = later (more k)

pub among_one : (word other : Bytes) → Among (other ∷ []) word → word ≡ other
among_one word other h = go (or_cases (bytes_eq word other) false h)
  where
    go : ((bytes_eq word other ≡ true) ⊎ (false ≡ true)) → word ≡ other
    go (inl e) = same_word word other e
    go (inr k) = absurd (cc)

pub each_among : (P : Bytes → Type 0) (words : List Bytes) (word : Bytes) → Each P words → Among words word → P word
each_among P [] word each h = absurd (cc)
each_among P (x ∷ words) word each h = go (or_cases (bytes_eq word x) (is_among words word) h) (each_among P words word each.1)
  where
    go : ((bytes_eq word x ≡ true) ⊎ Among words word) → (Among words word → P word) → P word
    go (inl e) more = subst P (sym (same_word word x e)) each.0
    go (inr k) more = more k

pub each_if_among : (P : Bytes → Type 0) (words : List Bytes) → ((word : Bytes) → Among words word → P word) → Each P words
each_if_among P [] h = tt
each_if_among P (x ∷ words) h = (h x (among_here words x x refl), each_if_among P words (λ word k. h word (among_later words word x k)))

pub not_true : (b : Bool) → (b ≡ true → ⊥) → b ≡ false
not_true true h = absurd (h refl)
not_true false h = refl

pub has_by : {V S : Type 0} (own : HashMap Key V S) (word : Bytes) (b : Bool) → b ≡ is_some (find own word) → b ≡ true → Has own word
has_by {V = V} own word b is h = go (find own word) refl (sym is ∙ h)
  where
    go : (found : Option V) → find own word ≡ found → is_some found ≡ true → Has own word
    go (Some value) e k = (value, e)
    go None e k = absurd (cc)

pub has_not : {V S : Type 0} (own : HashMap Key V S) (word : Bytes) (b : Bool) → b ≡ is_some (find own word) → b ≡ false → Has own word → ⊥
has_not own word b is h (value, e) = let k : is_some (find own word) ≡ true = ap is_some e in absurd (true_false (is_some (find own word)) k (sym is ∙ h))

pub has_none : {V S : Type 0} (own : HashMap Key V S) (word : Bytes) → find own word ≡ None → Has own word → ⊥
has_none own word none (value, e) = absurd (cc)
