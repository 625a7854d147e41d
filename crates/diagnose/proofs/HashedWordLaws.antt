-- Words of a set without an order, as its keys change.
use Rattle.std.proofs.Common.{◌≡◌, List, ◌∷◌, ◌||◌, map, Bool, true, false, refl, sym, ap, ◌∙◌}
use Rattle.std.specs.Prelude.{not}
use Rattle.std.specs.List.{list_any}
use Rattle.std.specs.List.Sorted.{IsPermutation}
use Rattle.std.specs.Str.{bytes_eq}
use Rattle.std.specs.Bool.{MatchBool}
use Rattle.std.specs.Borrow.{Bor}
use Rattle.std.proofs.lemmas.List.Sorted.{list_any-IsPermutation}
use Rattle.std.proofs.lemmas.Slice.Eq.{bytes_eq-Decides}
use Rattle.sigma_base.specs.Lists.{list_any-map}
use Rattle.kif_tree.specs.Shape.{is_among}
use Rattle.kif_tree.specs.Terms.{Bytes}

abbrev pub Key : Type 0
Key = Bor Bytes

abbrev pub texts_of : List Key → List Bytes
texts_of keys = map (λ (key : Key). key.now) keys

abbrev pub at : Bytes → Key → Bool
at word key = bytes_eq word key.now

pub among_texts : (keys : List Key) (word : Bytes) → list_any (at word) keys ≡ is_among (texts_of keys) word
among_texts keys word = sym (list_any-map (bytes_eq word) (λ (key : Key). key.now) keys)

or_swapped : (a b : Bool) → (a || b) ≡ (b || a)
or_swapped true true = refl
or_swapped true false = refl
or_swapped false true = refl
or_swapped false false = refl

absorbed : (a b : Bool) → (b ≡ true → a ≡ true) → a ≡ (a || b)
absorbed true b h = refl
absorbed false true h = h refl
absorbed false false h = refl

pub among_put : (old new : List Key) (key : Key) (added : Bool) → added ≡ not (list_any (at key.now) old) → MatchBool added (IsPermutation (key ∷ old) new) (new ≡ old)
    → (other : Bytes) → is_among (texts_of new) other ≡ (is_among (texts_of old) other || bytes_eq other key.now)
among_put old new key true is puts other =
    sym (among_texts new other) ∙ sym (list_any-IsPermutation (at other) (key ∷ old) new puts) ∙ or_swapped (at other key) (list_any (at other) old)
    ∙ ap (λ b. b || bytes_eq other key.now) (among_texts old other)
among_put old new key false is puts other =
    ap (λ (keys : List Key). is_among (texts_of keys) other) puts ∙ absorbed (is_among (texts_of old) other) (bytes_eq other key.now)
    (λ same. sym (among_texts old other) ∙ ap (λ (word : Bytes). list_any (at word) old) ((bytes_eq-Decides other key.now).0 same) ∙ had (list_any (at key.now) old) is)
  where
    had : (b : Bool) → false ≡ not b → b ≡ true
    had true e = refl
    had false e = absurd (cc)
