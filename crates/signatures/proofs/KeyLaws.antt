-- The keys of a table of words.
use Rattle.std.proofs.Common.{◌≡◌, List, [], ◌∷◌, ◌++◌, map, Bool, true, false, if◌then◌else◌, refl, sym, ap, subst}
use Rattle.std.specs.Prelude.{Some}
use Rattle.std.specs.HashMap.{HashMap, keys}
use Rattle.std.specs.Map.{lookup}
use Rattle.std.specs.Str.{bytes_eq}
use Rattle.kif_tree.specs.Terms.{Bytes}
use Rattle.sigma_base.specs.Lists.{Each}
use Rattle.signatures.specs.WordTables.{Key, Has}
use Rattle.signatures.proofs.WordLaws.{same_word, word_same}

abbrev at : Bytes → Key → Bool
at word key = bytes_eq word key.items

at_key : {V : Type 0} (es : List (Key × V)) (done rest : List Key) (key : Key) → done ++ key ∷ rest ≡ map (λ (e : Key × V). e.0) es → (value : V) × (lookup (at key.items) es ≡ Some value)
at_key [] [] rest key h = absurd (cc)
at_key [] (first ∷ done) rest key h = absurd (cc)
at_key {V = V} (e ∷ es) [] rest key h = (e.1, ap (λ (b : Bool). if b then Some e.1 else lookup (at key.items) es) (word_same key.items e.0.items (ap (λ (k : Key). k.items) is)))
  where
    is : key ≡ e.0
    is = cc
at_key {V = V} (e ∷ es) (first ∷ done) rest key h = go (at key.items e.0) (at_key es done rest key more)
  where
    more : done ++ key ∷ rest ≡ map (λ (e : Key × V). e.0) es
    more = cc

    go : (b : Bool) → ((value : V) × (lookup (at key.items) es ≡ Some value)) → (value : V) × ((if b then Some e.1 else lookup (at key.items) es) ≡ Some value)
    go true rest = (e.1, refl)
    go false rest = rest

-- a key has a value
pub has_key : {V S : Type 0} (own : HashMap Key V S) (done rest : List Key) (key : Key) → done ++ key ∷ rest ≡ keys own → Has own key.items
has_key own done rest key h = at_key own.entries done rest key h

in_entries : {V : Type 0} (P : Bytes → Type 0) (es : List (Key × V)) (word : Bytes) (value : V) → lookup (at word) es ≡ Some value → Each (λ (key : Key). P key.items) (map (λ (e : Key × V). e.0) es) → P word
in_entries P [] word value h each = absurd (cc)
in_entries {V = V} P (e ∷ es) word value h each = go (at word e.0) refl h (λ k. in_entries P es word value k each.1)
  where
    go : (b : Bool) → at word e.0 ≡ b → (if b then Some e.1 else lookup (at word) es) ≡ Some value → (lookup (at word) es ≡ Some value → P word) → P word
    go true is h more = subst P (sym (same_word word e.0.items is)) each.0
    go false is h more = more h

-- what holds of each key holds of each word that has a value
pub of_keys : {V S : Type 0} (P : Bytes → Type 0) (own : HashMap Key V S) (word : Bytes) → Has own word → Each (λ (key : Key). P key.items) (keys own) → P word
of_keys P own word has each = in_entries P own.entries word has.0 has.1 each
