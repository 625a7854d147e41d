-- Words and their numbers.
use Rattle.std.specs.Prelude.{◌≡◌, ℕ, ◌<◌, List, [], ◌++◌, length, get_or, Option, Some}
use Rattle.std.specs.Map.{lookup}
use Rattle.std.specs.Str.{bytes_eq}
use Rattle.std.specs.declared.alloc.Global.{Global}
use Rattle.std.specs.declared.vec.Vec.{Vec}
use Rattle.kif_tree.specs.Terms.{Bytes}
use Rattle.sigma_base.specs.Lists.{Each}

abbrev pub none : List Bytes
none = []

-- the key that the table has for the word
abbrev pub key_of : List (Vec ℕ Global × ℕ) → Bytes → Option ℕ
key_of keys word = lookup (λ (key : Vec ℕ Global). bytes_eq word key.items) keys

-- the table has for each word, and for nothing else, a key, and the places have for the key the word's place in the list
pub record AreNumbered (keys : List (Vec ℕ Global × ℕ)) (places : List ℕ) (words : List Bytes) : Type 0 where
  pub within : Each (λ (number : ℕ). number < length words) places
  pub found : (word : Bytes) (key : ℕ) → key_of keys word ≡ Some key → (key < length places) × (get_or words (get_or places key 0) [] ≡ word)
  pub known : (number : ℕ) → number < length words → (key : ℕ) × (key_of keys (get_or words number []) ≡ Some key) × (get_or places key 0 ≡ number)

-- the new list begins with the old one
pub record Extends (old new : List Bytes) : Type 0 where
  pub more : List Bytes
  pub is : new ≡ old ++ more

-- the word has the number in the new list, which begins with the old one
pub record Adds (old new : List Bytes) (word : Bytes) (number : ℕ) : Type 0 where
  pub extends : Extends old new
  pub within : number < length new
  pub stands : get_or new number [] ≡ word
