-- Tables with a value for some words.
use Rattle.std.specs.Prelude.{◌≡◌, ℕ, ◌⊎◌, List, [], ◌∷◌, ◌++◌, false, Option, Some, None, if◌then◌else◌, unwrap_or}
use Rattle.std.specs.HashMap.{HashMap, get_by}
use Rattle.std.specs.Str.{bytes_eq}
use Rattle.std.specs.declared.alloc.Global.{Global}
use Rattle.std.specs.declared.vec.Vec.{Vec}
use Rattle.sigma_base.specs.Lists.{Each}
use Rattle.kif_tree.specs.Terms.{Bytes}

abbrev pub Key : Type 0
Key = Vec ℕ Global

-- the value that the table has for the word
abbrev pub find : {V S : Type 0} → HashMap Key V S → Bytes → Option V
find table word = get_by (λ (key : Key). bytes_eq word key.items) table

-- the table has a value for the word
abbrev pub Has : {V S : Type 0} → HashMap Key V S → Bytes → Type 0
Has {V = V} table word = (value : V) × (find table word ≡ Some value)

-- the new table has the value for the word, and for others what the old one has
abbrev pub IsSet : {V S : Type 0} → HashMap Key V S → HashMap Key V S → Bytes → V → Type 0
IsSet old new word value = (other : Bytes) → find new other ≡ (if bytes_eq other word then Some value else find old other)

-- the new table has what the old one has for other words
abbrev pub IsTaken : {V S : Type 0} → HashMap Key V S → HashMap Key V S → Bytes → Type 0
IsTaken old new word = (other : Bytes) → bytes_eq other word ≡ false → find new other ≡ find old other

-- the item is the last of the word's list, and other words have what they had
abbrev pub IsPushed : {X S : Type 0} → HashMap Key (List X) S → HashMap Key (List X) S → Bytes → X → Type 0
IsPushed old new word item = (other : Bytes) → find new other ≡ (if bytes_eq other word then Some (unwrap_or (find old other) [] ++ item ∷ []) else find old other)

-- each value is right for its word, and the words that were gone through and have none need none
pub record IsTableOf {V S : Type 0} (IsRight : Bytes → V → Type 0) (NeedsNone : Bytes → Type 0) (words : List Bytes) (table : HashMap Key V S) : Type 0 where
  pub right : (word : Bytes) (value : V) → find table word ≡ Some value → IsRight word value
  pub all : Each (λ word. find table word ≡ None → NeedsNone word) words

-- the word was gone through
pub record IsGoneThrough {V S : Type 0} (IsRight : Bytes → V → Type 0) (NeedsNone : Bytes → Type 0) (old new : HashMap Key V S) (word : Bytes) : Type 0 where
  pub right : (other : Bytes) (value : V) → find new other ≡ Some value → (find old other ≡ Some value) ⊎ IsRight other value
  pub kept : (other : Bytes) → find new other ≡ None → find old other ≡ None
  pub here : find new word ≡ None → NeedsNone word
