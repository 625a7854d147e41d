-- Notes of nearest words, as words pass them on to the words below them, layer by layer.
use Rattle.std.specs.Cmp.Lexicographic.{slice_cmp}
use Rattle.std.specs.HashMap.{HashMap}
use Rattle.std.specs.Ordering.{is_lt, nat_cmp}
use Rattle.std.specs.Prelude.{◌≡◌, ℕ, ◌+◌, ◌<◌, ◌≤◌, ◌⊎◌, List, suc, zero, nat_lt, Option, Some, None, if◌then◌else◌, MatchOption, true}
use Rattle.kif_tree.specs.Terms.{Bytes}
use Rattle.kif_tree.specs.Shape.{is_among}
use Rattle.sigma_base.specs.Lists.{Each}
use Rattle.taxonomy.specs.Told.{Link}
use Rattle.signatures.specs.declared.nearest.Need.{Need}
use Rattle.signatures.specs.declared.nearest.Need.TheVariants.{First, Better, Nothing}
use Rattle.signatures.specs.declared.nearest.Note.{Note}
use Rattle.signatures.specs.Nearest.{IsBefore, IsNearest, NoneReached}
use Rattle.signatures.specs.WordTables.{Key, find, Has}

abbrev pub Among : List Bytes → Bytes → Type 0
Among words word = is_among words word ≡ true

-- the word stands below one for which P holds
pub record Step (lows : Bytes → List Bytes) (P : Bytes → Type 0) (low : Bytes) : Type 0 where
  pub high : Bytes
  pub below : Among (lows high) low
  pub from : P high

-- as many steps lead up from the first word to the second
abbrev pub Leads : (Bytes → List Bytes) → ℕ → Bytes → Bytes → Type 0
Leads lows zero low high = low ≡ high
Leads lows (suc n) low high = Step lows (λ mid. Leads lows n mid high) low

abbrev pub as_note : ℕ → Bytes → Note
as_note distance near = record { distance = distance; near = near }

-- the note's word is nearer than the other one, or as near and not behind it by bytes
abbrev pub IsNoFarther : Note → ℕ → Bytes → Type 0
IsNoFarther note distance near = (note.distance < distance) ⊎ ((note.distance ≡ distance) × ((note.near ≡ near) ⊎ IsBefore note.near near))

-- the word needs no note of a word at that distance
abbrev pub IsSettled : {V S : Type 0} → HashMap Key V S → HashMap Key Note S → ℕ → Bytes → Bytes → Type 0
IsSettled own notes distance near word = Has own word ⊎ ((note : Note) × (find notes word ≡ Some note) × IsNoFarther note distance near)

abbrev pub need_of : Option Note → ℕ → Bytes → Need
need_of (Some note) distance near = if nat_lt note.distance distance then Nothing else if is_lt (slice_cmp nat_cmp near note.near) then Better else Nothing
need_of None distance near = First

-- the note is of a word that has a value, to which steps lead from one that has none
pub record IsRight {V S : Type 0} (lows : Bytes → List Bytes) (own : HashMap Key V S) (word : Bytes) (note : Note) : Type 0 where
  pub without : Has own word → ⊥
  pub has : Has own note.near
  pub some : 0 < note.distance
  pub leads : Leads lows note.distance word note.near

-- notes up to a distance, of which the words at that distance are listed: those that had no note at the start
pub record AreNotes {V S : Type 0} (lows : Bytes → List Bytes) (own : HashMap Key V S) (start notes : HashMap Key Note S) (next : List Bytes) (distance : ℕ) : Type 0 where
  pub right : (word : Bytes) (note : Note) → find notes word ≡ Some note → IsRight lows own word note
  pub within : (word : Bytes) (note : Note) → find notes word ≡ Some note → note.distance ≤ distance
  pub older : (word : Bytes) (note : Note) → find start word ≡ Some note → note.distance < distance
  pub listed : (word : Bytes) (note : Note) → find notes word ≡ Some note → (find start word ≡ Some note) ⊎ Among next word
  pub exact : (word : Bytes) → Among next word → (note : Note) × (find notes word ≡ Some note) × (note.distance ≡ distance)
  pub fresh : (word : Bytes) → Among next word → find start word ≡ None
  pub kept : (word : Bytes) (note : Note) → find start word ≡ Some note → find notes word ≡ Some note

abbrev pub StaysSettled : {V S : Type 0} → HashMap Key V S → HashMap Key Note S → HashMap Key Note S → Type 0
StaysSettled own old new = (distance : ℕ) (near word : Bytes) → IsSettled own old distance near word → IsSettled own new distance near word

pub record IsPassed {V S : Type 0} (lows : Bytes → List Bytes) (own : HashMap Key V S) (start old new : HashMap Key Note S) (next : List Bytes) (distance : ℕ) (near : Bytes) (words : List Bytes) : Type 0 where
  pub notes : AreNotes lows own start new next distance
  pub stays : StaysSettled own old new
  pub settled : Each (IsSettled own new distance near) words

-- words to which the near word is passed on need no note of it
abbrev pub Passes : {V S : Type 0} → HashMap Key V S → HashMap Key Note S → HashMap Key Note S → List Bytes → List Bytes → ℕ → Bytes → List Bytes → Type 0
Passes {S = S} own old new old_next new_next distance near words =
    (lows : Bytes → List Bytes) (start : HashMap Key Note S) → Has own near → 0 < distance → Each (λ low. Leads lows distance low near) words → AreNotes lows own start old old_next distance
    → IsPassed lows own start old new new_next distance near words

-- the words below one that has a value need no note of it
abbrev pub OwnSettled : {V S : Type 0} → (Bytes → List Bytes) → HashMap Key V S → HashMap Key Note S → Bytes → Type 0
OwnSettled lows own notes high = Each (IsSettled own notes 1 high) (lows high)

pub record AreBegun {V S : Type 0} (lows : Bytes → List Bytes) (own : HashMap Key V S) (start notes : HashMap Key Note S) (next : List Bytes) : Type 0 where
  pub first : AreNotes lows own start notes next 1
  pub settled : (high : Bytes) → Has own high → OwnSettled lows own notes high

abbrev pub BeginsLayers : {V S : Type 0} → (Bytes → List Bytes) → HashMap Key V S → HashMap Key Note S → HashMap Key Note S → List Bytes → Type 0
BeginsLayers lows own old new next = ((word : Bytes) → find old word ≡ None) → AreBegun lows own old new next

-- the words below one that is noted need no note of what is noted for it
abbrev pub NoteSettled : {V S : Type 0} → (Bytes → List Bytes) → HashMap Key V S → HashMap Key Note S → Bytes → Note → Type 0
NoteSettled lows own notes high note = Each (IsSettled own notes (note.distance + 1) note.near) (lows high)

pub record NotesPassed {V S : Type 0} (lows : Bytes → List Bytes) (own : HashMap Key V S) (start old new : HashMap Key Note S) (next : List Bytes) (distance : ℕ) (words : List Bytes) : Type 0 where
  pub notes : AreNotes lows own start new next distance
  pub stays : StaysSettled own old new
  pub settled : Each (λ word. (note : Note) → find start word ≡ Some note → NoteSettled lows own new word note) words

-- what the words at the last distance had noted at the start is passed on
abbrev pub PassesNotes : {V S : Type 0} → (Bytes → List Bytes) → HashMap Key V S → HashMap Key Note S → HashMap Key Note S → List Bytes → List Bytes → ℕ → List Bytes → Type 0
PassesNotes {S = S} lows own old new old_next new_next distance words =
    (start : HashMap Key Note S) → Each (λ word. (note : Note) × (find start word ≡ Some note) × (distance ≡ note.distance + 1)) words → AreNotes lows own start old old_next distance
    → NotesPassed lows own start old new new_next distance words

-- ---- all layers so far

pub record AreLayers {V S : Type 0} (lows : Bytes → List Bytes) (own : HashMap Key V S) (notes : HashMap Key Note S) (layer : List Bytes) (distance : ℕ) : Type 0 where
  pub right : (word : Bytes) (note : Note) → find notes word ≡ Some note → IsRight lows own word note
  pub within : (word : Bytes) (note : Note) → find notes word ≡ Some note → note.distance ≤ distance
  pub listed : (word : Bytes) (note : Note) → find notes word ≡ Some note → note.distance ≡ distance → Among layer word
  pub exact : (word : Bytes) → Among layer word → (note : Note) × (find notes word ≡ Some note) × (note.distance ≡ distance)
  pub begun : (high : Bytes) → Has own high → OwnSettled lows own notes high
  pub passed : (high : Bytes) (note : Note) → find notes high ≡ Some note → note.distance < distance → NoteSettled lows own notes high note

-- each word that has no value is noted with the nearest that has one, where there is one
abbrev pub near_of : Option Note → Option Bytes
near_of (Some note) = Some note.near
near_of None = None

abbrev pub AreNearest : {V S : Type 0} → List Link → HashMap Key V S → HashMap Key Note S → Type 0
AreNearest links own notes = (word : Bytes) → find own word ≡ None → MatchOption (near_of (find notes word)) (NoneReached links (Has own) word) (IsNearest links (Has own) word)
