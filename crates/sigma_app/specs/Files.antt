-- The files of a command, and the parts that they make.
use Rattle.std.specs.Prelude.{◌≡◌, ℕ, ◌+◌, ◌≤◌, nat_le, true, List, [], ◌∷◌, ◌++◌, length, map, Some}
use Rattle.sigma_base.specs.Lists.{Each}
use Rattle.kif_tree.specs.declared.place.Located.{Located}
use Rattle.kif_tree.specs.declared.place.LoadName.{LoadName}
use Rattle.kif_tree.specs.Terms.{Bytes}
use Rattle.sig_io.specs.Told.{body_of}
use Rattle.kif_reader.specs.Spelling.{Spells}
use Rattle.sigma_app.specs.declared.files.Part.{Part}

-- what files hold: each a path and its bytes
abbrev pub Contents : Type 0
Contents = List (Bytes × Bytes)

-- the greatest number of bytes of a file
abbrev pub byte_limit : ℕ
byte_limit = 8388608

-- the greatest number of files
abbrev pub file_limit : ℕ
file_limit = 64

-- the greatest number of bytes of all texts together
abbrev pub live_limit : ℕ
live_limit = 67108864

-- the file of the path is there and within the limit, and the part of this number is made of it
pub record IsWhole (contents : Contents) (path : Bytes) (at : ℕ) (part : Part) : Type 0 where
  pub held : body_of contents path ≡ Some part.text
  pub short : length part.text ≤ byte_limit
  pub named : part.name ≡ path
  pub numbered : part.number ≡ at

-- the files of the paths, in order, are found whole and make these parts, of which the first has this number
abbrev pub AreWhole : Contents → ℕ → List Bytes → List Part → Type 0
AreWhole contents at [] parts = parts ≡ []
AreWhole contents at (path ∷ paths) [] = ⊥
AreWhole contents at (path ∷ paths) (part ∷ parts) = IsWhole contents path at part × AreWhole contents (at + 1) paths parts

-- the files before that of this path are found whole
pub record IsReached (contents : Contents) (paths : List Bytes) (path : Bytes) : Type 0 where
  pub earlier : List Bytes
  pub later : List Bytes
  pub parts : List Part
  pub stands : paths ≡ earlier ++ path ∷ later
  pub whole : AreWhole contents 1 earlier parts

-- each text is within the limit
abbrev pub AreShort : List Part → Type 0
AreShort = Each (λ part. length part.text ≤ byte_limit)

-- how many bytes the texts of the parts have together
abbrev pub live_size : List Part → ℕ
live_size [] = 0
live_size (part ∷ parts) = length part.text + live_size parts

abbrev pub load_name : Part → LoadName
load_name part = record { number = part.number; name = part.name }

abbrev pub load_names : List Part → List LoadName
load_names parts = map load_name parts

-- the parts spell the forms, in their order
abbrev pub SpellParts : List Part → List Located → Type 0
SpellParts [] forms = forms ≡ []
SpellParts (part ∷ parts) forms =
    (mine : List Located) × (rest : List Located) × (forms ≡ mine ++ rest) × Spells part.number part.text mine × SpellParts parts rest

-- The files of the paths are few, each is whole, and their texts have no more bytes together than may be. They make these parts and spell
-- these forms.
pub record HaveForms (contents : Contents) (paths : List Bytes) (parts : List Part) (forms : List Located) : Type 0 where
  pub few : nat_le (length paths) file_limit ≡ true
  pub whole : AreWhole contents 1 paths parts
  pub fit : nat_le (live_size parts) live_limit ≡ true
  pub spelled : SpellParts parts forms
