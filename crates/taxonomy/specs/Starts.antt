-- Numbers that are in the sets of two different words of a group.
use Rattle.std.specs.Prelude.{◌≡◌, ◌≢◌, ℕ, ◌<◌, ◌≤◌, List, [], ◌∷◌, ◌++◌, length, get_or, true, Bool, ◌&&◌, nat_le, nat_lt, Contains}
use Rattle.sigma_base.specs.Lists.{Each}
use Rattle.taxonomy.specs.declared.numbered.NumberedGroup.{NumberedGroup}
use Rattle.taxonomy.specs.declared.runs.Run.{Run}
pub use Rattle.taxonomy.specs.declared.starts.Piece.{Piece}
use Rattle.taxonomy.specs.declared.starts.Reach.{Reach}
use Rattle.taxonomy.specs.Graph.{Sets, at_or_below}
use Rattle.taxonomy.specs.Runs.{has}

abbrev pub as_piece : ℕ → Run → Piece
as_piece label run = record { start = run.start; end = run.end; label = label }

abbrev pub with_piece : List Piece → Piece → List Piece
with_piece pieces piece = pieces ++ piece ∷ []

-- the piece has the number
abbrev pub in_piece : ℕ → Piece → Bool
in_piece number piece = nat_le piece.start number && nat_lt number piece.end

-- a piece with the label has the number
abbrev pub HasPiece : List Piece → ℕ → ℕ → Type 0
HasPiece pieces label number = (piece : Piece) × Contains pieces piece × (piece.label ≡ label) × (in_piece number piece ≡ true)

-- the pieces have the words and what their sets have, each with the word as its label
abbrev pub ArePieces : Sets → List ℕ → List Piece → Type 0
ArePieces sets words pieces = Each (λ (label : ℕ). (number : ℕ) → has (at_or_below sets label) number ≡ true → HasPiece pieces label number) words

-- the pieces reach no further
abbrev pub Reaches : Reach → List Piece → Type 0
Reaches reach pieces = Each (λ (piece : Piece). (piece.end ≤ reach.end) × (piece.label ≢ reach.label → piece.end ≤ reach.other)) pieces

-- two of the pieces with different labels have the number
pub record IsTwice (pieces : List Piece) (number : ℕ) : Type 0 where
  pub one : Piece
  pub other : Piece
  pub has_one : Contains pieces one
  pub has_other : Contains pieces other
  pub apart : one.label ≢ other.label
  pub in_one : in_piece number one ≡ true
  pub in_other : in_piece number other ≡ true

-- two different words, or their sets, have the number
pub record IsShared (sets : Sets) (words : List ℕ) (number : ℕ) : Type 0 where
  pub one : ℕ
  pub other : ℕ
  pub has_one : Contains words one
  pub has_other : Contains words other
  pub apart : one ≢ other
  pub in_one : has (at_or_below sets one) number ≡ true
  pub in_other : has (at_or_below sets other) number ≡ true

-- no number starts later than before
abbrev pub AreLowered : List ℕ → List ℕ → Type 0
AreLowered old new = (number : ℕ) → get_or new number 0 ≤ get_or old number 0

-- among so many first groups no number starts behind one that has two different words whose sets have it
abbrev pub AreStarts : Sets → List NumberedGroup → ℕ → List ℕ → Type 0
AreStarts sets groups seen starts =
    (number at : ℕ) (group : NumberedGroup) → at < seen → at < length groups → group ≡ get_or groups at group → IsShared sets group.words number → get_or starts number 0 ≤ at
