-- How far the search for nearest words still has to go.
use Rattle.std.specs.HashMap.{HashMap}
use Rattle.std.specs.Prelude.{ℕ, ◌+◌, List, [], ◌∷◌, Bool, false, is_none, Option, Some, None, if◌then◌else◌}
use Rattle.kif_tree.specs.Terms.{Bytes}
use Rattle.kif_tree.specs.declared.place.Located.{Located}
use Rattle.signatures.specs.declared.nearest.Note.{Note}
use Rattle.signatures.specs.Forms.{relation_word}
use Rattle.signatures.specs.WordTables.{Key, find}

abbrev pub lacks_note : {S : Type 0} → HashMap Key Note S → Option Bytes → Bool
lacks_note notes (Some word) = is_none (find notes word)
lacks_note notes None = false

-- how many `subrelation` forms call a word lower that has no note
abbrev pub without_note : {S : Type 0} → List Located → HashMap Key Note S → ℕ
without_note [] notes = 0
without_note (located ∷ forms) notes = (if lacks_note notes (relation_word located) then 1 else 0) + without_note forms notes

-- the same, and one for a layer that isn't empty
abbrev pub left_over : {S : Type 0} → List Located → HashMap Key Note S → List Bytes → ℕ
left_over forms notes [] = without_note forms notes
left_over forms notes (word ∷ layer) = without_note forms notes + 1
