-- What is looked up for words.
use Rattle.std.specs.Prelude.{◌≡◌, ◌↔◌, List, true}
use Rattle.std.specs.List.{list_any}
use Rattle.kif_tree.specs.Shape.{is_among}
use Rattle.kif_tree.specs.Terms.{Bytes}
use Rattle.kif_tree.specs.declared.place.Located.{Located}
use Rattle.signatures.specs.Arities.{IsArity}
use Rattle.signatures.specs.Relations.{is_snapshot_word, IsRelationName}
use Rattle.signatures.specs.declared.told.Arity.TheVariants.{Unstated}
use Rattle.diagnose.specs.Words.{documents}

-- the words are those that pass the test
abbrev pub AreWords : (Bytes → Type 0) → List Bytes → Type 0
AreWords P words = (word : Bytes) → (is_among words word ≡ true) ↔ P word

abbrev pub IsDocumented : List Located → Bytes → Type 0
IsDocumented forms word = list_any (documents word) forms ≡ true

-- a relation name without a stated arity
abbrev pub IsUnstated : List Located → Bytes → Type 0
IsUnstated forms word = IsRelationName forms word × IsArity forms word Unstated

-- the words of the snapshot that these forms make
abbrev pub AreSeen : List Located → List Bytes → Type 0
AreSeen forms words = AreWords (λ word. is_snapshot_word forms word ≡ true) words
