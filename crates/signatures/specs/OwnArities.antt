-- Told valences, as a table of them grows.
use Rattle.std.specs.Prelude.{◌≡◌, List, Option, Some, None}
use Rattle.std.specs.HashMap.{HashMap}
use Rattle.kif_tree.specs.Terms.{Bytes}
use Rattle.kif_tree.specs.declared.place.Located.{Located}
use Rattle.taxonomy.specs.declared.told.ChainKind.TheVariants as kinds
use Rattle.taxonomy.specs.Chains.{Chain}
use Rattle.taxonomy.specs.Told.{links, ToldNumber, told_number}
use Rattle.signatures.specs.declared.told.Arity.{Arity}
use Rattle.signatures.specs.Arities.{built_in, valence_in, told_valence, IsOwnArity}
use Rattle.signatures.specs.Inherited.{first_found}
use Rattle.signatures.specs.WordTables.{Key, find, IsTableOf, IsGoneThrough}

abbrev pub valence_of : Bytes → Option ToldNumber → Option Arity
valence_of word (Some told) = valence_in word told
valence_of word None = None

-- the form's valence counts where the word has none yet
abbrev pub AddsValence : {S : Type 0} → HashMap Key Arity S → HashMap Key Arity S → Located → Type 0
AddsValence old new located = (word : Bytes) → find new word ≡ first_found (find old word) (valence_of word (told_number located))

abbrev pub AreValences : {S : Type 0} → List Located → HashMap Key Arity S → Type 0
AreValences forms table = (word : Bytes) → find table word ≡ told_valence forms word

-- ---- own arities

abbrev pub IsRight : List Located → Bytes → Arity → Type 0
IsRight forms word arity = IsOwnArity forms word (Some arity)

abbrev pub NeedsNone : List Located → Bytes → Type 0
NeedsNone forms word = IsOwnArity forms word None

abbrev pub IsOwnGone : {S : Type 0} → List Located → HashMap Key Arity S → HashMap Key Arity S → Bytes → Type 0
IsOwnGone forms old new word = IsGoneThrough (IsRight forms) (NeedsNone forms) old new word

abbrev pub AreOwn : {S : Type 0} → List Located → List Bytes → HashMap Key Arity S → Type 0
AreOwn forms words table = IsTableOf (IsRight forms) (NeedsNone forms) words table

-- the own arities of words that nothing tells one are left out, and those of built-in words where no relation chain leads to them
pub record AreOwnArities {S : Type 0} (forms : List Located) (table : HashMap Key Arity S) : Type 0 where
  pub right : (word : Bytes) (arity : Arity) → find table word ≡ Some arity → IsRight forms word arity
  pub reached : (low word : Bytes) → Chain (links forms) kinds.Relation low word → find table word ≡ None → NeedsNone forms word
  pub others : (word : Bytes) → built_in word ≡ None → find table word ≡ None → NeedsNone forms word
