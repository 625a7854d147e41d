-- Types told of words, as tables of them grow.
use Rattle.std.specs.Prelude.{◌≡◌, ℕ, List, [], ◌∷◌, ◌++◌, nat_eq, Option, Some, None, if◌then◌else◌}
use Rattle.std.specs.HashMap.{HashMap, get}
use Rattle.std.specs.List.{filter_map, cons_option}
use Rattle.std.specs.Str.{bytes_eq}
use Rattle.kif_tree.specs.Terms.{Bytes}
use Rattle.kif_tree.specs.declared.place.Located.{Located}
use Rattle.taxonomy.specs.Told.{ToldArgument, told_argument, ToldPair, told_pair}
use Rattle.signatures.specs.declared.told.TypeTold.{TypeTold}
use Rattle.signatures.specs.declared.types.FoundType.{FoundType}
use Rattle.signatures.specs.Types.{type_in, range_in}
use Rattle.signatures.specs.WordTables.{Key, find}

-- a list that a table has; it has none that is empty
abbrev pub as_found : List TypeTold → Option (List TypeTold)
as_found [] = None
as_found (told ∷ more) = Some (told ∷ more)

-- what is found, where it is told of the word
abbrev pub found_for : Bytes → Option FoundType → Option TypeTold
found_for word (Some found) = if bytes_eq found.word.now word then Some (record { subclass = found.subclass; class = found.class.now; place = found.place }) else None
found_for word None = None

abbrev pub type_by : Bytes → ℕ → Option ToldArgument → Option TypeTold
type_by word number (Some told) = type_in word number told
type_by word number None = None

abbrev pub range_by : Bytes → Option ToldPair → Option TypeTold
range_by word (Some told) = range_in word told
range_by word None = None

-- what the form tells of the word's argument, and of the function's values
abbrev pub type_at : ℕ → Bytes → Located → Option TypeTold
type_at number word located = type_by word number (told_argument located)

abbrev pub range_at : Bytes → Located → Option TypeTold
range_at word located = range_by word (told_pair located)

-- what is found is added last for its word
abbrev pub AddsFound : {S : Type 0} → HashMap Key (List TypeTold) S → HashMap Key (List TypeTold) S → Option FoundType → Type 0
AddsFound old new found = (word : Bytes) (types : List TypeTold) → find old word ≡ as_found types → find new word ≡ as_found (types ++ cons_option (found_for word found) [])

-- the table has what the forms tell of each word
abbrev pub AreToldTypes : {S : Type 0} → (Bytes → Located → Option TypeTold) → List Located → HashMap Key (List TypeTold) S → Type 0
AreToldTypes told forms table = (word : Bytes) → find table word ≡ as_found (filter_map (told word) forms)

-- ---- tables by the numbers of arguments

abbrev pub NumberedTypes : Type 0 → Type 0
NumberedTypes S = HashMap ℕ (HashMap Key (List TypeTold) S) S

abbrev pub find_types : {S : Type 0} → Option (HashMap Key (List TypeTold) S) → Bytes → Option (List TypeTold)
find_types (Some table) word = find table word
find_types None word = None

-- what the tables have for the word's argument
abbrev pub types_for : {S : Type 0} → NumberedTypes S → ℕ → Bytes → Option (List TypeTold)
types_for tables number word = find_types (get nat_eq tables number) word

-- what the form tells is added last for its word and number
abbrev pub AddsArgument : {S : Type 0} → NumberedTypes S → NumberedTypes S → Located → Type 0
AddsArgument old new located =
    (number : ℕ) (word : Bytes) (types : List TypeTold) → types_for old number word ≡ as_found types → types_for new number word ≡ as_found (types ++ cons_option (type_at number word located) [])

-- the tables have what the forms tell of each word's arguments
abbrev pub AreArguments : {S : Type 0} → List Located → NumberedTypes S → Type 0
AreArguments forms tables = (number : ℕ) (word : Bytes) → types_for tables number word ≡ as_found (filter_map (type_at number word) forms)
