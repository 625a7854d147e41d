-- The words below words, by told `subrelation` forms.
use Rattle.std.specs.Prelude.{◌≡◌, List, [], Bool, true, false, ◌&&◌, ◌||◌, Option, Some, None, unwrap_or}
use Rattle.std.specs.HashMap.{HashMap}
use Rattle.std.specs.List.{list_any}
use Rattle.std.specs.Str.{bytes_eq}
use Rattle.kif_tree.specs.Terms.{Bytes}
use Rattle.kif_tree.specs.Shape.{is_among}
use Rattle.kif_tree.specs.declared.place.Located.{Located}
use Rattle.taxonomy.specs.declared.told.ChainKind.{ChainKind}
use Rattle.taxonomy.specs.declared.told.ChainKind.TheVariants as kinds
use Rattle.taxonomy.specs.Told.{Link, told_link}
use Rattle.signatures.specs.WordTables.{Key, find}

abbrev pub is_relation : ChainKind → Bool
is_relation kinds.Class = false
is_relation kinds.Instance = false
is_relation kinds.Relation = true

abbrev pub lower_by : Bytes → Bytes → Option Link → Bool
lower_by low high (Some link) = is_relation link.kind && (bytes_eq high link.high && bytes_eq low link.low)
lower_by low high None = false

-- the form is a `subrelation` form that calls the first word lower than the second
abbrev pub is_lower : Bytes → Bytes → Located → Bool
is_lower low high located = lower_by low high (told_link located)

-- the words that the table has for the word
abbrev pub lows_of : {S : Type 0} → HashMap Key (List Bytes) S → Bytes → List Bytes
lows_of table high = unwrap_or (find table high) []

-- what the form tells is there besides
abbrev pub AddsLower : {S : Type 0} → HashMap Key (List Bytes) S → HashMap Key (List Bytes) S → Located → Type 0
AddsLower old new located = (low high : Bytes) → is_among (lows_of new high) low ≡ (is_among (lows_of old high) low || is_lower low high located)

-- the table has for each word those that the forms call lower
abbrev pub AreLowers : {S : Type 0} → List Located → HashMap Key (List Bytes) S → Type 0
AreLowers forms table = (low high : Bytes) → is_among (lows_of table high) low ≡ list_any (is_lower low high) forms
