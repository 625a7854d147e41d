-- The tables of a list of forms, as they are read.
use Rattle.std.specs.Prelude.{◌≡◌, ℕ, List, [], nat_eq, Option, Some, None, unwrap_or}
use Rattle.std.specs.HashMap.{get}
use Rattle.kif_tree.specs.Terms.{Bytes}
use Rattle.kif_tree.specs.declared.place.Located.{Located}
use Rattle.signatures.specs.declared.told.Arity.{Arity}
use Rattle.signatures.specs.declared.told.Arity.TheVariants.{Unstated}
use Rattle.signatures.specs.declared.told.TypeTold.{TypeTold}
use Rattle.signatures.specs.declared.signatures.Signatures.{Signatures}
use Rattle.signatures.specs.WordTables.{find}
use Rattle.signatures.specs.Inherited.{first_found, value_in}
use Rattle.signatures.specs.declared.inherited.Inherited.{Inherited}
use Rattle.signatures.specs.Arities.{built_in, IsArity}
use Rattle.signatures.specs.Types.{AreTypes, ranges}
use Rattle.signatures.specs.Relations.{AreRelationNames}

-- the arity of a built-in word, or else the one that the table has
abbrev pub arity_by : Inherited Arity → Bytes → Arity
arity_by table word = unwrap_or (first_found (built_in word) (value_in table word)) Unstated

-- the arity that the tables have for the word
abbrev pub arity_in : Signatures → Bytes → Arity
arity_in tables word = arity_by tables.arities word

abbrev pub types_by : Option (Inherited (List TypeTold)) → Bytes → List TypeTold
types_by (Some table) word = unwrap_or (value_in table word) []
types_by None word = []

-- the types that the tables have for the word's argument
abbrev pub types_in : Signatures → Bytes → ℕ → List TypeTold
types_in tables word number = types_by (get nat_eq tables.types number) word

-- the ranges that the tables have for the word
abbrev pub ranges_in : Signatures → Bytes → List TypeTold
ranges_in tables word = unwrap_or (find tables.ranges word) []

-- the relation names of the tables
abbrev pub relations_in : Signatures → List Bytes
relations_in tables = tables.relations.items

-- what the tables have is what the forms say of each word, and nothing else
pub record AreSignatures (forms : List Located) (tables : Signatures) : Type 0 where
  pub arities : (word : Bytes) → IsArity forms word (arity_in tables word)
  pub types : (word : Bytes) (number : ℕ) → AreTypes forms word number (types_in tables word number)
  pub are_ranges : (word : Bytes) → ranges_in tables word ≡ ranges forms word
  pub relations : AreRelationNames forms (relations_in tables)
