-- Tables of types, one for each number of an argument.
use Rattle.std.specs.Prelude.{◌≡◌, ℕ, List, true, false, nat_eq, Some, is_some}
use Rattle.std.specs.HashMap.{HashMap, get}
use Rattle.sigma_base.specs.Lists.{Each}
use Rattle.kif_tree.specs.Terms.{Bytes}
use Rattle.kif_tree.specs.declared.place.Located.{Located}
use Rattle.taxonomy.specs.Told.{links, ToldArgument, told_argument}
use Rattle.signatures.specs.declared.told.TypeTold.{TypeTold}
use Rattle.signatures.specs.declared.inherited.Inherited.{Inherited}
use Rattle.signatures.specs.Inherited.{Inherits}
use Rattle.signatures.specs.TypeTables.{AreToldTypes, type_at, NumberedTypes, types_for, as_found}
use Rattle.std.specs.List.{filter_map}

abbrev pub ArgumentTypes : Type 0 → Type 0
ArgumentTypes S = HashMap ℕ (Inherited (List TypeTold)) S

-- the table has what the forms tell of arguments with the number
abbrev pub IsTable : List Located → ℕ → Inherited (List TypeTold) → Type 0
IsTable forms number table = AreToldTypes (type_at number) forms table.own × Inherits (links forms) table

abbrev pub AreRight : {S : Type 0} → List Located → ArgumentTypes S → Type 0
AreRight forms tables = (number : ℕ) (table : Inherited (List TypeTold)) → get nat_eq tables number ≡ Some table → IsTable forms number table

-- a table is there for the number of the argument that the form tells of
abbrev pub IsThere : {S : Type 0} → ArgumentTypes S → Located → Type 0
IsThere tables located = (told : ToldArgument) → told_argument located ≡ Some told → is_some (get nat_eq tables told.number) ≡ true

-- where no table is there for a number, what the forms tell of arguments with it isn't taken yet
abbrev pub AreLeft : {S T : Type 0} → List Located → NumberedTypes S → ArgumentTypes T → Type 0
AreLeft forms own tables = (number : ℕ) (word : Bytes) → is_some (get nat_eq tables number) ≡ false → types_for own number word ≡ as_found (filter_map (type_at number word) forms)

pub record AddsNumber {S T : Type 0} (forms : List Located) (own_old own_new : NumberedTypes S) (old new : ArgumentTypes T) (located : Located) : Type 0 where
  pub right : AreLeft forms own_old old → AreRight forms old → AreRight forms new
  pub left : AreLeft forms own_old old → AreLeft forms own_new new
  pub kept : (number : ℕ) → is_some (get nat_eq old number) ≡ true → is_some (get nat_eq new number) ≡ true
  pub here : IsThere new located

-- right tables for those of the forms that were gone through
pub record AreTables {S : Type 0} (forms gone : List Located) (tables : ArgumentTypes S) : Type 0 where
  pub right : AreRight forms tables
  pub all : Each (IsThere tables) gone
