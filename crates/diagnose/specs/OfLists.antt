-- What is wrong with the arguments of one list.
use Rattle.std.specs.Prelude.{◌≡◌, ◌≢◌, ℕ, ◌+◌, ◌<◌, ◌⊎◌, List, [], ◌∷◌, length, slice_index_or, Bool, false, not, ◌&&◌, nat_eq, codes, Some, None}
use Rattle.std.specs.List.{list_any}
use Rattle.kif_tree.specs.Terms.{Bytes}
use Rattle.kif_tree.specs.Shape.{is_among, logical_words}
use Rattle.kif_tree.specs.declared.form.Form.{Form}
use Rattle.kif_tree.specs.declared.form.Form.TheVariants as form
use Rattle.kif_tree.specs.declared.place.Located.{Located}
use Rattle.kif_tree.specs.declared.place.Place.{Place}
use Rattle.taxonomy.specs.Chains.{parents}
use Rattle.taxonomy.specs.Told.{links}
use Rattle.signatures.specs.Arities.{IsArity}
use Rattle.signatures.specs.Types.{AreTypes, ranges}
use Rattle.signatures.specs.declared.told.Arity.{Arity}
use Rattle.signatures.specs.declared.told.Arity.TheVariants.{Exactly, Any, Unstated}
use Rattle.signatures.specs.declared.told.TypeTold.{TypeTold}
use Rattle.diagnose.specs.Arguments.{is_row, Fits, IsSubclassOf, IsWrongWord, IsWrongValue}
use Rattle.diagnose.specs.Found.{OfSome}
use Rattle.diagnose.specs.declared.diagnostic.Diagnostic.{Diagnostic}

-- ---- how many arguments

-- an exact arity is another count than that of the arguments, none of which is a row variable
abbrev pub is_wrong_count : Arity → List Form → Bool
is_wrong_count (Exactly count) arguments = not (nat_eq (length arguments) count) && not (list_any is_row arguments)
is_wrong_count Any arguments = false
is_wrong_count Unstated arguments = false

-- the count of a list's arguments
pub record IsOfCount (forms : List Located) (place : Place) (head : Bytes) (arguments : List Form) (d : Diagnostic) : Type 0 where
  pub at : d.place ≡ place
  pub code : d.code ≡ 5
  pub no_row : list_any is_row arguments ≡ false
  pub count : ℕ
  pub arity : IsArity forms head (Exactly count)
  pub apart : length arguments ≢ count
  pub term : d.term ≡ head
  pub alone : d.other ≡ None

-- ---- types of arguments

-- a word with a told parent that hasn't the type
pub record IsUnfitWord (forms : List Located) (type : TypeTold) (word : Bytes) : Type 0 where
  pub has_parent : parents (links forms) word ≢ []
  pub unfit : Fits (links forms) type word → ⊥

-- a function whose first told range doesn't lead to the class of which an instance is wanted
pub record IsUnfitFunction (forms : List Located) (type : TypeTold) (function : Bytes) : Type 0 where
  pub range : TypeTold
  pub more : List TypeTold
  pub has_range : ranges forms function ≡ range ∷ more
  pub of_instances : range.subclass ≡ false
  pub wants_instances : type.subclass ≡ false
  pub unfit : IsSubclassOf (links forms) range.class type.class → ⊥

-- the term is to blame that a list of these parts hasn't the type
abbrev pub IsWrongParts : List Located → TypeTold → List Form → Bytes → Type 0
IsWrongParts forms type parts term = IsWrongValue forms type (form.List parts) term

-- the term is to blame that the argument hasn't the type
pub record IsMisfit (forms : List Located) (type : TypeTold) (argument : Form) (term : Bytes) : Type 0 where
  pub not_entity : type.class ≢ codes "Entity"
  pub wrong : IsWrongWord forms type argument term ⊎ IsWrongValue forms type argument term

-- one type that is told of an argument
pub record IsOfType (forms : List Located) (place : Place) (argument : Form) (type : TypeTold) (d : Diagnostic) : Type 0 where
  pub at : d.place ≡ place
  pub code : d.code ≡ 4
  pub misfit : IsMisfit forms type argument d.term
  pub names : d.other ≡ Some type.place

-- the types of the argument with this number
pub record IsOfArgument (forms : List Located) (place : Place) (head : Bytes) (number : ℕ) (argument : Form) (d : Diagnostic) : Type 0 where
  pub types : List TypeTold
  pub are_types : AreTypes forms head number types
  pub of_type : OfSome (IsOfType forms place argument) types d

-- the types of an argument of the list, of those before an index
pub record IsOfTypes (forms : List Located) (place : Place) (head : Bytes) (arguments : List Form) (end : ℕ) (d : Diagnostic) : Type 0 where
  pub index : ℕ
  pub argument : Form
  pub within : index < length arguments
  pub before_end : index < end
  pub stands : slice_index_or arguments index argument ≡ argument
  pub of_argument : IsOfArgument forms place head (index + 1) argument d

-- ---- lists

abbrev pub IsOfHeaded : List Located → Place → Bytes → List Form → Diagnostic → Type 0
IsOfHeaded forms place head arguments d = IsOfCount forms place head arguments d ⊎ IsOfTypes forms place head arguments (length arguments) d

-- a list of these parts
pub record IsOfParts (forms : List Located) (place : Place) (parts : List Form) (d : Diagnostic) : Type 0 where
  pub head : Bytes
  pub arguments : List Form
  pub is : parts ≡ form.Word head ∷ arguments
  pub not_logical : is_among logical_words head ≡ false
  pub of_headed : IsOfHeaded forms place head arguments d
