-- How many arguments a word takes: the first of these rules that gives an arity.
use Rattle.std.specs.Prelude.{◌≡◌, ◌⊎◌, List, [], ◌∷◌, ◌++◌, ◌&&◌, if◌then◌else◌, codes, Option, Some, None}
use Rattle.std.specs.List.{filter_map}
use Rattle.std.specs.Str.{bytes_eq}
use Rattle.kif_tree.specs.Terms.{Bytes}
use Rattle.kif_tree.specs.Shape.{is_among, first_of}
use Rattle.kif_tree.specs.declared.place.Located.{Located}
use Rattle.taxonomy.specs.declared.told.ChainKind.TheVariants as kinds
use Rattle.taxonomy.specs.Chains.{Chain}
use Rattle.taxonomy.specs.Told.{Link, links, ToldNumber, numbers}
use Rattle.signatures.specs.Nearest.{IsNearest, NoneReached}
use Rattle.signatures.specs.declared.told.Arity.{Arity}
use Rattle.signatures.specs.declared.told.Arity.TheVariants.{Exactly, Any, Unstated}

-- ---- built-in words

abbrev pub words_of_two : List Bytes
words_of_two =
    codes "equal" ∷ codes "instance" ∷ codes "subclass" ∷ codes "subrelation" ∷ codes "disjoint" ∷ codes "range" ∷ codes "rangeSubclass" ∷ codes "valence" ∷ []

abbrev pub words_of_three : List Bytes
words_of_three = codes "domain" ∷ codes "domainSubclass" ∷ []

-- the words at the head of forms that are only shown
abbrev pub shown_heads : List Bytes
shown_heads = codes "documentation" ∷ codes "termFormat" ∷ codes "format" ∷ []

abbrev pub words_of_any : List Bytes
words_of_any = codes "partition" ∷ codes "disjointDecomposition" ∷ codes "exhaustiveDecomposition" ∷ shown_heads

abbrev pub built_in : Bytes → Option Arity
built_in word =
    if is_among words_of_two word then Some (Exactly 2)
    else if is_among words_of_three word then Some (Exactly 3)
    else if is_among words_of_any word then Some Any
    else None

-- ---- told valences

abbrev pub valence_in : Bytes → ToldNumber → Option Arity
valence_in word told = if bytes_eq told.head (codes "valence") && bytes_eq told.word word then Some (Exactly told.number) else None

-- the first told valence of the word
abbrev pub told_valence : List Located → Bytes → Option Arity
told_valence forms word = first_of (filter_map (valence_in word) (numbers forms))

-- ---- classes whose instances have an arity

pub record ClassArity : Type 0 where
  pub class : Bytes
  pub arity : Arity

abbrev pub gives : Bytes → Arity → ClassArity
gives class arity = record { class = class; arity = arity }

abbrev pub function_classes : List ClassArity
function_classes =
    gives (codes "UnaryFunction") (Exactly 1) ∷ gives (codes "BinaryFunction") (Exactly 2)
    ∷ gives (codes "TernaryFunction") (Exactly 3) ∷ gives (codes "QuaternaryFunction") (Exactly 4) ∷ []

abbrev pub relation_classes : List ClassArity
relation_classes =
    gives (codes "BinaryPredicate") (Exactly 2) ∷ gives (codes "BinaryRelation") (Exactly 2)
    ∷ gives (codes "TernaryPredicate") (Exactly 3) ∷ gives (codes "TernaryRelation") (Exactly 3)
    ∷ gives (codes "QuaternaryPredicate") (Exactly 4) ∷ gives (codes "QuaternaryRelation") (Exactly 4)
    ∷ gives (codes "QuintaryPredicate") (Exactly 5) ∷ gives (codes "QuintaryRelation") (Exactly 5) ∷ []

abbrev pub variable_classes : List ClassArity
variable_classes = gives (codes "VariableArityRelation") Any ∷ []

-- classes of functions, then of relations, then of relations with any number of arguments
abbrev pub arity_classes : List ClassArity
arity_classes = function_classes ++ relation_classes ++ variable_classes

-- the first of the classes to which an instance chain leads from the word gives the arity, and where there is none, nothing is given
abbrev pub IsByClass : List Link → Bytes → List ClassArity → Option Arity → Type 0
IsByClass links word [] given = given ≡ None
IsByClass links word (entry ∷ classes) given =
    (Chain links kinds.Instance word entry.class × (given ≡ Some entry.arity))
    ⊎ ((Chain links kinds.Instance word entry.class → ⊥) × IsByClass links word classes given)

-- ---- the rules

-- what the first rule gives, or else what the next ones give
abbrev pub OrElse : Option Arity → (Option Arity → Type 0) → Option Arity → Type 0
OrElse (Some arity) Next given = given ≡ Some arity
OrElse None Next given = Next given

-- the word's own arity: that of a built-in word, its first told valence, or by the classes of functions, of relations, and of relations with any number of arguments
abbrev pub IsOwnArity : List Located → Bytes → Option Arity → Type 0
IsOwnArity forms word =
    OrElse (built_in word) (OrElse (told_valence forms word) (IsByClass (links forms) word arity_classes))

abbrev pub HasOwnArity : List Located → Bytes → Type 0
HasOwnArity forms word = (arity : Arity) × IsOwnArity forms word (Some arity)

-- the arity of the nearest word with an arity of its own
pub record IsInheritedArity (forms : List Located) (word : Bytes) (arity : Arity) : Type 0 where
  pub near : Bytes
  pub nearest : IsNearest (links forms) (HasOwnArity forms) word near
  pub own : IsOwnArity forms near (Some arity)

-- no word has an arity of its own to which a relation chain leads
pub record IsUnstated (forms : List Located) (word : Bytes) (arity : Arity) : Type 0 where
  pub none : NoneReached (links forms) (HasOwnArity forms) word
  pub unstated : arity ≡ Unstated

-- the word's own arity, or else that of the nearest word that has one, or else it is unstated
abbrev pub IsArity : List Located → Bytes → Arity → Type 0
IsArity forms word arity = IsOwnArity forms word (Some arity) ⊎ (IsOwnArity forms word None × (IsInheritedArity forms word arity ⊎ IsUnstated forms word arity))
