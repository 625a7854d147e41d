-- The types of arguments and the ranges of functions.
use Rattle.std.specs.Prelude.{◌≡◌, ◌≢◌, ℕ, ◌⊎◌, List, [], Bool, true, false, ◌&&◌, nat_eq, if◌then◌else◌, codes, Option, Some, None}
use Rattle.std.specs.List.{filter_map}
use Rattle.std.specs.Option.{option_map}
use Rattle.std.specs.Str.{bytes_eq}
use Rattle.kif_tree.specs.Terms.{Bytes}
use Rattle.kif_tree.specs.declared.place.Located.{Located}
use Rattle.kif_tree.specs.declared.place.Place.{Place}
use Rattle.taxonomy.specs.Told.{links, ToldArgument, arguments, ToldPair, pairs}
use Rattle.signatures.specs.Nearest.{IsNearest, NoneReached}
use Rattle.signatures.specs.declared.told.TypeTold.{TypeTold}

-- whether a form of this head tells of subclasses, where it has one of the two heads
abbrev pub tells_subclass : Bytes → Bytes → Bytes → Option Bool
tells_subclass of_instances of_subclasses head = if bytes_eq head of_instances then Some false else if bytes_eq head of_subclasses then Some true else None

abbrev pub type_told : Bytes → Place → Option Bool → Option TypeTold
type_told class place = option_map (λ (subclass : Bool). record { subclass = subclass; class = class; place = place })

abbrev pub type_in : Bytes → ℕ → ToldArgument → Option TypeTold
type_in word number told =
    if bytes_eq told.word word && nat_eq told.number number then type_told told.class told.place (tells_subclass (codes "domain") (codes "domainSubclass") told.head)
    else None

-- what `domain` and `domainSubclass` forms tell of the word's argument, in order
abbrev pub own_types : List Located → Bytes → ℕ → List TypeTold
own_types forms word number = filter_map (type_in word number) (arguments forms)

abbrev pub HasTypes : List Located → ℕ → Bytes → Type 0
HasTypes forms number word = own_types forms word number ≢ []

-- the types of the nearest word that has some for this argument
pub record AreInherited (forms : List Located) (word : Bytes) (number : ℕ) (types : List TypeTold) : Type 0 where
  pub near : Bytes
  pub nearest : IsNearest (links forms) (HasTypes forms number) word near
  pub own : types ≡ own_types forms near number

-- no word has types for this argument to which a relation chain leads
pub record AreNone (forms : List Located) (word : Bytes) (number : ℕ) (types : List TypeTold) : Type 0 where
  pub none : NoneReached (links forms) (HasTypes forms number) word
  pub is : types ≡ []

-- the types told of the word's argument, or else those of the nearest word that has some for it, or else none
abbrev pub AreTypes : List Located → Bytes → ℕ → List TypeTold → Type 0
AreTypes forms word number types =
    (HasTypes forms number word × (types ≡ own_types forms word number))
    ⊎ ((own_types forms word number ≡ []) × (AreInherited forms word number types ⊎ AreNone forms word number types))

abbrev pub range_in : Bytes → ToldPair → Option TypeTold
range_in word told = if bytes_eq told.first word then type_told told.second told.place (tells_subclass (codes "range") (codes "rangeSubclass") told.head) else None

-- what `range` and `rangeSubclass` forms tell of the function's values, in order; no other word's
abbrev pub ranges : List Located → Bytes → List TypeTold
ranges forms word = filter_map (range_in word) (pairs forms)
