-- Chains of told forms, each of which begins where the one before it ended.
use Rattle.std.specs.Prelude.{◌≡◌, ℕ, ◌≤◌, ◌⊎◌, List, [], ◌∷◌, map, filter, length, Contains}
use Rattle.std.specs.Str.{bytes_eq}
use Rattle.kif_tree.specs.Terms.{Bytes}
use Rattle.sigma_base.specs.Lists.{Each}
use Rattle.taxonomy.specs.declared.told.ChainKind.{ChainKind}
use Rattle.taxonomy.specs.declared.told.ChainKind.TheVariants as kinds
use Rattle.taxonomy.specs.declared.told.Told.{Told}
use Rattle.taxonomy.specs.Told.{Link}

-- the links lead from the first word to the second
abbrev pub Joins : List Link → Bytes → Bytes → Type 0
Joins [] low high = low ≡ high
Joins (link ∷ chain) low high = (link.low ≡ low) × Joins chain link.high high

-- the kind of a chain's links behind the first: a class chain follows an instance
abbrev pub later_kind : ChainKind → ChainKind
later_kind kinds.Class = kinds.Class
later_kind kinds.Instance = kinds.Class
later_kind kinds.Relation = kinds.Relation

abbrev pub OfKind : ChainKind → List Link → Type 0
OfKind kind chain = Each (λ (link : Link). link.kind ≡ kind) chain

-- one or more links, of the kinds that such a chain has
abbrev pub IsChain : ChainKind → List Link → Type 0
IsChain kind [] = ⊥
IsChain kind (link ∷ chain) = (link.kind ≡ kind) × OfKind (later_kind kind) chain

-- a chain of told links
pub record Chain (links : List Link) (kind : ChainKind) (low high : Bytes) : Type 0 where
  pub chain : List Link
  pub told : Each (λ (link : Link). Contains links link) chain
  pub is : IsChain kind chain
  pub joins : Joins chain low high

-- a shortest chain has this length
pub record IsDistance (links : List Link) (kind : ChainKind) (low high : Bytes) (n : ℕ) : Type 0 where
  pub shortest : Chain links kind low high
  pub long : length shortest.chain ≡ n
  pub least : (other : Chain links kind low high) → n ≤ length other.chain

-- the word itself, or one to which a class or instance chain leads from it
abbrev pub IsAtOrAbove : List Link → Bytes → Bytes → Type 0
IsAtOrAbove links word above = (word ≡ above) ⊎ (Chain links kinds.Class word above ⊎ Chain links kinds.Instance word above)

abbrev pub as_told : Link → Told
as_told link = record { kind = link.kind; parent = link.high; place = link.place }

-- what the links tell of the word, in order
abbrev pub parents : List Link → Bytes → List Told
parents links word = map as_told (filter (λ (link : Link). bytes_eq link.low word) links)
