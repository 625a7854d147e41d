-- What a taxonomy keeps of told forms, and how it shows them.
use Rattle.std.specs.Prelude.{◌≡◌, ◌≢◌, ℕ, ◌<◌, List, [], map, take, length, get_or, Bool, MatchBool, Contains, Option, Some, None}
use Rattle.kif_tree.specs.Terms.{Bytes}
use Rattle.sigma_base.specs.Lists.{Each}
use Rattle.taxonomy.specs.declared.closure.Edge.{Edge}
use Rattle.taxonomy.specs.declared.numbered.NumberedGroup.{NumberedGroup}
use Rattle.taxonomy.specs.declared.numbered.NumberedLink.{NumberedLink}
use Rattle.taxonomy.specs.declared.runs.Run.{Run}
use Rattle.taxonomy.specs.declared.tables.Tables.{Tables}
use Rattle.taxonomy.specs.declared.told.ChainKind.{ChainKind}
use Rattle.taxonomy.specs.declared.told.ChainKind.TheVariants as kinds
use Rattle.taxonomy.specs.declared.told.Told.{Told}
use Rattle.taxonomy.specs.Chains.{parents, OfKind, Joins, IsAtOrAbove}
use Rattle.taxonomy.specs.Disjoint.{Separates}
use Rattle.taxonomy.specs.Graph.{IsClosure, Sets}
use Rattle.taxonomy.specs.Names.{AreNumbered}
use Rattle.taxonomy.specs.Numbered.{word, named, named_group, LinksWithin, GroupsWithin}
use Rattle.taxonomy.specs.Starts.{AreStarts}
use Rattle.taxonomy.specs.Told.{Link, ToldTaxonomy}

-- the answer is whether P holds
abbrev pub Tells : Bool → Type 0 → Type 0
Tells answer P = MatchBool answer P (P → ⊥)

abbrev pub edge_of : NumberedLink → Edge
edge_of link = record { low = link.low; high = link.high }

-- the edges are those of the links of the kind
pub record AreEdges (kind : ChainKind) (links : List NumberedLink) (edges : List Edge) : Type 0 where
  pub told : Each (λ (edge : Edge). (link : NumberedLink) × Contains links link × (link.kind ≡ kind) × (edge_of link ≡ edge)) edges
  pub all : Each (λ (link : NumberedLink). link.kind ≡ kind → Contains edges (edge_of link)) links

-- different numbers have different words
abbrev pub AreDistinct : List Bytes → Type 0
AreDistinct words = (n m : ℕ) → n < length words → m < length words → word words n ≡ word words m → n ≡ m

pub record AreEmptyRows (count : ℕ) (rows : List (List Told)) : Type 0 where
  pub long : length rows ≡ count
  pub empty : (n : ℕ) → n < count → get_or rows n [] ≡ []

-- each word has a row of what the links tell of it
pub record AreRows (words : List Bytes) (links : List NumberedLink) (rows : List (List Told)) : Type 0 where
  pub long : length rows ≡ length words
  pub are : (n : ℕ) → n < length words → get_or rows n [] ≡ parents (map (named words) links) (word words n)

-- none or more links of the kind lead from the first word to the second
pub record Passes (links : List Link) (kind : ChainKind) (low high : Bytes) : Type 0 where
  pub chain : List Link
  pub told : Each (λ (link : Link). Contains links link) chain
  pub are : OfKind kind chain
  pub joins : Joins chain low high

-- what numbered links and groups say in words
abbrev pub shown_as : List Bytes → List NumberedLink → List NumberedGroup → ToldTaxonomy
shown_as words links groups = record { links = map (named words) links; disjoint = map (named_group words) groups }

-- what the tables show of the forms
abbrev pub shown : Tables → ToldTaxonomy
shown tables = shown_as tables.names.words.items tables.links.items tables.groups.items

-- the word of the number
abbrev pub word_at : Tables → ℕ → Bytes
word_at tables number = word tables.names.words.items number

-- the sets are those that one or more links of the kind give
pub record AreSets (kind : ChainKind) (count : ℕ) (links : List NumberedLink) (sets : List (List Run)) : Type 0 where
  pub edges : List Edge
  pub are : AreEdges kind links edges
  pub closed : IsClosure edges count sets

-- the links of a kind are among the edges
abbrev pub HasEdges : ChainKind → List NumberedLink → List Edge → Type 0
HasEdges kind links edges = Each (λ (link : NumberedLink). link.kind ≡ kind → Contains edges (edge_of link)) links

-- sets that have what is at or above a word, and maybe more, and where the groups start that two of them share
pub record AreSelfStarts (count : ℕ) (links : List NumberedLink) (groups : List NumberedGroup) (found : List ℕ) : Type 0 where
  pub edges : List Edge
  pub classes : HasEdges kinds.Class links edges
  pub instances : HasEdges kinds.Instance links edges
  pub sets : Sets
  pub closed : IsClosure edges count sets
  pub starts : AreStarts sets groups (length groups) found

-- what the tables hold goes together
pub record AreTables (tables : Tables) : Type 0 where
  pub numbered : AreNumbered tables.names.keys.entries tables.names.places.items tables.names.words.items
  pub links : LinksWithin (length tables.names.words.items) tables.links.items
  pub groups : GroupsWithin (length tables.names.words.items) tables.groups.items
  pub rows : AreRows tables.names.words.items tables.links.items tables.rows.items
  pub classes : AreSets kinds.Class (length tables.names.words.items) tables.links.items tables.classes.items
  pub relations : AreSets kinds.Relation (length tables.names.words.items) tables.links.items tables.relations.items
  pub starts : 0 < length tables.starts.items → AreSelfStarts (length tables.names.words.items) tables.links.items tables.groups.items tables.starts.items

-- a number other than the one that is left out
abbrev pub IsOther : Option ℕ → ℕ → Type 0
IsOther None number = Unit {0}
IsOther (Some but) number = number ≢ but

-- a word of the group, other than the one that is left out, is at or above the word
abbrev pub IsFound : Tables → List ℕ → Bytes → Option ℕ → ℕ → Type 0
IsFound tables group text but number = Contains group number × IsOther but number × IsAtOrAbove (shown tables).links text (word_at tables number)

abbrev pub NoneIsFound : Tables → List ℕ → Bytes → Option ℕ → Type 0
NoneIsFound tables group text but = Each (λ (number : ℕ). IsOther but number → IsAtOrAbove (shown tables).links text (word_at tables number) → ⊥) group

-- none of so many first groups separates the words
abbrev pub NoneSeparates : Tables → ℕ → Bytes → Bytes → Type 0
NoneSeparates tables many first second =
    Each (λ (group : NumberedGroup). Separates (shown tables).links (named_group tables.names.words.items group) first second → ⊥) (take many tables.groups.items)
