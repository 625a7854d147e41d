-- Told links and disjoint words with numbers in place of words.
use Rattle.std.specs.Prelude.{◌≡◌, ℕ, ◌<◌, List, [], ◌∷◌, ◌++◌, map, length, get_or}
use Rattle.std.specs.List.{filter_map}
use Rattle.kif_tree.specs.Terms.{Bytes}
use Rattle.kif_tree.specs.declared.form.Form.{Form}
use Rattle.kif_tree.specs.declared.place.Located.{Located}
use Rattle.sigma_base.specs.Lists.{Each}
use Rattle.taxonomy.specs.declared.numbered.NumberedLink.{NumberedLink}
use Rattle.taxonomy.specs.declared.numbered.NumberedGroup.{NumberedGroup}
use Rattle.taxonomy.specs.Names.{Extends}
use Rattle.taxonomy.specs.Told.{Link, DisjointWords, links, disjoint_words, word_text}

-- the word that has the number
abbrev pub word : List Bytes → ℕ → Bytes
word words number = get_or words number []

abbrev pub named : List Bytes → NumberedLink → Link
named words link = record { kind = link.kind; low = word words link.low; high = word words link.high; place = link.place }

abbrev pub named_group : List Bytes → NumberedGroup → DisjointWords
named_group words group = record { words = map (word words) group.words; place = group.place }

abbrev pub AreBelow : ℕ → List ℕ → Type 0
AreBelow count numbers = Each (λ (number : ℕ). number < count) numbers

abbrev pub LinksWithin : ℕ → List NumberedLink → Type 0
LinksWithin count links = Each (λ (link : NumberedLink). (link.low < count) × (link.high < count)) links

abbrev pub GroupsWithin : ℕ → List NumberedGroup → Type 0
GroupsWithin count groups = Each (λ (group : NumberedGroup). AreBelow count group.words) groups

-- the links are those that the forms tell
pub record AreLinks (forms : List Located) (words : List Bytes) (found : List NumberedLink) : Type 0 where
  pub within : LinksWithin (length words) found
  pub are : map (named words) found ≡ links forms

-- the numbers are those of the parts that are words
pub record AreWords (parts : List Form) (words : List Bytes) (numbers : List ℕ) : Type 0 where
  pub within : AreBelow (length words) numbers
  pub are : map (word words) numbers ≡ filter_map word_text parts

-- the groups are those that the forms tell
pub record AreGroups (forms : List Located) (words : List Bytes) (groups : List NumberedGroup) : Type 0 where
  pub within : GroupsWithin (length words) groups
  pub are : map (named_group words) groups ≡ disjoint_words forms

-- with one more form
pub record AddsLink (form : Located) (old_words new_words : List Bytes) (old new : List NumberedLink) : Type 0 where
  pub extends : Extends old_words new_words
  pub adds : (forms : List Located) → AreLinks forms old_words old → AreLinks (forms ++ form ∷ []) new_words new

pub record AddsWord (part : Form) (old_words new_words : List Bytes) (old new : List ℕ) : Type 0 where
  pub extends : Extends old_words new_words
  pub adds : (parts : List Form) → AreWords parts old_words old → AreWords (parts ++ part ∷ []) new_words new

pub record AddsGroup (form : Located) (old_words new_words : List Bytes) (old new : List NumberedGroup) : Type 0 where
  pub extends : Extends old_words new_words
  pub adds : (forms : List Located) → AreGroups forms old_words old → AreGroups (forms ++ form ∷ []) new_words new
