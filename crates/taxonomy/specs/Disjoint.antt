-- Words that are disjoint by a told form at or above them.
use Rattle.std.specs.Prelude.{◌≡◌, ◌≢◌, List, ◌∷◌, ◌++◌, Contains}
use Rattle.kif_tree.specs.Terms.{Bytes}
use Rattle.kif_tree.specs.declared.place.Place.{Place}
use Rattle.sigma_base.specs.Lists.{Each}
use Rattle.taxonomy.specs.Chains.{IsAtOrAbove}
use Rattle.taxonomy.specs.Told.{Link, DisjointWords, ToldTaxonomy}

-- one of two different words of the form is at or above the first word, and the other at or above the second
pub record Separates (links : List Link) (form : DisjointWords) (first second : Bytes) : Type 0 where
  pub one : Bytes
  pub other : Bytes
  pub has_one : Contains form.words one
  pub has_other : Contains form.words other
  pub apart : one ≢ other
  pub above_first : IsAtOrAbove links first one
  pub above_second : IsAtOrAbove links second other

-- no told form separates the words
abbrev pub AreNotDisjoint : ToldTaxonomy → Bytes → Bytes → Type 0
AreNotDisjoint taxonomy first second = Each (λ form. Separates taxonomy.links form first second → ⊥) taxonomy.disjoint

-- the first told form that separates the words stands at the place
pub record AreDisjointBy (taxonomy : ToldTaxonomy) (first second : Bytes) (place : Place) : Type 0 where
  pub before : List DisjointWords
  pub form : DisjointWords
  pub after : List DisjointWords
  pub stands : taxonomy.disjoint ≡ before ++ form ∷ after
  pub separates : Separates taxonomy.links form first second
  pub first_of_all : Each (λ earlier. Separates taxonomy.links earlier first second → ⊥) before
  pub at_place : form.place ≡ place
