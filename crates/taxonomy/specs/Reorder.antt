-- Numbers that are given anew, each as its place in an order.
use Rattle.std.specs.Prelude.{◌≡◌, ℕ, ◌<◌, ◌⊎◌, List, [], map, length, get_or}
use Rattle.kif_tree.specs.Terms.{Bytes}
use Rattle.taxonomy.specs.declared.numbered.NumberedLink.{NumberedLink}
use Rattle.taxonomy.specs.Numbered.{named, LinksWithin}

-- the place that a number has
abbrev pub place : List ℕ → ℕ → ℕ
place places number = get_or places number 0

-- the order has each number below the count once, and these are their places
pub record ArePlaces (count : ℕ) (order places : List ℕ) : Type 0 where
  pub long : length order ≡ count
  pub each : length places ≡ count
  pub stands : (number : ℕ) → number < count → (place places number < count) × (get_or order (place places number) 0 ≡ number)
  pub placed : (at : ℕ) → at < count → (get_or order at 0 < count) × (place places (get_or order at 0) ≡ at)

-- no place is known yet
pub record AreUnknown (count : ℕ) (places : List ℕ) : Type 0 where
  pub each : length places ≡ count
  pub unknown : (number : ℕ) → number < count → place places number ≡ count

-- the places of what stands before the given place in the order; the count stands for places that aren't known
pub record AreSomePlaces (count before : ℕ) (order places : List ℕ) : Type 0 where
  pub each : length places ≡ count
  pub stands : (number : ℕ) → number < count → (place places number ≡ count) ⊎ ((place places number < before) × (get_or order (place places number) 0 ≡ number))
  pub placed : (at : ℕ) → at < before → (get_or order at 0 < count) × (place places (get_or order at 0) ≡ at)

-- different places of the order have different numbers below the count
pub record AreDistinctBelow (count : ℕ) (order : List ℕ) : Type 0 where
  pub below : (at : ℕ) → at < length order → get_or order at 0 < count
  pub distinct : (at other : ℕ) → at < length order → other < length order → get_or order at 0 ≡ get_or order other 0 → at ≡ other

-- the new list has at each place what the old one had at the number that stands there in the order
pub record AreReordered (order : List ℕ) (old new : List Bytes) : Type 0 where
  pub long : length new ≡ length order
  pub are : (at : ℕ) → at < length order → get_or new at [] ≡ get_or old (get_or order at 0) []

-- the link with the places of its numbers
abbrev pub moved : List ℕ → NumberedLink → NumberedLink
moved places link = record { kind = link.kind; low = place places link.low; high = place places link.high; place = link.place }

-- the new links say with the new words what the old ones say with the old words
pub record AreMoved (old_words new_words : List Bytes) (old new : List NumberedLink) : Type 0 where
  pub within : LinksWithin (length new_words) new
  pub same : map (named new_words) new ≡ map (named old_words) old
