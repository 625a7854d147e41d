-- Diagnostics of one form, as they are put in order.
use Rattle.std.specs.Prelude.{◌≡◌, ℕ, ◌⊎◌, ◌↔◌, Bool, true, ◌&&◌, nat_lt, List, [], ◌∷◌, ◌++◌, map, Option, Some, None, Contains, slice_get}
use Rattle.std.specs.BTreeMap.{BTreeMap, get_by}
use Rattle.std.specs.Cmp.Lexicographic.{slice_cmp}
use Rattle.std.specs.Option.{option_cmp}
use Rattle.std.specs.Ordering.{nat_cmp, ordering_then}
use Rattle.std.specs.declared.cmp.Ordering.{Ordering}
use Rattle.std.specs.BTreeSet.{BTreeSet, IsOrdered}
use Rattle.sigma_base.specs.Lists.{Each}
use Rattle.kif_tree.specs.declared.place.Located.{Located}
use Rattle.kif_tree.specs.declared.place.Place.{Place}
use Rattle.diagnose.specs.declared.diagnostic.Diagnostic.{Diagnostic}
use Rattle.diagnose.specs.declared.order.Rank.{Rank}
use Rattle.diagnose.specs.Diagnostics.{AreAscending}

-- places by their numbers in turn
abbrev pub place_order : Place → Place → Ordering
place_order a b = ordering_then (nat_cmp a.constituent b.constituent) (ordering_then (nat_cmp a.form b.form) (ordering_then (nat_cmp a.line b.line) (nat_cmp a.column b.column)))

-- ranks by code, term and position
abbrev pub rank_order : Rank → Rank → Ordering
rank_order a b = ordering_then (nat_cmp a.code b.code) (ordering_then (slice_cmp nat_cmp a.term b.term) (option_cmp nat_cmp a.other b.other))

abbrev pub find : BTreeMap Place ℕ → Place → Option ℕ
find table place = get_by (place_order place) table

-- each form's place has the form's position
pub record ArePositions (forms : List Located) (table : BTreeMap Place ℕ) : Type 0 where
  pub found : (n : ℕ) (located : Located) → slice_get forms n ≡ Some located → find table located.place ≡ Some n

abbrev pub position_of : BTreeMap Place ℕ → Option Place → Option ℕ
position_of table None = None
position_of table (Some place) = find table place

abbrev pub place_of : Option Located → Option Place
place_of (Some located) = Some located.place
place_of None = None

abbrev pub place_at : List Located → Option ℕ → Option Place
place_at forms None = None
place_at forms (Some position) = place_of (slice_get forms position)

abbrev pub rank_of : BTreeMap Place ℕ → Diagnostic → Rank
rank_of table d = record { code = d.code; term = d.term; other = position_of table d.other }

abbrev pub diagnostic_of : List Located → Place → Rank → Diagnostic
diagnostic_of forms place rank = record { code = rank.code; place = place; term = rank.term; other = place_at forms rank.other }

-- just this rank was added
pub record AddsRank (old new : BTreeSet Rank) (rank : Rank) : Type 0 where
  pub ordered : IsOrdered rank_order new
  pub has : (other : Rank) → Contains new.keys other ↔ (Contains old.keys other ⊎ (rank ≡ other))

-- the ranks are those of the diagnostics, in order
pub record AreRanks (table : BTreeMap Place ℕ) (found : List Diagnostic) (ranks : BTreeSet Rank) : Type 0 where
  pub ordered : IsOrdered rank_order ranks
  pub are : (rank : Rank) → Contains ranks.keys rank ↔ Contains (map (rank_of table) found) rank

-- the other place, where there is one, is that of a form
abbrev pub IsFormPlace : List Located → Option Place → Type 0
IsFormPlace forms None = Unit {0}
IsFormPlace forms (Some place) = (located : Located) × Contains forms located × (located.place ≡ place)

-- the diagnostics stand at the place, and name the places of forms
abbrev pub AreKnown : List Located → Place → List Diagnostic → Type 0
AreKnown forms place found = Each (λ (d : Diagnostic). (d.place ≡ place) × IsFormPlace forms d.other) found

-- what was found comes last, in order
pub record Appends (forms : List Located) (found old new : List Diagnostic) : Type 0 where
  pub sorted : List Diagnostic
  pub is : new ≡ old ++ sorted
  pub ascending : AreAscending forms sorted
  pub same : (d : Diagnostic) → Contains sorted d ↔ Contains found d

-- each code is above the one before
abbrev pub codes_ascend : ℕ → List Diagnostic → Bool
codes_ascend last [] = true
codes_ascend last (d ∷ found) = nat_lt last d.code && codes_ascend d.code found
