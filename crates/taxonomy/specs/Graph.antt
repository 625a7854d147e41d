-- Numbers that edges lead to, by paths of none or more edges.
use Rattle.std.specs.Prelude.{◌≡◌, ℕ, ◌+◌, ◌<◌, List, [], ◌∷◌, length, get_or, suc, zero, true, Contains, Bool, MatchBool, if◌then◌else◌, slice_set}
use Rattle.sigma_base.specs.Lists.{Each}
use Rattle.taxonomy.specs.declared.closure.Edge.{Edge}
use Rattle.taxonomy.specs.declared.runs.Run.{Run}
use Rattle.taxonomy.specs.Runs.{has, HasAll, IsUnion, Lacks}

-- the edges lead from the first number to the second
abbrev pub Follows : List Edge → ℕ → ℕ → Type 0
Follows [] low high = low ≡ high
Follows (edge ∷ path) low high = (edge.low ≡ low) × Follows path edge.high high

-- a path of none or more edges
pub record Path (edges : List Edge) (low high : ℕ) : Type 0 where
  pub path : List Edge
  pub among : Each (λ (edge : Edge). Contains edges edge) path
  pub follows : Follows path low high

-- a path of one or more edges
pub record Leads (edges : List Edge) (low high : ℕ) : Type 0 where
  pub last : Edge
  pub told : Contains edges last
  pub before : Path edges low last.low
  pub ends : last.high ≡ high

-- the edges join numbers below the count
abbrev pub AreWithin : ℕ → List Edge → Type 0
AreWithin count edges = Each (λ (edge : Edge). (edge.low < count) × (edge.high < count)) edges

abbrev pub Sets : Type 0
Sets = List (List Run)

abbrev pub set_of : Sets → ℕ → List Run
set_of sets number = get_or sets number []

-- the number alone
abbrev pub own : ℕ → Run
own number = record { start = number; end = number + 1 }

-- the set that belongs to the number, and the number itself
abbrev pub at_or_below : Sets → ℕ → List Run
at_or_below sets number = own number ∷ set_of sets number

-- each set has only numbers from which one or more edges lead to the one that it belongs to
pub record IsPartial (edges : List Edge) (count : ℕ) (sets : Sets) : Type 0 where
  pub long : length sets ≡ count
  pub within : (low high : ℕ) → has (set_of sets high) low ≡ true → low < count
  pub sound : (low high : ℕ) → has (set_of sets high) low ≡ true → Leads edges low high

-- the start of an edge, and what reaches it, reaches its end
abbrev pub IsPassed : Sets → Edge → Type 0
IsPassed sets edge = HasAll (set_of sets edge.high) (at_or_below sets edge.low)

abbrev pub ArePassed : List Edge → Sets → Type 0
ArePassed edges sets = Each (IsPassed sets) edges

-- each set has exactly the numbers from which one or more edges lead to the one that it belongs to
pub record IsClosure (edges : List Edge) (count : ℕ) (sets : Sets) : Type 0 where
  pub long : length sets ≡ count
  pub sound : (low high : ℕ) → has (set_of sets high) low ≡ true → Leads edges low high
  pub complete : (low high : ℕ) → Leads edges low high → has (set_of sets high) low ≡ true

-- how many numbers below the count a set doesn't have
abbrev pub absent : ℕ → List Run → ℕ
absent zero runs = 0
absent (suc count) runs = (if has runs count then 0 else 1) + absent count runs

-- the same of all sets together
abbrev pub all_absent : ℕ → Sets → ℕ
all_absent count [] = 0
all_absent count (runs ∷ sets) = absent count runs + all_absent count sets

-- the edge was passed: nothing changed, or its end's set grew by a number
pub record Stays (edge : Edge) (old new : Sets) : Type 0 where
  pub same : new ≡ old
  pub passed : IsPassed old edge

pub record Grows (edge : Edge) (old new : Sets) : Type 0 where
  pub grown : List Run
  pub is : new ≡ slice_set old edge.high grown
  pub has_both : IsUnion grown (set_of old edge.high) (at_or_below old edge.low)
  pub number : ℕ
  pub new_one : Lacks (set_of old edge.high) (at_or_below old edge.low) number

-- no set has anything
pub record AreEmpty (count : ℕ) (sets : Sets) : Type 0 where
  pub long : length sets ≡ count
  pub empty : (number : ℕ) → number < count → set_of sets number ≡ []

-- some of the edges were passed, and whether a set grew: where none did, nothing changed
pub record IsRound (edges passed : List Edge) (old new : Sets) (changed : Bool) : Type 0 where
  pub partial : IsPartial edges (length old) new
  pub outcome : MatchBool changed (all_absent (length old) new < all_absent (length old) old) ((new ≡ old) × ArePassed passed new)
