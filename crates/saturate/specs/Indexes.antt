-- Known clauses, each by the fingerprint of one of its literals. No definition of a search speaks of them.
use Rattle.std.specs.Prelude.{◌≡◌, ◌⊎◌, ◌<◌, ℕ, nat_eq, length, List, [], ◌∷◌, ◌++◌, map, Bool, true, false, if◌then◌else◌, unwrap_or}
use Rattle.std.specs.HashMap.{HashMap, get}
use Rattle.sigma_base.specs.Lists.{Each}
use Rattle.kif_tree.specs.declared.clause.InputClause.{InputClause}
use Rattle.kif_tree.specs.Clauses.{Literals}
use Rattle.calculus.specs.Answers.{Among}
use Rattle.infer.specs.Checks.{clauses_of}
use Rattle.infer.specs.Conclusions.{clause_at}
use Rattle.saturate.specs.declared.fingerprint.Fingerprint.{Fingerprint}
use Rattle.saturate.specs.declared.reached.Reached.{Reached}
use Rattle.saturate.specs.Covered.{IsSubsumed, IsNeedless}
use Rattle.saturate.specs.Fingerprints.{mixed, first_of, others_of}
use Rattle.saturate.specs.Runs.{clauses, known}

-- the numbers under a key
abbrev pub Listing : Type 0
Listing = ℕ → List ℕ

abbrev pub listed : {S : Type 0} → HashMap ℕ (List ℕ) S → Listing
listed index key = unwrap_or (get nat_eq index key) []

-- a number for a sign and three codes
abbrev pub key : Bool → ℕ → ℕ → ℕ → ℕ
key positive head first second = mixed (mixed (mixed (if positive then 1 else 2) head) first) second

abbrev pub key_of : Fingerprint → ℕ
key_of print = key print.positive print.head print.first print.second

-- its codes are small enough for a key
pub record HasCodes (print : Fingerprint) : Type 0 where
  pub head : print.head < 2147483648
  pub first : print.first < 2147483648
  pub second : print.second < 2147483648

-- ---- what is looked up for a clause: the keys of all literals that may become one of its literals

abbrev pub Under : Listing → List Literals → Literals → Bool → ℕ → ℕ → ℕ → Type 0
Under listing all clause positive head first second = IsSubsumed all (listing (key positive head first second)) clause

abbrev pub UnderSecond : Listing → List Literals → Literals → Bool → ℕ → ℕ → ℕ → Type 0
UnderSecond listing all clause positive head first second =
    Under listing all clause positive head first second ⊎ Under listing all clause positive head first 0

abbrev pub UnderFirst : Listing → List Literals → Literals → Bool → ℕ → ℕ → ℕ → Type 0
UnderFirst listing all clause positive head first second =
    UnderSecond listing all clause positive head first second ⊎ UnderSecond listing all clause positive head 0 second

abbrev pub UnderHead : Listing → List Literals → Literals → Bool → ℕ → ℕ → ℕ → Type 0
UnderHead listing all clause positive head first second =
    UnderFirst listing all clause positive head first second ⊎ UnderFirst listing all clause positive 0 first second

abbrev pub UnderPrint : Listing → List Literals → Literals → Fingerprint → Type 0
UnderPrint listing all clause print = UnderHead listing all clause print.positive print.head print.first print.second

abbrev pub UnderAny : Listing → List Literals → Literals → List Fingerprint → Type 0
UnderAny listing all clause [] = ⊥
UnderAny listing all clause (print ∷ prints) = UnderPrint listing all clause print ⊎ UnderAny listing all clause prints

-- under what excludes nothing, or under one of its literals
abbrev pub UnderClause : Listing → List Literals → Literals → Type 0
UnderClause listing all clause =
    Under listing all clause true 0 0 0 ⊎ (Under listing all clause false 0 0 0
    ⊎ (UnderPrint listing all clause (first_of clause) ⊎ UnderAny listing all clause (others_of clause)))

-- ---- what is listed of a search

-- the key of one of the clause's literals, or that of what excludes nothing where it has none
abbrev pub IsKeyOf : Literals → ℕ → Type 0
IsKeyOf clause place = Among place (map key_of (first_of clause ∷ others_of clause))

-- the number stands under such a key of the clause
pub record IsListedBy (listing : Listing) (clause : Literals) (number : ℕ) : Type 0 where
  pub place : ℕ
  pub is_key : IsKeyOf clause place
  pub among : Among number (listing place)

-- Each known clause stands under the key of one of its literals. What is listed names a clause that is known, or that was dropped and is
-- needless beside the processed clauses, so that what it subsumes is needless too.
pub record IsIndexed (listing : Listing) (r : Reached) : Type 0 where
  pub all : Each (λ number. IsListedBy listing (clause_at (clauses r) number) number) (known r)
  pub named : (place number : ℕ) → Among number (listing place) → number < length (clauses r)
  pub right : (place number : ℕ) → Among number (listing place)
      → Among number (known r) ⊎ IsNeedless (clauses r) r.processed (clause_at (clauses r) number)

-- the numbers below the count, which are those of inputs, stand under keys of these, and no others are listed
pub record AreListed (inputs : List InputClause) (listing : Listing) (count : ℕ) : Type 0 where
  pub all : (number : ℕ) → number < count → IsListedBy listing (clause_at (clauses_of inputs) number) number
  pub named : (place number : ℕ) → Among number (listing place) → number < count

-- one number more under a key
abbrev pub IsListed : Listing → Listing → ℕ → ℕ → Type 0
IsListed old new place number = (other : ℕ) → new other ≡ (if nat_eq other place then old other ++ number ∷ [] else old other)

-- and that is a key of the clause
pub record IsListedUnderOne (old new : Listing) (clause : Literals) (number : ℕ) : Type 0 where
  pub place : ℕ
  pub is_key : IsKeyOf clause place
  pub lists : IsListed old new place number
