-- What the end of a search means.
use Rattle.std.specs.Prelude.{◌≡◌, ◌≢◌, ◌⊎◌, ◌<◌, ℕ, nat_eq, List, [], ◌∷◌, ◌++◌, filter, length, true, false, Some}
use Rattle.sigma_base.specs.Lists.{Each}
use Rattle.kif_tree.specs.Clauses.{Literals}
use Rattle.calculus.specs.Rules.{nth, Derivation}
use Rattle.calculus.specs.Answers.{Among}
use Rattle.unify.specs.Subsumption.{Subsumes}
use Rattle.infer.specs.declared.conclusion.Conclusion.{Conclusion}
use Rattle.infer.specs.Checks.{clauses_of}
use Rattle.infer.specs.Conclusions.{clause_at, AreConclusions, AreFactors}
use Rattle.infer.specs.Plain.{IsPlainStep}
use Rattle.saturate.specs.declared.ended.Ended.{Ended}
use Rattle.saturate.specs.declared.ended.Ended.TheVariants as ended
use Rattle.saturate.specs.declared.limits.Limits.{Limits}
use Rattle.saturate.specs.declared.limits.Mode.{Mode}
use Rattle.saturate.specs.declared.limits.Mode.TheVariants.{Support, Full}
use Rattle.saturate.specs.declared.reached.Reached.{Reached}
use Rattle.saturate.specs.Covered.{is_tautology, IsNeedless}
use Rattle.saturate.specs.Runs.{clauses, IsCovered, is_of_query, is_derived, most_levels, clause_depth, has_answers_alone, renumbered}

-- ---- what is accounted for

-- an input that is no clause of the query, in support mode
abbrev pub IsSupported : Mode → Reached → ℕ → Type 0
IsSupported mode r number = (mode ≡ Support) × (number < length r.inputs) × (is_of_query r number ≡ false)

-- each factor is covered
pub record HasFactorsCovered (r : Reached) (number : ℕ) : Type 0 where
  pub list : List Conclusion
  pub are : AreFactors (clause_at (clauses r) number) list
  pub covered : Each (λ (conclusion : Conclusion). IsCovered r conclusion.clause) list

-- and each conclusion of the two
pub record HasConclusionsCovered (r : Reached) (given partner : ℕ) : Type 0 where
  pub list : List Conclusion
  pub are : AreConclusions (clause_at (clauses r) given) (clause_at (clauses r) partner) (nat_eq given partner) list
  pub covered : Each (λ (conclusion : Conclusion). IsCovered r conclusion.clause) list

abbrev pub MeetsCovered : Mode → Reached → ℕ → ℕ → Type 0
MeetsCovered mode r given partner = (IsSupported mode r given × IsSupported mode r partner) ⊎ HasConclusionsCovered r given partner

-- the clause was processed after those: its factors, and its conclusions with each of those and with itself
pub record IsAccounted (mode : Mode) (r : Reached) (before : List ℕ) (number : ℕ) : Type 0 where
  pub factors : IsSupported mode r number ⊎ HasFactorsCovered r number
  pub conclusions : Each (MeetsCovered mode r number) (before ++ number ∷ [])

-- each of these clauses, which were processed in this order after those before
abbrev pub AreAccounted : Mode → Reached → List ℕ → List ℕ → Type 0
AreAccounted mode r before [] = Unit {0}
AreAccounted mode r before (number ∷ numbers) = IsAccounted mode r before number × AreAccounted mode r (before ++ number ∷ []) numbers

-- whatever follows from the processed clauses in one step is covered, save, in support mode, what follows from axioms alone
abbrev pub IsWholeAccount : Mode → Reached → Type 0
IsWholeAccount mode r = AreAccounted mode r [] r.processed

-- whatever follows from those that were processed before the last one
pub record IsEarlierAccount (mode : Mode) (r : Reached) : Type 0 where
  pub earlier : List ℕ
  pub last : ℕ
  pub processed : r.processed ≡ earlier ++ last ∷ []
  pub accounted : AreAccounted mode r [] earlier

-- each input is processed, waits, is a tautology or is subsumed by a processed clause
abbrev pub IsInputAccounted : Reached → ℕ → Type 0
IsInputAccounted r number = Among number r.processed ⊎ (Among number r.waiting ⊎ IsNeedless (clauses r) r.processed (clause_at (clauses r) number))

abbrev pub AreInputsAccounted : Reached → Type 0
AreInputsAccounted r = (number : ℕ) → number < length r.inputs → IsInputAccounted r number

-- ---- what is kept

-- the derived clauses that are processed, wait or are aside
abbrev pub kept : Reached → List ℕ
kept r = filter (is_derived r) (r.processed ++ (r.waiting ++ r.aside))

-- neither a tautology nor subsumed by an earlier one of them
pub record IsFresh (r : Reached) (number : ℕ) : Type 0 where
  pub asserts : is_tautology (clause_at (clauses r) number) ≡ false
  pub unsubsumed : (other : ℕ) → Among other (kept r) → other < number → Subsumes (clause_at (clauses r) other) (clause_at (clauses r) number) → ⊥

-- a conclusion of two clauses, or a factor of one, under most general unifiers
pub record IsConcluded (r : Reached) (number : ℕ) : Type 0 where
  pub given : ℕ
  pub partner : ℕ
  pub list : List Conclusion
  pub are : AreConclusions (clause_at (clauses r) given) (clause_at (clauses r) partner) (nat_eq given partner) list
      ⊎ (AreFactors (clause_at (clauses r) given) list × (partner ≡ given))
  pub conclusion : Conclusion
  pub among : Among conclusion list
  pub clause : nth (clauses r) number ≡ Some conclusion.clause
  pub step : nth r.steps number ≡ Some (renumbered given partner conclusion).step

-- ---- the ends

abbrev pub IsDeep : Reached → ℕ → Type 0
IsDeep r number = most_levels < clause_depth (clause_at (clauses r) number)

-- nothing waits and nothing is aside: what follows is covered, save, in support mode, what follows from axioms alone
pub record IsSaturated (mode : Mode) (r : Reached) : Type 0 where
  pub waiting : r.waiting ≡ []
  pub aside : r.aside ≡ []
  pub account : IsWholeAccount mode r
  pub inputs : AreInputsAccounted r

-- only clauses that nest too deep are left
pub record IsDeepEnd (mode : Mode) (r : Reached) : Type 0 where
  pub waiting : r.waiting ≡ []
  pub aside : r.aside ≢ []
  pub deep : Each (IsDeep r) r.aside
  pub account : IsWholeAccount mode r
  pub inputs : AreInputsAccounted r

-- something waits, and all turns were taken, each of which, as runs are, with one waiting clause
pub record IsSpent (limits : Limits) (turns : ℕ) (r : Reached) : Type 0 where
  pub waiting : r.waiting ≢ []
  pub all : turns ≡ limits.turns
  pub account : IsWholeAccount limits.mode r
  pub inputs : AreInputsAccounted r

-- as many derived clauses are kept as may be
pub record IsCrowded (limits : Limits) (r : Reached) : Type 0 where
  pub count : length (kept r) ≡ limits.kept
  pub fresh : Each (IsFresh r) (kept r)
  pub concluded : Each (IsConcluded r) (kept r)
  pub account : IsEarlierAccount limits.mode r

-- the last clause has no literals, and the mode is full
pub record IsContradictory (mode : Mode) (r : Reached) : Type 0 where
  pub full : mode ≡ Full
  pub earlier : List Literals
  pub last : r.derived ≡ earlier ++ [] ∷ []

abbrev pub EndHolds : Limits → ℕ → Reached → Ended → Type 0
EndHolds limits turns r ended.Enough = length r.found ≡ limits.answers
EndHolds limits turns r ended.Saturated = IsSaturated limits.mode r
EndHolds limits turns r ended.Deep = IsDeepEnd limits.mode r
EndHolds limits turns r ended.Spent = IsSpent limits turns r
EndHolds limits turns r ended.Crowded = IsCrowded limits r
EndHolds limits turns r ended.Contradiction = IsContradictory limits.mode r

-- ---- at every end

-- the number of a derived clause that has answer literals alone, one at least
pub record IsFound (r : Reached) (number : ℕ) : Type 0 where
  pub derived : is_derived r number ≡ true
  pub clause : Literals
  pub at : nth (clauses r) number ≡ Some clause
  pub asserts : clause ≢ []
  pub alone : has_answers_alone clause ≡ true

-- the steps derive the clauses, by plain steps, and each found clause has answer literals alone
pub record IsSound (r : Reached) : Type 0 where
  pub derivation : Derivation (clauses_of r.inputs) r.steps (clauses r)
  pub plain : Each IsPlainStep r.steps
  pub found : Each (IsFound r) r.found
