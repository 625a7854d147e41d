-- The run of a search, over plain lists. Clauses are named by the numbers of their steps.
use Rattle.std.specs.Prelude.{◌≡◌, ◌≢◌, ◌⊎◌, ◌<◌, ◌≤◌, ◌%◌, ℕ, zero, suc, ◌+◌, nat_eq, nat_le, min, sum, List, [], ◌∷◌, ◌++◌, map, filter, length, Bool, true, false, not, if◌then◌else◌, MatchBool, MatchOption, Option, Some, None}
use Rattle.std.specs.List.{list_all}
use Rattle.sigma_base.specs.Lists.{Each}
use Rattle.kif_tree.specs.declared.clause.InputClause.{InputClause}
use Rattle.kif_tree.specs.Terms.{symbols, depth, greatest}
use Rattle.kif_tree.specs.Clauses.{Literals, is_answer, same_sign}
use Rattle.calculus.specs.declared.step.Step.{Step}
use Rattle.calculus.specs.Rules.{is_empty}
use Rattle.calculus.specs.Answers.{Among}
use Rattle.infer.specs.declared.conclusion.Conclusion.{Conclusion}
use Rattle.infer.specs.Checks.{clauses_of}
use Rattle.infer.specs.Conclusions.{clause_at, AreConclusions, AreFactors}
use Rattle.infer.specs.Plain.{IsPlainConclusion}
use Rattle.saturate.specs.declared.arrival.Arrival.{Arrival}
use Rattle.saturate.specs.declared.arrival.Arrival.TheVariants as arrival
use Rattle.saturate.specs.declared.ended.Ended.{Ended}
use Rattle.saturate.specs.declared.ended.Ended.TheVariants as ended
use Rattle.saturate.specs.declared.limits.Limits.{Limits}
use Rattle.saturate.specs.declared.limits.Mode.{Mode}
use Rattle.saturate.specs.declared.limits.Mode.TheVariants.{Support, Full}
use Rattle.saturate.specs.declared.reached.Reached.{Reached}
use Rattle.saturate.specs.declared.ended.Search.{Search}
use Rattle.saturate.specs.Covered.{IsNeedless}
use Rattle.saturate.specs.Inputs.{is_query_number}

-- ---- where a search stands

-- the clause of each step
abbrev pub clauses : Reached → List Literals
clauses r = clauses_of r.inputs ++ r.derived

-- processed, waiting, set aside, or found
abbrev pub known : Reached → List ℕ
known r = r.processed ++ (r.waiting ++ (r.aside ++ r.found))

abbrev pub IsCovered : Reached → Literals → Type 0
IsCovered r clause = IsNeedless (clauses r) (known r) clause

-- a clause of the query, as it stands among the inputs
abbrev pub is_of_query : Reached → ℕ → Bool
is_of_query r number = is_query_number r.inputs number

abbrev pub is_derived : Reached → ℕ → Bool
is_derived r number = nat_le (length r.inputs) number

-- how many derived clauses are processed, wait or are aside
abbrev pub kept_count : Reached → ℕ
kept_count r = length (filter (is_derived r) (r.processed ++ (r.waiting ++ r.aside)))

-- ---- the beginning

-- so many numbers, from the given one on
abbrev pub numbers_from : ℕ → ℕ → List ℕ
numbers_from first zero = []
numbers_from first (suc count) = first ∷ numbers_from (first + 1) count

abbrev pub numbers_of : List InputClause → List ℕ
numbers_of inputs = numbers_from 0 (length inputs)

-- those of the query's clauses, or of all others
abbrev pub numbers_where : Bool → List InputClause → List ℕ
numbers_where of_query inputs = filter (λ number. same_sign of_query (is_query_number inputs number)) (numbers_of inputs)

-- in support mode only the clauses of the query wait
abbrev pub first_processed : List InputClause → Mode → List ℕ
first_processed inputs Support = numbers_where false inputs
first_processed inputs Full = []

abbrev pub first_waiting : List InputClause → Mode → List ℕ
first_waiting inputs Support = numbers_where true inputs
first_waiting inputs Full = numbers_of inputs

-- the steps begin with all inputs in order
abbrev pub beginning : List InputClause → Mode → Reached
beginning inputs mode = record {
  inputs = inputs;
  derived = [];
  steps = map Step.Input (numbers_of inputs);
  processed = first_processed inputs mode;
  waiting = first_waiting inputs mode;
  aside = [];
  found = [];
}

-- ---- a clause that comes

-- a clause nests as deep as its deepest atom
abbrev pub clause_depth : Literals → ℕ
clause_depth clause = greatest (map (λ literal. depth literal.atom) clause)

abbrev pub most_levels : ℕ
most_levels = 1000

abbrev pub has_answers_alone : Literals → Bool
has_answers_alone clause = list_all (λ literal. is_answer literal.atom) clause

-- it has literals, and is neither a tautology nor subsumed
pub record IsNew (r : Reached) (clause : Literals) : Type 0 where
  pub asserts : clause ≢ []
  pub uncovered : IsCovered r clause → ⊥

pub record IsKept (r : Reached) (clause : Literals) : Type 0 where
  pub new : IsNew r clause
  pub open_still : has_answers_alone clause ≡ false

-- which of the five becomes of it, the first that applies
abbrev pub IsArrival : Reached → Literals → Arrival → Type 0
IsArrival r clause arrival.Contradiction = clause ≡ []
IsArrival r clause arrival.Dropped = (clause ≢ []) × IsCovered r clause
IsArrival r clause arrival.Found = IsNew r clause × (has_answers_alone clause ≡ true)
IsArrival r clause arrival.Aside = IsKept r clause × (most_levels < clause_depth clause)
IsArrival r clause arrival.Waits = IsKept r clause × (clause_depth clause ≤ most_levels)

-- the next step concludes it
abbrev pub grown : Reached → Conclusion → Reached
grown r conclusion = record {
  inputs = r.inputs;
  derived = r.derived ++ conclusion.clause ∷ [];
  steps = r.steps ++ conclusion.step ∷ [];
  processed = r.processed;
  waiting = r.waiting;
  aside = r.aside;
  found = r.found;
}

abbrev pub with_waiting : Reached → List ℕ → Reached
with_waiting r numbers = record { inputs = r.inputs; derived = r.derived; steps = r.steps; processed = r.processed; waiting = numbers; aside = r.aside; found = r.found }

abbrev pub with_aside : Reached → List ℕ → Reached
with_aside r numbers = record { inputs = r.inputs; derived = r.derived; steps = r.steps; processed = r.processed; waiting = r.waiting; aside = numbers; found = r.found }

abbrev pub with_found : Reached → List ℕ → Reached
with_found r numbers = record { inputs = r.inputs; derived = r.derived; steps = r.steps; processed = r.processed; waiting = r.waiting; aside = r.aside; found = numbers }

abbrev pub with_processed : Reached → List ℕ → Reached
with_processed r numbers = record { inputs = r.inputs; derived = r.derived; steps = r.steps; processed = numbers; waiting = r.waiting; aside = r.aside; found = r.found }

abbrev pub arrived : Reached → Conclusion → Arrival → Reached
arrived r conclusion arrival.Contradiction = grown r conclusion
arrived r conclusion arrival.Dropped = r
arrived r conclusion arrival.Found = with_found (grown r conclusion) (r.found ++ length r.steps ∷ [])
arrived r conclusion arrival.Aside = with_aside (grown r conclusion) (r.aside ++ length r.steps ∷ [])
arrived r conclusion arrival.Waits = with_waiting (grown r conclusion) (r.waiting ++ length r.steps ∷ [])

abbrev pub ended_where : Bool → Ended → Option Ended
ended_where true end = Some end
ended_where false end = None

-- whether the search ends with it, and how
abbrev pub end_with : Limits → Reached → Arrival → Option Ended
end_with limits r arrival.Contradiction = Some ended.Contradiction
end_with limits r arrival.Dropped = None
end_with limits r arrival.Found = ended_where (nat_le limits.answers (length r.found)) ended.Enough
end_with limits r arrival.Aside = ended_where (nat_le limits.kept (kept_count r)) ended.Crowded
end_with limits r arrival.Waits = ended_where (nat_le limits.kept (kept_count r)) ended.Crowded

pub record Comes (limits : Limits) (conclusion : Conclusion) (old new : Reached) (end : Option Ended) : Type 0 where
  pub arrival : Arrival
  pub is : IsArrival old conclusion.clause arrival
  pub reached : new ≡ arrived old conclusion arrival
  pub ends : end ≡ end_with limits new arrival

-- ---- one thing after another

-- what leads from one standing to another, and may end the search there
abbrev pub Way : Type 1
Way = Reached → Reached → Option Ended → Type 0

abbrev pub Stays : Way
Stays old new end = (new ≡ old) × (end ≡ None)

-- the first, and where the search didn't end there, the second
pub record Then (First Second : Way) (old new : Reached) (end : Option Ended) : Type 0 where
  pub middle : Reached
  pub stop : Option Ended
  pub first : First old middle stop
  pub second : MatchOption stop (Second middle new end) (λ (ending : Ended). (new ≡ middle) × (end ≡ Some ending))

abbrev pub Come : Limits → List Conclusion → Way
Come limits [] = Stays
Come limits (conclusion ∷ conclusions) = Then (Comes limits conclusion) (Come limits conclusions)

-- ---- a turn

-- conclusions name the given clause 0 and its partner 1
abbrev pub parent_number : ℕ → ℕ → ℕ → ℕ
parent_number given partner zero = given
parent_number given partner (suc n) = partner

abbrev pub renumbered_step : ℕ → ℕ → Step → Step
renumbered_step given partner (Step.Input i) = Step.Input i
renumbered_step given partner (Step.Resolve left i f right j g) = Step.Resolve (parent_number given partner left) i f (parent_number given partner right) j g
renumbered_step given partner (Step.Factor parent i j f) = Step.Factor (parent_number given partner parent) i j f
renumbered_step given partner (Step.Paramodulate source i flipped f target j path g) =
    Step.Paramodulate (parent_number given partner source) i flipped f (parent_number given partner target) j path g

abbrev pub renumbered : ℕ → ℕ → Conclusion → Conclusion
renumbered given partner conclusion = record { clause = conclusion.clause; step = renumbered_step given partner conclusion.step }

-- the factors of the given clause come, by plain steps
pub record Factors (limits : Limits) (given : ℕ) (old new : Reached) (end : Option Ended) : Type 0 where
  pub list : List Conclusion
  pub are : AreFactors (clause_at (clauses old) given) list
  pub plain : Each IsPlainConclusion list
  pub come : Come limits (map (renumbered given given) list) old new end

-- its conclusions with one partner come, by plain steps
pub record Meets (limits : Limits) (given partner : ℕ) (old new : Reached) (end : Option Ended) : Type 0 where
  pub list : List Conclusion
  pub are : AreConclusions (clause_at (clauses old) given) (clause_at (clauses old) partner) (nat_eq given partner) list
  pub plain : Each IsPlainConclusion list
  pub come : Come limits (map (renumbered given partner) list) old new end

-- those with each partner, in order
abbrev pub MeetsEach : Limits → ℕ → List ℕ → Way
MeetsEach limits given [] = Stays
MeetsEach limits given (partner ∷ partners) = Then (Meets limits given partner) (MeetsEach limits given partners)

-- words, variables, numerals and strings of all literals; the count ends at the greatest number of 64 bits
abbrev pub weight : Literals → ℕ
weight clause = min (sum (map (λ literal. symbols literal.atom) clause)) 18446744073709551615

abbrev pub weight_at : Reached → ℕ → ℕ
weight_at r number = weight (clause_at (clauses r) number)

-- it is older where its step comes before
abbrev pub IsLighter : Reached → ℕ → ℕ → Type 0
IsLighter r number other = (weight_at r number < weight_at r other) ⊎ ((weight_at r number ≡ weight_at r other) × (number ≤ other))

-- one of the numbers, which stands in the relation to each of them
pub record IsFirstOf (Before : ℕ → ℕ → Type 0) (numbers : List ℕ) (number : ℕ) : Type 0 where
  pub among : Among number numbers
  pub first : Each (Before number) numbers

abbrev pub IsOldest : Reached → ℕ → Type 0
IsOldest r number = IsFirstOf ◌≤◌ r.waiting number

abbrev pub IsLightest : Reached → ℕ → Type 0
IsLightest r number = IsFirstOf (IsLighter r) r.waiting number

-- divisible by 5
abbrev pub is_fifth : ℕ → Bool
is_fifth turn = nat_eq (turn % 5) 0

-- the given clause of the turn of that number
abbrev pub IsGiven : Reached → ℕ → ℕ → Type 0
IsGiven r turn number = MatchBool (is_fifth turn) (IsOldest r number) (IsLightest r number)

abbrev pub without : ℕ → List ℕ → List ℕ
without number numbers = filter (λ other. not (nat_eq number other)) numbers

-- it waits no longer
abbrev pub taken : Reached → ℕ → Reached
taken r number = with_waiting r (without number r.waiting)

-- and is processed, last in the order
abbrev pub given_processed : Reached → ℕ → Reached
given_processed r number = with_processed (taken r number) (r.processed ++ number ∷ [])

-- no clause of the query, and a tautology or subsumed by a processed clause
pub record IsDropped (r : Reached) (number : ℕ) : Type 0 where
  pub other : is_of_query r number ≡ false
  pub needless : IsNeedless (clauses r) r.processed (clause_at (clauses r) number)

pub record Drops (given : ℕ) (old new : Reached) (end : Option Ended) : Type 0 where
  pub drops : IsDropped old given
  pub reached : new ≡ taken old given
  pub goes_on : end ≡ None

-- the factors of the given clause, and its conclusions with each processed clause, itself last
pub record Works (limits : Limits) (given : ℕ) (old new : Reached) (end : Option Ended) : Type 0 where
  pub stays : IsDropped old given → ⊥
  pub concludes : Then (Factors limits given) (MeetsEach limits given (old.processed ++ given ∷ [])) (given_processed old given) new end

pub record Turn (limits : Limits) (turn : ℕ) (old new : Reached) (end : Option Ended) : Type 0 where
  pub given : ℕ
  pub is_given : IsGiven old turn given
  pub goes : Drops given old new end ⊎ Works limits given old new end

-- ---- the run

-- so many turns were taken, none of which ended the search
pub record GoesOn (limits : Limits) (Before : Reached → Type 0) (turn : ℕ) (r : Reached) : Type 0 where
  pub old : Reached
  pub before : Before old
  pub left : turn ≤ limits.turns
  pub takes : Turn limits turn old r None

abbrev pub Ran : List InputClause → Limits → ℕ → Reached → Type 0
Ran inputs limits zero r = r ≡ beginning inputs limits.mode
Ran inputs limits (suc n) r = GoesOn limits (Ran inputs limits n) (suc n) r

-- how the search ends before a turn
abbrev pub IsRest : Limits → ℕ → Reached → Ended → Type 0
IsRest limits turns r ended.Saturated = (r.waiting ≡ []) × (r.aside ≡ [])
IsRest limits turns r ended.Deep = (r.waiting ≡ []) × (r.aside ≢ [])
IsRest limits turns r ended.Spent = (r.waiting ≢ []) × (turns ≡ limits.turns)
IsRest limits turns r _ = ⊥

-- where nothing waits
abbrev pub end_at_rest : Reached → Option Ended
end_at_rest r = if not (is_empty r.waiting) then None else if is_empty r.aside then Some ended.Saturated else Some ended.Deep

pub record EndsBetween (inputs : List InputClause) (limits : Limits) (turns : ℕ) (r : Reached) (end : Ended) : Type 0 where
  pub ran : Ran inputs limits turns r
  pub rest : IsRest limits turns r end

pub record EndsWithin (inputs : List InputClause) (limits : Limits) (turns : ℕ) (r : Reached) (end : Ended) : Type 0 where
  pub earlier : ℕ
  pub counted : turns ≡ earlier + 1
  pub left : turns ≤ limits.turns
  pub old : Reached
  pub ran : Ran inputs limits earlier old
  pub takes : Turn limits turns old r (Some end)

abbrev pub Runs : List InputClause → Limits → ℕ → Reached → Ended → Type 0
Runs inputs limits turns r end = EndsBetween inputs limits turns r end ⊎ EndsWithin inputs limits turns r end

-- where an answered search stands at its end
abbrev pub reached_in : Search → Reached
reached_in search = record {
  inputs = search.inputs;
  derived = search.derived;
  steps = search.steps;
  processed = search.processed;
  waiting = search.waiting;
  aside = search.aside;
  found = search.found;
}

-- the search from these inputs, by the rules above
abbrev pub IsRun : List InputClause → Limits → Search → Type 0
IsRun inputs limits search = Runs inputs limits search.turns (reached_in search) search.ended
