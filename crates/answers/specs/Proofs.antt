-- The proof of a clause of a search: the steps on which it rests, in their order, numbered anew.
use Rattle.std.specs.Prelude.{◌≡◌, ◌↔◌, ◌<◌, ◌≤◌, ◌+◌, length, Bool, true, ℕ, zero, suc, nat_eq, List, [], ◌∷◌, map, Option, Some, None, if◌then◌else◌}
use Rattle.std.specs.List.{flat_map}
use Rattle.sigma_base.specs.Lists.{Each}
use Rattle.kif_tree.specs.declared.clause.InputClause.{InputClause}
use Rattle.kif_tree.specs.declared.place.Place.{Place}
use Rattle.kif_tree.specs.Clauses.{Literals}
use Rattle.calculus.specs.declared.step.Step.{Step}
use Rattle.calculus.specs.Rules.{nth, after}
use Rattle.calculus.specs.Evidence.{list_from}
use Rattle.calculus.specs.Answers.{Among}
use Rattle.infer.specs.Conclusions.{clause_at}
use Rattle.answers.specs.declared.proof.Rule.{Rule}
use Rattle.answers.specs.declared.proof.Rule.TheVariants.{Axiom, Reflexivity, Query, Resolve, Factor, Paramodulate}
use Rattle.answers.specs.declared.proof.ProofLine.{ProofLine}
use Rattle.answers.specs.declared.proof.Proof.{Proof}

-- ---- what a step rests on

-- left and then right, source and then target
abbrev pub parents : Step → List ℕ
parents (Step.Input i) = []
parents (Step.Resolve left i f right j g) = left ∷ right ∷ []
parents (Step.Factor parent i j f) = parent ∷ []
parents (Step.Paramodulate source i flipped f target j path g) = source ∷ target ∷ []

abbrev pub parents_at : List Step → ℕ → List ℕ
parents_at steps number = list_from (nth steps number) parents

-- each number is a parent of the one before it, and the last one is reached
abbrev pub LeadsTo : List Step → ℕ → List ℕ → ℕ → Type 0
LeadsTo steps first [] last = first ≡ last
LeadsTo steps first (next ∷ more) last = Among next (parents_at steps first) × LeadsTo steps next more last

-- the step itself, its parents, theirs, and so on
pub record RestsOn (steps : List Step) (step on : ℕ) : Type 0 where
  pub through : List ℕ
  pub leads : LeadsTo steps step through on

abbrev pub AreAscending : List ℕ → Type 0
AreAscending [] = Unit {0}
AreAscending (number ∷ numbers) = Each (λ other. number < other) numbers × AreAscending numbers

-- all numbers on which the step rests, in order
pub record AreRests (steps : List Step) (step : ℕ) (numbers : List ℕ) : Type 0 where
  pub ascending : AreAscending numbers
  pub exactly : (on : ℕ) → Among on numbers ↔ RestsOn steps step on

-- ---- numbered anew

-- how many stand before it
abbrev pub place_among : List ℕ → ℕ → ℕ
place_among [] number = zero
place_among (other ∷ numbers) number = if nat_eq other number then zero else suc (place_among numbers number)

-- a step whose parents have the numbers of their places; an input keeps its number
abbrev pub renumbered : List ℕ → Step → Step
renumbered numbers (Step.Input i) = Step.Input i
renumbered numbers (Step.Resolve left i f right j g) = Step.Resolve (place_among numbers left) i f (place_among numbers right) j g
renumbered numbers (Step.Factor parent i j f) = Step.Factor (place_among numbers parent) i j f
renumbered numbers (Step.Paramodulate source i flipped f target j path g) =
    Step.Paramodulate (place_among numbers source) i flipped f (place_among numbers target) j path g

-- ---- lines

-- with a place an axiom, without one the reflexivity clause as variant 0 and clauses of the query from 1
abbrev pub rule_of_input : Option Place → ℕ → Rule
rule_of_input (Some place) variant = Axiom
rule_of_input None (suc variant) = Query
rule_of_input None _ = Reflexivity

abbrev pub input_rule : Option InputClause → Rule
input_rule None = Reflexivity
input_rule (Some input) = rule_of_input input.place input.variant

abbrev pub rule_of : List InputClause → Step → Rule
rule_of inputs (Step.Input i) = input_rule (nth inputs i)
rule_of inputs (Step.Resolve left i f right j g) = Resolve
rule_of inputs (Step.Factor parent i j f) = Factor
rule_of inputs (Step.Paramodulate source i flipped f target j path g) = Paramodulate

abbrev pub place_of : List InputClause → Step → Option Place
place_of inputs (Step.Input i) = after (nth inputs i) (λ (input : InputClause). input.place)
place_of inputs _ = None

abbrev pub line_of : List InputClause → Step → Literals → ProofLine
line_of inputs step clause = record { clause = clause; rule = rule_of inputs step; parents = parents step; place = place_of inputs step }

-- ---- proofs

-- the steps of those numbers, numbered anew
abbrev pub steps_at : List Step → List ℕ → List Step
steps_at steps numbers = flat_map (λ number. list_from (nth steps number) (λ step. renumbered numbers step ∷ [])) numbers

-- their lines
abbrev pub lines_at : List InputClause → List Step → List Literals → List ℕ → List ProofLine
lines_at inputs steps clauses numbers =
    flat_map (λ number. list_from (nth steps number) (λ step. line_of inputs (renumbered numbers step) (clause_at clauses number) ∷ [])) numbers

-- the proof of the clause of that number
pub record IsProofOf (inputs : List InputClause) (steps : List Step) (clauses : List Literals) (number : ℕ) (proof : Proof) : Type 0 where
  pub numbers : List ℕ
  pub rests : AreRests steps number numbers
  pub steps_are : proof.steps ≡ steps_at steps numbers
  pub lines_are : proof.lines ≡ lines_at inputs steps clauses numbers

-- the clauses that the lines show
abbrev pub clauses_in : Proof → List Literals
clauses_in proof = map (λ (line : ProofLine). line.clause) proof.lines

-- ---- on the way

-- the parents of each step stand before it
abbrev pub ParentsComeBefore : List Step → Type 0
ParentsComeBefore steps = (number : ℕ) → Each (λ parent. parent < number) (parents_at steps number)

-- for each number up to that of the step, whether it rests on it
pub record TellsRests (steps : List Step) (step : ℕ) (wanted : List Bool) : Type 0 where
  pub counted : length wanted ≡ step + 1
  pub tells : (on : ℕ) → (nth wanted on ≡ Some true) ↔ RestsOn steps step on

-- the marks with one more; past the end nothing is marked
abbrev pub marked : List Bool → ℕ → List Bool
marked [] number = []
marked (mark ∷ marks) zero = true ∷ marks
marked (mark ∷ marks) (suc n) = mark ∷ marked marks n

-- and with one for each number
abbrev pub all_marked : List Bool → List ℕ → List Bool
all_marked marks [] = marks
all_marked marks (number ∷ numbers) = all_marked (marked marks number) numbers

-- The steps from that number on have had their parents marked: the step rests on what is marked, the step is marked, and so are the parents
-- of each of these steps that is.
pub record AreWanted (steps : List Step) (step from : ℕ) (wanted : List Bool) : Type 0 where
  pub counted : length wanted ≡ step + 1
  pub itself : nth wanted step ≡ Some true
  pub rests : (on : ℕ) → nth wanted on ≡ Some true → RestsOn steps step on
  pub parents : (number : ℕ) → from ≤ number → nth wanted number ≡ Some true
      → Each (λ parent. nth wanted parent ≡ Some true) (parents_at steps number)

-- the numbers of the marks below that one, in order
pub record AreMarksBelow (wanted : List Bool) (below : ℕ) (numbers : List ℕ) : Type 0 where
  pub ascending : AreAscending numbers
  pub lower : Each (λ number. number < below) numbers
  pub marks : Each (λ number. nth wanted number ≡ Some true) numbers
  pub all : (on : ℕ) → on < below → nth wanted on ≡ Some true → Among on numbers

-- the parents of each step of these numbers have one of them, and the numbers ascend
pub record AreClosed (steps : List Step) (numbers : List ℕ) : Type 0 where
  pub ascending : AreAscending numbers
  pub closed : Each (λ number. Each (λ parent. Among parent numbers) (parents_at steps number)) numbers
