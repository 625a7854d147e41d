-- What a search keeps beside its lists, and what is so of each standing.
use Rattle.std.specs.Prelude.{◌≡◌, ◌<◌, map, length}
use Rattle.sigma_base.specs.Lists.{Each}
use Rattle.infer.specs.Plain.{IsPlain}
use Rattle.saturate.specs.declared.reached.State.{State}
use Rattle.saturate.specs.Marks.{tabled}
use Rattle.saturate.specs.Indexes.{IsIndexed, listed}
use Rattle.saturate.specs.Runs.{clauses, weight, kept_count}

-- the weights are those of the clauses
abbrev pub HasWeights : State → Type 0
HasWeights state = state.weights ≡ map weight (clauses state.reached)

-- and the fingerprints
abbrev pub HasFingerprints : State → Type 0
HasFingerprints state = state.fingerprints ≡ tabled (clauses state.reached)

pub record IsConsistent (state : State) : Type 0 where
  pub weights : HasWeights state
  pub fingerprints : HasFingerprints state
  pub indexed : IsIndexed (listed state.listed) state.reached
  pub kept : state.kept ≡ kept_count state.reached
  pub steps : length state.reached.steps ≡ length (clauses state.reached)
  pub named : Each (λ number. number < length (clauses state.reached)) state.reached.waiting
  pub plain : Each IsPlain (clauses state.reached)
