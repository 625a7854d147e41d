-- Turns, from what the code does in them.
use Rattle.std.proofs.Common.{◌≡◌, inl, inr, ℕ, suc, ◌+◌, ◌<◌, List, [], ◌∷◌, ◌++◌, length, not, nat_eq, Bool, true, false, if◌then◌else◌, MatchBool, Option, None, Some, refl, sym, ap, ap₂, ◌∙◌, subst, arith}
use Rattle.sigma_base.specs.Lists.{Each, each_filter}
use Rattle.kif_tree.specs.declared.clause.InputClause.{InputClause}
use Rattle.calculus.specs.Rules.{is_empty}
use Rattle.calculus.specs.Answers.{Among}
use Rattle.calculus.proofs.PlaceLaws.{none_some, some_same}
use Rattle.calculus.proofs.MemberLaws.{each_at}
use Rattle.saturate.specs.declared.ended.Ended.{Ended}
use Rattle.saturate.specs.declared.ended.Ended.TheVariants as ended
use Rattle.saturate.specs.declared.limits.Limits.{Limits}
use Rattle.saturate.specs.declared.reached.Reached.{Reached}
use Rattle.saturate.specs.declared.reached.State.{State}
use Rattle.saturate.specs.Runs.{clauses, kept_count, with_waiting, with_processed, without, is_fifth, IsOldest, IsLightest, IsGiven, IsDropped, Then, Factors, MeetsEach, Turn, Ran, IsRest, end_at_rest, Runs}
use Rattle.saturate.specs.Indexes.{IsIndexed, listed}
use Rattle.saturate.specs.States.{IsConsistent}
use Rattle.saturate.proofs.IndexStepLaws.{indexed_dropped, indexed_processed}

given_among : (r : Reached) (turn given : ℕ) → IsGiven r turn given → Among given r.waiting
given_among r turn given is = go (is_fifth turn) is
  where
    go : (b : Bool) → MatchBool b (IsOldest r given) (IsLightest r given) → Among given r.waiting
    go true h = h.among
    go false h = h.among

pub given_below : (state : State) (turn given : ℕ) → IsConsistent state → IsGiven state.reached turn given → given < length (clauses state.reached)
given_below state turn given consistent is =
    each_at (λ n. n < length (clauses state.reached)) state.reached.waiting given (given_among state.reached turn given is) consistent.named

-- a clause waits no longer
pub taken_consistent : (state : State) (given kept : ℕ) (waiting processed : List ℕ) → IsConsistent state → waiting ≡ without given state.reached.waiting
    → kept ≡ kept_count (with_processed (with_waiting state.reached waiting) processed)
    → IsIndexed (listed state.listed) (with_processed (with_waiting state.reached waiting) processed)
    → IsConsistent (record {
      reached = with_processed (with_waiting state.reached waiting) processed;
      weights = state.weights;
      fingerprints = state.fingerprints;
      listed = state.listed;
      kept = kept;
    })
taken_consistent state given kept waiting processed consistent is counted indexed = record {
  weights = consistent.weights;
  fingerprints = consistent.fingerprints;
  indexed = indexed;
  kept = counted;
  steps = consistent.steps;
  named = subst (Each (λ n. n < length (clauses state.reached))) (sym is)
      (each_filter (λ n. n < length (clauses state.reached)) (λ other. not (nat_eq given other)) state.reached.waiting consistent.named);
  plain = consistent.plain;
}

module _ (state : State) (given : ℕ) (waiting : List ℕ) (consistent : IsConsistent state) (is : waiting ≡ without given state.reached.waiting) where
  -- one that is dropped stays listed
  pub dropped_indexed : IsDropped state.reached given → IsIndexed (listed state.listed) (with_waiting state.reached waiting)
  dropped_indexed dropped =
      subst (λ (ws : List ℕ). IsIndexed (listed state.listed) (with_waiting state.reached ws)) (sym is)
      (indexed_dropped (listed state.listed) state.reached given consistent.indexed dropped.needless)

  pub processed_indexed : (turn : ℕ) (processed : List ℕ) → IsGiven state.reached turn given → processed ≡ state.reached.processed ++ given ∷ []
      → IsIndexed (listed state.listed) (with_processed (with_waiting state.reached waiting) processed)
  processed_indexed turn processed given_is last =
      subst (IsIndexed (listed state.listed)) (ap₂ (λ (ws ps : List ℕ). with_processed (with_waiting state.reached ws) ps) (sym is) (sym last))
      (indexed_processed (listed state.listed) state.reached given consistent.indexed (given_among state.reached turn given given_is))

-- it is worked through
pub turn_works : (limits : Limits) (turn given : ℕ) (r new : Reached) (waiting processed : List ℕ) (end : Option Ended) → IsGiven r turn given → (IsDropped r given → ⊥)
    → waiting ≡ without given r.waiting → processed ≡ r.processed ++ given ∷ []
    → Then (Factors limits given) (MeetsEach limits given processed) (with_processed (with_waiting r waiting) processed) new end
    → Turn limits turn r new end
turn_works limits turn given r new waiting processed end is stays waits last concludes = record {
  given = given;
  is_given = is;
  goes = inr (record {
    stays = stays;
    concludes = subst (λ (ps : List ℕ). Then (Factors limits given) (MeetsEach limits given ps) (with_processed (with_waiting r (without given r.waiting)) ps) new end) last
        (subst (λ (ws : List ℕ). Then (Factors limits given) (MeetsEach limits given processed) (with_processed (with_waiting r ws) processed) new end) waits concludes);
  });
}

-- ---- turn by turn

pub ran_more : (inputs : List InputClause) (limits : Limits) (taken : ℕ) (old new : Reached) → Ran inputs limits taken old → taken < limits.turns
    → Turn limits (taken + 1) old new None → Ran inputs limits (taken + 1) new
ran_more inputs limits taken old new before left takes =
    let e : taken + 1 ≡ suc taken = omega arith in
    subst (λ (n : ℕ). Ran inputs limits n new) (sym e)
    (record { old = old; before = before; left = omega arith; takes = subst (λ (n : ℕ). Turn limits n old new None) e takes })

-- nothing waits
pub at_rest : (limits : Limits) (turns : ℕ) (r : Reached) (end : Ended) → end_at_rest r ≡ Some end → IsRest limits turns r end
at_rest limits turns r end is = go r.waiting r.aside refl refl is
  where
    go : (waiting aside : List ℕ) → r.waiting ≡ waiting → r.aside ≡ aside
        → (if not (is_empty waiting) then None else if is_empty aside then Some ended.Saturated else Some ended.Deep) ≡ Some end → IsRest limits turns r end
    go (first ∷ waiting) aside waits lies is = absurd (none_some end is)
    go [] [] waits lies is = subst (IsRest limits turns r) (some_same ended.Saturated end is) (waits, lies)
    go [] (first ∷ aside) waits lies is =
        subst (IsRest limits turns r) (some_same ended.Deep end is) (waits, λ none. let no_way : first ∷ aside ≡ [] = sym lies ∙ none in cc)

pub spent_at : (limits : Limits) (turns : ℕ) (r : Reached) → end_at_rest r ≡ None → turns ≡ limits.turns → IsRest limits turns r ended.Spent
spent_at limits turns r is all = (λ none. empty (is_empty r.aside) (ap (λ (ws : List ℕ). ends ws (is_empty r.aside)) (sym none) ∙ is), all)
  where
    ends : List ℕ → Bool → Option Ended
    ends waiting b = if not (is_empty waiting) then None else if b then Some ended.Saturated else Some ended.Deep

    empty : (b : Bool) → ends [] b ≡ None → ⊥
    empty true e = none_some ended.Saturated (sym e)
    empty false e = none_some ended.Deep (sym e)

pub ends_between : (inputs : List InputClause) (limits : Limits) (turns_taken turns : ℕ) (r last : Reached) (end end_told : Ended) → Ran inputs limits turns_taken r
    → IsRest limits turns_taken r end → last ≡ r → turns ≡ turns_taken → end_told ≡ end → Runs inputs limits turns last end_told
ends_between inputs limits turns_taken turns r last end end_told ran rest is counted told =
    let between : Runs inputs limits turns_taken r end = inl (record { ran = ran; rest = rest }) in
    subst (λ (s : Reached). Runs inputs limits turns s end_told) (sym is)
    (subst (λ (n : ℕ). Runs inputs limits n r end_told) (sym counted) (subst (Runs inputs limits turns_taken r) (sym told) between))
