-- Clauses that are set aside nest too deep, and ends between turns find the lists as they say.
use Rattle.std.proofs.Common.{◌<◌, ℕ, List, [], ◌∷◌, length, sym, subst}
use Rattle.sigma_base.specs.Lists.{Each, each_append, each_map, each_both}
use Rattle.kif_tree.specs.declared.clause.InputClause.{InputClause}
use Rattle.kif_tree.specs.Clauses.{Literals}
use Rattle.infer.specs.declared.conclusion.Conclusion.{Conclusion}
use Rattle.saturate.specs.declared.arrival.Arrival.{Arrival}
use Rattle.saturate.specs.declared.arrival.Arrival.TheVariants as arrival
use Rattle.saturate.specs.declared.ended.Ended.{Ended}
use Rattle.saturate.specs.declared.limits.Limits.{Limits}
use Rattle.saturate.specs.declared.reached.Reached.{Reached}
use Rattle.saturate.specs.Runs.{clause_depth, most_levels, IsArrival, arrived, renumbered, Runs}
use Rattle.saturate.specs.Ends.{IsDeep}
use Rattle.saturate.proofs.StepLaws.{IsNumber, clause_at_arrived, Stands, Invariant, always}
use Rattle.saturate.proofs.SoundLaws.{clause_at_new}

abbrev AreDeep : Reached → Type 0
AreDeep r = Each (IsDeep r) r.aside

module _ (inputs : List InputClause) (r : Reached) (stands : Stands inputs r) (deep : AreDeep r) (given partner : ℕ) (conclusion : Conclusion) where
  still_deep : (a : Arrival) → Each (IsDeep (arrived r (renumbered given partner conclusion) a)) r.aside
  still_deep a =
      let new = arrived r (renumbered given partner conclusion) a in
      each_map (λ n. IsNumber r n × IsDeep r n) (IsDeep new)
      (λ n both. subst (λ (clause : Literals). most_levels < clause_depth clause) (sym (clause_at_arrived r (renumbered given partner conclusion) a n both.0)) both.1)
      r.aside (each_both (IsNumber r) (IsDeep r) r.aside stands.aside deep)

  deep_arrived : (a : Arrival) → IsArrival r conclusion.clause a → AreDeep (arrived r (renumbered given partner conclusion) a)
  deep_arrived arrival.Contradiction is = still_deep arrival.Contradiction
  deep_arrived arrival.Dropped is = deep
  deep_arrived arrival.Found is = still_deep arrival.Found
  deep_arrived arrival.Aside is =
      each_append (IsDeep (arrived r (renumbered given partner conclusion) arrival.Aside)) r.aside (length r.steps ∷ []) (still_deep arrival.Aside)
      (subst (λ (clause : Literals). most_levels < clause_depth clause) (sym (clause_at_new inputs r stands (renumbered given partner conclusion))) is.1, tt)
  deep_arrived arrival.Waits is = still_deep arrival.Waits

are_deep : (inputs : List InputClause) (limits : Limits) → Invariant inputs limits AreDeep
are_deep inputs limits = record {
  begins = tt;
  takes = λ r given stands deep waits. deep;
  gives = λ r given stands deep waits. deep;
  comes = λ r given partner list conclusion a stands deep parents among is. deep_arrived inputs r stands deep given partner conclusion a is;
}

-- each clause that is set aside nests too deep
pub aside_is_deep : (inputs : List InputClause) (limits : Limits) (turns : ℕ) (r : Reached) (end : Ended) → Runs inputs limits turns r end → Each (IsDeep r) r.aside
aside_is_deep inputs limits turns r end runs = (always inputs limits AreDeep (are_deep inputs limits) turns r end runs).holds
