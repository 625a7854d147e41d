-- What the end of a search means, from the account and from what each standing keeps.
use Rattle.std.proofs.Common.{ℕ, nat_le, List, [], ◌∷◌, ◌++◌, map, length, Bool, true, false, Option, Some, None, inl, inr, refl, sym, subst}
use Rattle.infer.specs.declared.conclusion.Conclusion.{Conclusion}
use Rattle.saturate.specs.declared.arrival.Arrival.{Arrival}
use Rattle.saturate.specs.declared.arrival.Arrival.TheVariants as arrival
use Rattle.saturate.specs.declared.ended.Ended.{Ended}
use Rattle.saturate.specs.declared.ended.Ended.TheVariants as ended
use Rattle.saturate.specs.declared.limits.Limits.{Limits}
use Rattle.saturate.specs.declared.reached.Reached.{Reached}
use Rattle.saturate.specs.Runs.{ended_where, end_with, kept_count, Comes, Way, Stays, Then, Come, renumbered, Factors, Meets, MeetsEach, given_processed, Turn}
use Rattle.saturate.specs.Laws.{EndsHold}
use Rattle.saturate.proofs.CoverLaws.{then_parts}
use Rattle.saturate.proofs.AccountLaws.{turn_earlier, ran_kept}
use Rattle.saturate.proofs.CountLaws.{enough_found, crowded_kept}
use Rattle.saturate.proofs.DepthLaws.{aside_is_deep}
use Rattle.saturate.proofs.FreshLaws.{kept_is_fresh, kept_is_concluded}
use Rattle.saturate.proofs.ContradictionLaws.{contradiction_is_last}

-- ---- how a turn may end the search

-- with enough answers, crowded, or with a contradiction
abbrev IsTurnEnd : Option Ended → Type 0
IsTurnEnd None = Unit {0}
IsTurnEnd (Some ended.Enough) = Unit {0}
IsTurnEnd (Some ended.Crowded) = Unit {0}
IsTurnEnd (Some ended.Contradiction) = Unit {0}
IsTurnEnd (Some ended.Saturated) = ⊥
IsTurnEnd (Some ended.Deep) = ⊥
IsTurnEnd (Some ended.Spent) = ⊥

ended_so : (b : Bool) (end : Ended) → IsTurnEnd (Some end) → IsTurnEnd (ended_where b end)
ended_so true end h = h
ended_so false end h = tt

ends_so : (limits : Limits) (r : Reached) (a : Arrival) → IsTurnEnd (end_with limits r a)
ends_so limits r arrival.Contradiction = tt
ends_so limits r arrival.Dropped = tt
ends_so limits r arrival.Found = ended_so (nat_le limits.answers (length r.found)) ended.Enough tt
ends_so limits r arrival.Aside = ended_so (nat_le limits.kept (kept_count r)) ended.Crowded tt
ends_so limits r arrival.Waits = ended_so (nat_le limits.kept (kept_count r)) ended.Crowded tt

abbrev EndsSo : Way → Type 0
EndsSo Way = (old new : Reached) (end : Option Ended) → Way old new end → IsTurnEnd end

then_ends : (First Second : Way) → EndsSo First → EndsSo Second → EndsSo (Then First Second)
then_ends First Second one two old new end t = elim (then_parts First Second old new end t) [
  | inl b ↦ two b.middle new end b.second
  | inr s ↦ subst IsTurnEnd (sym s.ends) (one old new (Some s.ending) s.first)
]

stays_ends : EndsSo Stays
stays_ends old new end s = subst IsTurnEnd (sym s.1) tt

comes_ends : (limits : Limits) (conclusion : Conclusion) → EndsSo (Comes limits conclusion)
comes_ends limits conclusion old new end c = subst IsTurnEnd (sym c.ends) (ends_so limits new c.arrival)

come_ends : (limits : Limits) (conclusions : List Conclusion) → EndsSo (Come limits conclusions)
come_ends limits [] = stays_ends
come_ends limits (conclusion ∷ conclusions) =
    then_ends (Comes limits conclusion) (Come limits conclusions) (comes_ends limits conclusion) (come_ends limits conclusions)

factors_ends : (limits : Limits) (given : ℕ) → EndsSo (Factors limits given)
factors_ends limits given old new end f = come_ends limits (map (renumbered given given) f.list) old new end f.come

meets_ends : (limits : Limits) (given partner : ℕ) → EndsSo (Meets limits given partner)
meets_ends limits given partner old new end m = come_ends limits (map (renumbered given partner) m.list) old new end m.come

meets_each_ends : (limits : Limits) (given : ℕ) (partners : List ℕ) → EndsSo (MeetsEach limits given partners)
meets_each_ends limits given [] = stays_ends
meets_each_ends limits given (partner ∷ partners) =
    then_ends (Meets limits given partner) (MeetsEach limits given partners) (meets_ends limits given partner) (meets_each_ends limits given partners)

turn_ends : (limits : Limits) (turn : ℕ) → EndsSo (Turn limits turn)
turn_ends limits turn old new end t = elim t.goes [
  | inl d ↦ subst IsTurnEnd (sym d.goes_on) tt
  | inr w ↦
      let partners = old.processed ++ t.given ∷ [] in
      then_ends (Factors limits t.given) (MeetsEach limits t.given partners) (factors_ends limits t.given) (meets_each_ends limits t.given partners)
      (given_processed old t.given) new end w.concludes
]

-- ---- the ends

pub ends_hold : EndsHold
ends_hold inputs limits turns r ended.Enough begun answers some_kept run = enough_found inputs limits answers some_kept turns r ended.Enough run refl
ends_hold inputs limits turns r ended.Saturated begun answers some_kept (inl b) =
    let held = ran_kept inputs limits turns r b.ran in
    record { waiting = b.rest.0; aside = b.rest.1; account = held.account; inputs = held.inputs }
ends_hold inputs limits turns r ended.Saturated begun answers some_kept (inr w) = absurd (turn_ends limits turns w.old r (Some ended.Saturated) w.takes)
ends_hold inputs limits turns r ended.Deep begun answers some_kept (inl b) =
    let held = ran_kept inputs limits turns r b.ran in
    record {
      waiting = b.rest.0;
      aside = b.rest.1;
      deep = aside_is_deep inputs limits turns r ended.Deep (inl b);
      account = held.account;
      inputs = held.inputs;
    }
ends_hold inputs limits turns r ended.Deep begun answers some_kept (inr w) = absurd (turn_ends limits turns w.old r (Some ended.Deep) w.takes)
ends_hold inputs limits turns r ended.Spent begun answers some_kept (inl b) =
    let held = ran_kept inputs limits turns r b.ran in
    record { waiting = b.rest.0; all = b.rest.1; account = held.account; inputs = held.inputs }
ends_hold inputs limits turns r ended.Spent begun answers some_kept (inr w) = absurd (turn_ends limits turns w.old r (Some ended.Spent) w.takes)
ends_hold inputs limits turns r ended.Crowded begun answers some_kept (inl b) = absurd b.rest
ends_hold inputs limits turns r ended.Crowded begun answers some_kept (inr w) =
    record {
      count = crowded_kept inputs limits answers some_kept turns r ended.Crowded (inr w) refl;
      fresh = kept_is_fresh inputs limits turns r ended.Crowded (inr w);
      concluded = kept_is_concluded inputs limits turns r ended.Crowded (inr w);
      account = turn_earlier inputs limits limits.mode turns w.old (ran_kept inputs limits w.earlier w.old w.ran) r ended.Crowded w.takes;
    }
ends_hold inputs limits turns r ended.Contradiction begun answers some_kept run =
    contradiction_is_last inputs limits begun turns r ended.Contradiction run refl
