-- Two runs from the same inputs within the same limits.
use Rattle.std.proofs.Common.{◌≡◌, ◌≢◌, ◌<◌, ◌≤◌, ℕ, zero, suc, ◌+◌, nat_eq, not, List, [], ◌∷◌, ◌++◌, map, length, Bool, true, false, MatchBool, Option, Some, None, MatchOption, append_assoc, refl, sym, ap, ap₂, ◌∙◌, subst, inl, inr, ◌⊎◌, arith}
use Rattle.std.proofs.lemmas.List.{append-nil, length-append, length-map}
use Rattle.std.proofs.lemmas.Bool.{cases_lt}
use Rattle.sigma_base.specs.Lists.{Each, each_append, each_map, each_filter}
use Rattle.kif_tree.specs.declared.clause.InputClause.{InputClause}
use Rattle.kif_tree.specs.Clauses.{Literals, same_sign}
use Rattle.calculus.specs.declared.step.Step.{Step}
use Rattle.calculus.specs.Answers.{Among}
use Rattle.calculus.proofs.MemberLaws.{each_at}
use Rattle.calculus.proofs.PlaceLaws.{none_some, some_same}
use Rattle.infer.specs.declared.conclusion.Conclusion.{Conclusion}
use Rattle.infer.specs.Checks.{clauses_of}
use Rattle.infer.specs.Laws.{EachTwo}
use Rattle.saturate.specs.declared.arrival.Arrival.{Arrival}
use Rattle.saturate.specs.declared.arrival.Arrival.TheVariants as arrival
use Rattle.saturate.specs.declared.ended.Ended.{Ended}
use Rattle.saturate.specs.declared.ended.Ended.TheVariants as ended
use Rattle.saturate.specs.declared.limits.Limits.{Limits}
use Rattle.saturate.specs.declared.limits.Mode.{Mode}
use Rattle.saturate.specs.declared.limits.Mode.TheVariants.{Support, Full}
use Rattle.saturate.specs.declared.reached.Reached.{Reached}
use Rattle.saturate.specs.Inputs.{is_query_number}
use Rattle.saturate.specs.Runs.{clauses, numbers_from, numbers_of, numbers_where, first_processed, first_waiting, beginning, IsArrival, arrived, end_with, Comes, Way, Stays, Then, Come, renumbered, Factors, Meets, MeetsEach, weight_at, IsLighter, IsFirstOf, IsOldest, IsLightest, is_fifth, IsGiven, taken, given_processed, IsDropped, Drops, Works, Turn, Ran, IsRest, EndsBetween, EndsWithin}
use Rattle.saturate.specs.Alike.{AreSameSteps, AreAlike}
use Rattle.saturate.specs.Laws.{OneRun}
use Rattle.saturate.proofs.AlikeLaws.{AreSame, AreSameConclusions, same_more, conclusions_more, one_factors, one_meeting, steps_same, steps_more, two_refl, two_end, two_length}

-- ---- twins: two standings that differ in their steps alone

abbrev with_steps : Reached → List Step → Reached
with_steps r steps = record {
  inputs = r.inputs;
  derived = r.derived;
  steps = steps;
  processed = r.processed;
  waiting = r.waiting;
  aside = r.aside;
  found = r.found;
}

abbrev IsNumbered : Reached → ℕ → Type 0
IsNumbered r number = number < length (clauses r)

record IsStanding (r : Reached) : Type 0 where
  count : length r.steps ≡ length (clauses r)
  processed : Each (IsNumbered r) r.processed
  waiting : Each (IsNumbered r) r.waiting

record AreTwins (first : Reached) (steps : List Step) : Type 0 where
  standing : IsStanding first
  same : EachTwo (AreSame (clauses first)) first.steps steps

record Twins (first second : Reached) : Type 0 where
  steps : List Step
  is : second ≡ with_steps first steps
  are : AreTwins first steps

-- the clauses of the second standing begin with those of the first one
record Grows (old new : Reached) : Type 0 where
  more : List Literals
  is : clauses new ≡ clauses old ++ more

grows_none : (r : Reached) → Grows r r
grows_none r = record { more = []; is = sym (append-nil (clauses r)) }

grows_twice : (first second third : Reached) → Grows first second → Grows second third → Grows first third
grows_twice first second third g h =
    record { more = g.more ++ h.more; is = h.is ∙ ap (λ (cs : List Literals). cs ++ h.more) g.is ∙ append_assoc (clauses first) g.more h.more }

numbered_more : (old new : Reached) → Grows old new → (numbers : List ℕ) → Each (IsNumbered old) numbers → Each (IsNumbered new) numbers
numbered_more old new g = each_map (IsNumbered old) (IsNumbered new) (λ n h. omega (arith, ap length g.is, length-append (clauses old) g.more))

record Outcome (old new new_2 : Reached) (end end_2 : Option Ended) : Type 0 where
  twins : Twins new new_2
  ends : end ≡ end_2
  grows : Grows old new

-- a way on which twins come to twins
abbrev IsOneWay : Way → Way → Reached → List Step → Type 0
IsOneWay First Second old steps = (new new_2 : Reached) (end end_2 : Option Ended) → First old new end → Second (with_steps old steps) new_2 end_2
    → Outcome old new new_2 end end_2

-- ---- what comes

one_arrival : (r : Reached) (clause : Literals) (first second : Arrival) → IsArrival r clause first → IsArrival r clause second → first ≡ second
one_arrival r clause arrival.Contradiction arrival.Contradiction h k = refl
one_arrival r clause arrival.Contradiction arrival.Dropped h k = absurd (k.0 h)
one_arrival r clause arrival.Contradiction arrival.Found h k = absurd (k.0.asserts h)
one_arrival r clause arrival.Contradiction arrival.Aside h k = absurd (k.0.new.asserts h)
one_arrival r clause arrival.Contradiction arrival.Waits h k = absurd (k.0.new.asserts h)
one_arrival r clause arrival.Dropped arrival.Contradiction h k = absurd (h.0 k)
one_arrival r clause arrival.Dropped arrival.Dropped h k = refl
one_arrival r clause arrival.Dropped arrival.Found h k = absurd (k.0.uncovered h.1)
one_arrival r clause arrival.Dropped arrival.Aside h k = absurd (k.0.new.uncovered h.1)
one_arrival r clause arrival.Dropped arrival.Waits h k = absurd (k.0.new.uncovered h.1)
one_arrival r clause arrival.Found arrival.Contradiction h k = absurd (h.0.asserts k)
one_arrival r clause arrival.Found arrival.Dropped h k = absurd (h.0.uncovered k.1)
one_arrival r clause arrival.Found arrival.Found h k = refl
one_arrival r clause arrival.Found arrival.Aside h k = let e = sym h.1 ∙ k.0.open_still in absurd (cc)
one_arrival r clause arrival.Found arrival.Waits h k = let e = sym h.1 ∙ k.0.open_still in absurd (cc)
one_arrival r clause arrival.Aside arrival.Contradiction h k = absurd (h.0.new.asserts k)
one_arrival r clause arrival.Aside arrival.Dropped h k = absurd (h.0.new.uncovered k.1)
one_arrival r clause arrival.Aside arrival.Found h k = let e = sym k.1 ∙ h.0.open_still in absurd (cc)
one_arrival r clause arrival.Aside arrival.Aside h k = refl
one_arrival r clause arrival.Aside arrival.Waits h k = absurd (omega arith)
one_arrival r clause arrival.Waits arrival.Contradiction h k = absurd (h.0.new.asserts k)
one_arrival r clause arrival.Waits arrival.Dropped h k = absurd (h.0.new.uncovered k.1)
one_arrival r clause arrival.Waits arrival.Found h k = let e = sym k.1 ∙ h.0.open_still in absurd (cc)
one_arrival r clause arrival.Waits arrival.Aside h k = absurd (omega arith)
one_arrival r clause arrival.Waits arrival.Waits h k = refl

-- whatever isn't said of steps is so of both twins
arrival_of_twin : (r : Reached) (steps : List Step) (clause : Literals) (a : Arrival) → IsArrival (with_steps r steps) clause a → IsArrival r clause a
arrival_of_twin r steps clause arrival.Contradiction h = h
arrival_of_twin r steps clause arrival.Dropped h = h
arrival_of_twin r steps clause arrival.Found h = (record { asserts = h.0.asserts; uncovered = h.0.uncovered }, h.1)
arrival_of_twin r steps clause arrival.Aside h =
    (record { new = record { asserts = h.0.new.asserts; uncovered = h.0.new.uncovered }; open_still = h.0.open_still }, h.1)
arrival_of_twin r steps clause arrival.Waits h =
    (record { new = record { asserts = h.0.new.asserts; uncovered = h.0.new.uncovered }; open_still = h.0.open_still }, h.1)

end_of_twin : (limits : Limits) (r : Reached) (steps : List Step) (a : Arrival) → end_with limits (with_steps r steps) a ≡ end_with limits r a
end_of_twin limits r steps arrival.Contradiction = refl
end_of_twin limits r steps arrival.Dropped = refl
end_of_twin limits r steps arrival.Found = refl
end_of_twin limits r steps arrival.Aside = refl
end_of_twin limits r steps arrival.Waits = refl

dropped_of_twin : (r : Reached) (steps : List Step) (number : ℕ) → IsDropped (with_steps r steps) number → IsDropped r number
dropped_of_twin r steps number h = record { other = h.other; needless = h.needless }

dropped_to_twin : (r : Reached) (steps : List Step) (number : ℕ) → IsDropped r number → IsDropped (with_steps r steps) number
dropped_to_twin r steps number h = record { other = h.other; needless = h.needless }

-- where the two standings are known
settled : (old middle : Reached) (steps : List Step) (new new_2 : Reached) (end end_2 : Option Ended) → new ≡ middle → new_2 ≡ with_steps middle steps
    → AreTwins middle steps → Grows old middle → end ≡ end_2 → Outcome old new new_2 end end_2
settled old middle steps new new_2 end end_2 is is_2 are grows ends = record {
  twins = record { steps = steps; is = is_2 ∙ ap (λ (r : Reached). with_steps r steps) (sym is); are = subst (λ (r : Reached). AreTwins r steps) (sym is) are };
  ends = ends;
  grows = subst (Grows old) (sym is) grows;
}

module _ (old : Reached) (steps : List Step) (are : AreTwins old steps) (first second : Conclusion)
    (same : AreSameConclusions (clauses old) first second) where
  -- the next step concludes a clause
  one_more : clauses_of old.inputs ++ (old.derived ++ first.clause ∷ []) ≡ clauses old ++ first.clause ∷ []
  one_more = sym (append_assoc (clauses_of old.inputs) old.derived (first.clause ∷ []))

  longer : length (clauses_of old.inputs ++ (old.derived ++ first.clause ∷ [])) ≡ length (clauses old) + 1
  longer = ap length one_more ∙ length-append (clauses old) (first.clause ∷ [])

  grown_steps : EachTwo (AreSame (clauses_of old.inputs ++ (old.derived ++ first.clause ∷ []))) (old.steps ++ first.step ∷ []) (steps ++ second.step ∷ [])
  grown_steps =
      subst (λ (list : List Literals). EachTwo (AreSame list) (old.steps ++ first.step ∷ []) (steps ++ second.step ∷ [])) (sym one_more)
      (two_end (AreSame (clauses old ++ first.clause ∷ [])) old.steps steps first.step second.step
      (steps_more (clauses old) (first.clause ∷ []) old.steps steps are.same) (same_more (clauses old) (first.clause ∷ []) first.step second.step same.step))

  grown_count : length (old.steps ++ first.step ∷ []) ≡ length (clauses_of old.inputs ++ (old.derived ++ first.clause ∷ []))
  grown_count = length-append old.steps (first.step ∷ []) ∙ ap (λ (n : ℕ). n + 1) are.standing.count ∙ sym longer

  numbered : (numbers : List ℕ) → Each (IsNumbered old) numbers → Each (λ (n : ℕ). n < length (clauses_of old.inputs ++ (old.derived ++ first.clause ∷ []))) numbers
  numbered = each_map (IsNumbered old) (λ (n : ℕ). n < length (clauses_of old.inputs ++ (old.derived ++ first.clause ∷ []))) (λ n h. omega (arith, longer, h))

  with_last : (numbers : List ℕ) → Each (IsNumbered old) numbers
      → Each (λ (n : ℕ). n < length (clauses_of old.inputs ++ (old.derived ++ first.clause ∷ []))) (numbers ++ length old.steps ∷ [])
  with_last numbers h =
      each_append (λ (n : ℕ). n < length (clauses_of old.inputs ++ (old.derived ++ first.clause ∷ []))) numbers (length old.steps ∷ []) (numbered numbers h)
      (omega (arith, longer, are.standing.count), tt)

  grown_grows : (r : Reached) → clauses r ≡ clauses_of old.inputs ++ (old.derived ++ first.clause ∷ []) → Grows old r
  grown_grows r e = record { more = first.clause ∷ []; is = e ∙ one_more }

  one_count : length steps ≡ length old.steps
  one_count = sym (two_length (AreSame (clauses old)) old.steps steps are.same)

  arrived_alike : (limits : Limits) (a : Arrival) (new new_2 : Reached) (end end_2 : Option Ended) → new ≡ arrived old first a
      → new_2 ≡ arrived (with_steps old steps) second a → end ≡ end_2 → Outcome old new new_2 end end_2
  arrived_alike limits arrival.Contradiction new new_2 end end_2 is is_2 ends =
      let twin : arrived (with_steps old steps) second arrival.Contradiction ≡ with_steps (arrived old first arrival.Contradiction) (steps ++ second.step ∷ []) =
      λ i. record {
        inputs = old.inputs;
        derived = old.derived ++ sym same.clause i ∷ [];
        steps = steps ++ second.step ∷ [];
        processed = old.processed;
        waiting = old.waiting;
        aside = old.aside;
        found = old.found;
      } in
      settled old (arrived old first arrival.Contradiction) (steps ++ second.step ∷ []) new new_2 end end_2 is (is_2 ∙ twin)
      (record {
        standing = record { count = grown_count; processed = numbered old.processed are.standing.processed; waiting = numbered old.waiting are.standing.waiting };
        same = grown_steps;
      }) (grown_grows (arrived old first arrival.Contradiction) refl) ends
  arrived_alike limits arrival.Dropped new new_2 end end_2 is is_2 ends = settled old old steps new new_2 end end_2 is is_2 are (grows_none old) ends
  arrived_alike limits arrival.Found new new_2 end end_2 is is_2 ends =
      let twin : arrived (with_steps old steps) second arrival.Found ≡ with_steps (arrived old first arrival.Found) (steps ++ second.step ∷ []) =
      λ i. record {
        inputs = old.inputs;
        derived = old.derived ++ sym same.clause i ∷ [];
        steps = steps ++ second.step ∷ [];
        processed = old.processed;
        waiting = old.waiting;
        aside = old.aside;
        found = old.found ++ one_count i ∷ [];
      } in
      settled old (arrived old first arrival.Found) (steps ++ second.step ∷ []) new new_2 end end_2 is (is_2 ∙ twin)
      (record {
        standing = record { count = grown_count; processed = numbered old.processed are.standing.processed; waiting = numbered old.waiting are.standing.waiting };
        same = grown_steps;
      }) (grown_grows (arrived old first arrival.Found) refl) ends
  arrived_alike limits arrival.Aside new new_2 end end_2 is is_2 ends =
      let twin : arrived (with_steps old steps) second arrival.Aside ≡ with_steps (arrived old first arrival.Aside) (steps ++ second.step ∷ []) =
      λ i. record {
        inputs = old.inputs;
        derived = old.derived ++ sym same.clause i ∷ [];
        steps = steps ++ second.step ∷ [];
        processed = old.processed;
        waiting = old.waiting;
        aside = old.aside ++ one_count i ∷ [];
        found = old.found;
      } in
      settled old (arrived old first arrival.Aside) (steps ++ second.step ∷ []) new new_2 end end_2 is (is_2 ∙ twin)
      (record {
        standing = record { count = grown_count; processed = numbered old.processed are.standing.processed; waiting = numbered old.waiting are.standing.waiting };
        same = grown_steps;
      }) (grown_grows (arrived old first arrival.Aside) refl) ends
  arrived_alike limits arrival.Waits new new_2 end end_2 is is_2 ends =
      let twin : arrived (with_steps old steps) second arrival.Waits ≡ with_steps (arrived old first arrival.Waits) (steps ++ second.step ∷ []) =
      λ i. record {
        inputs = old.inputs;
        derived = old.derived ++ sym same.clause i ∷ [];
        steps = steps ++ second.step ∷ [];
        processed = old.processed;
        waiting = old.waiting ++ one_count i ∷ [];
        aside = old.aside;
        found = old.found;
      } in
      settled old (arrived old first arrival.Waits) (steps ++ second.step ∷ []) new new_2 end end_2 is (is_2 ∙ twin)
      (record {
        standing = record { count = grown_count; processed = numbered old.processed are.standing.processed; waiting = with_last old.waiting are.standing.waiting };
        same = grown_steps;
      }) (grown_grows (arrived old first arrival.Waits) refl) ends

  comes_one : (limits : Limits) → IsOneWay (Comes limits first) (Comes limits second) old steps
  comes_one limits new new_2 end end_2 h k =
      let a = one_arrival old first.clause h.arrival k.arrival h.is
      (subst (λ (c : Literals). IsArrival old c k.arrival) (sym same.clause) (arrival_of_twin old steps second.clause k.arrival k.is)) in
      let is_2 : new_2 ≡ arrived (with_steps old steps) second h.arrival = k.reached ∙ ap (arrived (with_steps old steps) second) (sym a) in
      let out = arrived_alike limits h.arrival new new_2 end end h.reached is_2 refl in
      let ends : end ≡ end_2 = h.ends ∙ sym (end_of_twin limits new out.twins.steps h.arrival)
      ∙ ap₂ (end_with limits) (sym out.twins.is) a ∙ sym k.ends in
      record { twins = out.twins; ends = ends; grows = out.grows }

-- ---- one way after another

stays_one : (old : Reached) (steps : List Step) → AreTwins old steps → IsOneWay Stays Stays old steps
stays_one old steps are new new_2 end end_2 h k = settled old old steps new new_2 end end_2 h.0 k.0 are (grows_none old) (h.1 ∙ sym k.1)

module _ (First First_2 Second Second_2 : Way) (old : Reached) (steps : List Step) (first_one : IsOneWay First First_2 old steps)
    (second_one : (middle : Reached) (next : List Step) → Grows old middle → AreTwins middle next → IsOneWay Second Second_2 middle next) where
  then_one : IsOneWay (Then First Second) (Then First_2 Second_2) old steps
  then_one new new_2 end end_2 h k =
      let out = first_one h.middle k.middle h.stop k.stop h.first k.first in
      go h.stop k.stop out h.second k.second
    where
      go : (stop stop_2 : Option Ended) → Outcome old h.middle k.middle stop stop_2
          → MatchOption stop (Second h.middle new end) (λ (ending : Ended). (new ≡ h.middle) × (end ≡ Some ending))
          → MatchOption stop_2 (Second_2 k.middle new_2 end_2) (λ (ending : Ended). (new_2 ≡ k.middle) × (end_2 ≡ Some ending))
          → Outcome old new new_2 end end_2
      go None None out a b =
          let last = second_one h.middle out.twins.steps out.grows out.twins.are new new_2 end end_2 a
          (subst (λ (r : Reached). Second_2 r new_2 end_2) out.twins.is b) in
          record { twins = last.twins; ends = last.ends; grows = grows_twice old h.middle new out.grows last.grows }
      go None (Some e) out a b = absurd (none_some e out.ends)
      go (Some e) None out a b = absurd (none_some e (sym out.ends))
      go (Some e) (Some e_2) out a b =
          settled old h.middle out.twins.steps new new_2 end end_2 a.0 (b.0 ∙ out.twins.is) out.twins.are out.grows (a.1 ∙ out.ends ∙ sym b.1)

come_one : (limits : Limits) (firsts seconds : List Conclusion) (old : Reached) (steps : List Step) → AreTwins old steps
    → EachTwo (AreSameConclusions (clauses old)) firsts seconds → IsOneWay (Come limits firsts) (Come limits seconds) old steps
come_one limits [] [] old steps are same = stays_one old steps are
come_one limits [] (y ∷ ys) old steps are same = absurd same
come_one limits (x ∷ xs) [] old steps are same = absurd same
come_one limits (x ∷ xs) (y ∷ ys) old steps are same =
    then_one (Comes limits x) (Comes limits y) (Come limits xs) (Come limits ys) old steps (comes_one old steps are x y same.0 limits)
    (λ middle next grows twins. come_one limits xs ys middle next twins
    (subst (λ (list : List Literals). EachTwo (AreSameConclusions list) xs ys) (sym grows.is) (conclusions_more (clauses old) grows.more xs ys same.1)))

-- ---- a turn

factors_one : (limits : Limits) (given : ℕ) (old : Reached) (steps : List Step) → AreTwins old steps → IsNumbered old given
    → IsOneWay (Factors limits given) (Factors limits given) old steps
factors_one limits given old steps are below new new_2 end end_2 h k =
    come_one limits (map (renumbered given given) h.list) (map (renumbered given given) k.list) old steps are
    (one_factors (clauses old) given h.list k.list below h.are k.are) new new_2 end end_2 h.come k.come

meets_one : (limits : Limits) (given partner : ℕ) (old : Reached) (steps : List Step) → AreTwins old steps → IsNumbered old given → IsNumbered old partner
    → IsOneWay (Meets limits given partner) (Meets limits given partner) old steps
meets_one limits given partner old steps are below below_2 new new_2 end end_2 h k =
    come_one limits (map (renumbered given partner) h.list) (map (renumbered given partner) k.list) old steps are
    (one_meeting (clauses old) given partner (nat_eq given partner) h.list k.list below below_2 h.are k.are) new new_2 end end_2 h.come k.come

still_numbered : (old new : Reached) → Grows old new → (n : ℕ) → IsNumbered old n → IsNumbered new n
still_numbered old new g n h = omega (arith, ap length g.is, length-append (clauses old) g.more, h)

meets_each_one : (limits : Limits) (given : ℕ) (partners : List ℕ) (old : Reached) (steps : List Step) → AreTwins old steps → IsNumbered old given
    → Each (IsNumbered old) partners → IsOneWay (MeetsEach limits given partners) (MeetsEach limits given partners) old steps
meets_each_one limits given [] old steps are below each = stays_one old steps are
meets_each_one limits given (partner ∷ partners) old steps are below each =
    then_one (Meets limits given partner) (Meets limits given partner) (MeetsEach limits given partners) (MeetsEach limits given partners) old steps
    (meets_one limits given partner old steps are below each.0)
    (λ middle next grows twins. meets_each_one limits given partners middle next twins (still_numbered old middle grows given below)
    (numbered_more old middle grows partners each.1))

given_twins : (old : Reached) (steps : List Step) (given : ℕ) → AreTwins old steps → IsNumbered old given → AreTwins (given_processed old given) steps
given_twins old steps given are below = record {
  standing = record {
    count = are.standing.count;
    processed = each_append (IsNumbered old) old.processed (given ∷ []) are.standing.processed (below, tt);
    waiting = each_filter (IsNumbered old) (λ other. not (nat_eq given other)) old.waiting are.standing.waiting;
  };
  same = are.same;
}

taken_twins : (old : Reached) (steps : List Step) (given : ℕ) → AreTwins old steps → AreTwins (taken old given) steps
taken_twins old steps given are = record {
  standing = record {
    count = are.standing.count;
    processed = are.standing.processed;
    waiting = each_filter (IsNumbered old) (λ other. not (nat_eq given other)) old.waiting are.standing.waiting;
  };
  same = are.same;
}

concluded_one : (limits : Limits) (given : ℕ) (old : Reached) (steps : List Step) → AreTwins old steps → IsNumbered old given
    → IsOneWay (Then (Factors limits given) (MeetsEach limits given (old.processed ++ given ∷ [])))
    (Then (Factors limits given) (MeetsEach limits given (old.processed ++ given ∷ []))) (given_processed old given) steps
concluded_one limits given old steps are below =
    let twins = given_twins old steps given are below in
    then_one (Factors limits given) (Factors limits given) (MeetsEach limits given (old.processed ++ given ∷ []))
    (MeetsEach limits given (old.processed ++ given ∷ [])) (given_processed old given) steps
    (factors_one limits given (given_processed old given) steps twins below)
    (λ middle next grows more. meets_each_one limits given (old.processed ++ given ∷ []) middle next more
    (still_numbered (given_processed old given) middle grows given below)
    (numbered_more (given_processed old given) middle grows (old.processed ++ given ∷ []) twins.standing.processed))

lighter_once : (w v a b : ℕ) → (w < v) ⊎ ((w ≡ v) × (a ≤ b)) → (v < w) ⊎ ((v ≡ w) × (b ≤ a)) → a ≡ b
lighter_once w v a b (inl h) (inl k) = absurd (omega arith)
lighter_once w v a b (inl h) (inr k) = let e = k.0 in absurd (omega arith)
lighter_once w v a b (inr h) (inl k) = let e = h.0 in absurd (omega arith)
lighter_once w v a b (inr h) (inr k) = let e = h.1 in let g = k.1 in omega arith

first_once : (Before : ℕ → ℕ → Type 0) → ((a b : ℕ) → Before a b → Before b a → a ≡ b) → (numbers : List ℕ) (a b : ℕ)
    → IsFirstOf Before numbers a → IsFirstOf Before numbers b → a ≡ b
first_once Before once numbers a b h k = once a b (each_at (Before a) numbers b k.among h.first) (each_at (Before b) numbers a h.among k.first)

given_once : (r : Reached) (turn a b : ℕ) → IsGiven r turn a → IsGiven r turn b → a ≡ b
given_once r turn a b = go (is_fifth turn)
  where
    go : (fifth : Bool) → MatchBool fifth (IsOldest r a) (IsLightest r a) → MatchBool fifth (IsOldest r b) (IsLightest r b) → a ≡ b
    go true h k = first_once ◌≤◌ (λ n m le ge. omega arith) r.waiting a b h k
    go false h k = first_once (IsLighter r) (λ n m le ge. lighter_once (weight_at r n) (weight_at r m) n m le ge) r.waiting a b h k

pub given_waits : (r : Reached) (turn a : ℕ) → IsGiven r turn a → Among a r.waiting
given_waits r turn a = go (is_fifth turn)
  where
    go : (fifth : Bool) → MatchBool fifth (IsOldest r a) (IsLightest r a) → Among a r.waiting
    go true h = h.among
    go false h = h.among

turn_one : (limits : Limits) (turn : ℕ) (old : Reached) (steps : List Step) → AreTwins old steps → (new new_2 : Reached) (end end_2 : Option Ended)
    → Turn limits turn old new end → Turn limits turn (with_steps old steps) new_2 end_2 → Twins new new_2 × (end ≡ end_2)
turn_one limits turn old steps are new new_2 end end_2 h k =
    let one : k.given ≡ h.given = given_once old turn k.given h.given k.is_given h.is_given in
    go h.given (given_waits old turn h.given h.is_given) h.goes
    (subst (λ (n : ℕ). Drops n (with_steps old steps) new_2 end_2 ⊎ Works limits n (with_steps old steps) new_2 end_2) one k.goes)
  where
    go : (given : ℕ) → Among given old.waiting → Drops given old new end ⊎ Works limits given old new end
        → Drops given (with_steps old steps) new_2 end_2 ⊎ Works limits given (with_steps old steps) new_2 end_2 → Twins new new_2 × (end ≡ end_2)
    go given waits (inl a) (inl b) =
        let out = settled old (taken old given) steps new new_2 end end_2 a.reached b.reached (taken_twins old steps given are) (record { more = []; is = sym (append-nil (clauses old)) })
        (a.goes_on ∙ sym b.goes_on) in
        (out.twins, out.ends)
    go given waits (inl a) (inr b) = absurd (b.stays (dropped_to_twin old steps given a.drops))
    go given waits (inr a) (inl b) = absurd (a.stays (dropped_of_twin old steps given b.drops))
    go given waits (inr a) (inr b) =
        let out = concluded_one limits given old steps are (each_at (IsNumbered old) old.waiting given waits are.standing.waiting) new new_2 end end_2 a.concludes b.concludes in
        (out.twins, out.ends)

-- ---- runs

numbers_length : (first count : ℕ) → length (numbers_from first count) ≡ count
numbers_length first zero = refl
numbers_length first (suc count) = let rest = numbers_length (first + 1) count in omega (arith, rest)

numbers_below : (first count : ℕ) → Each (λ (n : ℕ). n < first + count) (numbers_from first count)
numbers_below first zero = tt
numbers_below first (suc count) = (
  omega arith,
  each_map (λ (n : ℕ). n < first + 1 + count) (λ (n : ℕ). n < first + suc count) (λ n h. omega (arith, h))
      (numbers_from (first + 1) count) (numbers_below (first + 1) count),
)

module _ (inputs : List InputClause) where
  pub inputs_length : length (clauses_of inputs ++ []) ≡ length inputs
  inputs_length = ap length (append-nil (clauses_of inputs)) ∙ length-map inputs (λ (input : InputClause). input.clause)

  all_below : Each (λ (n : ℕ). n < length (clauses_of inputs ++ [])) (numbers_of inputs)
  all_below = each_map (λ (n : ℕ). n < 0 + length inputs) (λ (n : ℕ). n < length (clauses_of inputs ++ [])) (λ n h. omega (arith, h, inputs_length))
      (numbers_of inputs) (numbers_below 0 (length inputs))

  some_below : (of_query : Bool) → Each (λ (n : ℕ). n < length (clauses_of inputs ++ [])) (numbers_where of_query inputs)
  some_below of_query =
      each_filter (λ (n : ℕ). n < length (clauses_of inputs ++ [])) (λ number. same_sign of_query (is_query_number inputs number)) (numbers_of inputs) all_below

  pub processed_below : (mode : Mode) → Each (λ (n : ℕ). n < length (clauses_of inputs ++ [])) (first_processed inputs mode)
  processed_below Support = some_below false
  processed_below Full = tt

  pub waiting_below : (mode : Mode) → Each (λ (n : ℕ). n < length (clauses_of inputs ++ [])) (first_waiting inputs mode)
  waiting_below Support = some_below true
  waiting_below Full = all_below

  beginning_twins : (mode : Mode) → AreTwins (beginning inputs mode) (map Step.Input (numbers_of inputs))
  beginning_twins mode = record {
    standing = record {
      count = length-map (numbers_of inputs) Step.Input ∙ numbers_length 0 (length inputs) ∙ sym inputs_length;
      processed = processed_below mode;
      waiting = waiting_below mode;
    };
    same = two_refl (clauses_of inputs ++ []) (map Step.Input (numbers_of inputs));
  }

  module _ (limits : Limits) where
    ran_one : (n : ℕ) (r r_2 : Reached) → Ran inputs limits n r → Ran inputs limits n r_2 → Twins r r_2
    ran_one zero r r_2 h k =
        let start = beginning inputs limits.mode in
        let out = settled start start start.steps r r_2 None None h k (beginning_twins limits.mode) (grows_none start) refl in
        out.twins
    ran_one (suc n) r r_2 h k =
        let before = ran_one n h.old k.old h.before k.before in
        let turned = turn_one limits (suc n) h.old before.steps before.are r r_2 None None h.takes
        (subst (λ (old : Reached). Turn limits (suc n) old r_2 None) before.is k.takes) in
        turned.0

    -- a turn after so many
    record Passes (n : ℕ) (end : Option Ended) : Type 0 where
      old : Reached
      new : Reached
      ran : Ran inputs limits n old
      left : suc n ≤ limits.turns
      takes : Turn limits (suc n) old new end

    passes_before : (m n : ℕ) (r : Reached) → n < m → Ran inputs limits m r → Passes n None
    passes_before zero n r below h = absurd (omega arith)
    passes_before (suc m) n r below h = go (λ less. passes_before m n h.old less h.before) (cases_lt n m)
      where
        go : (n < m → Passes n None) → (n < m) ⊎ (m ≤ n) → Passes n None
        go earlier (inl less) = earlier less
        go earlier (inr more) =
            let same : m ≡ n = omega arith in
            subst (λ (k : ℕ). Passes k None) same (record { old = h.old; new = r; ran = h.before; left = h.left; takes = h.takes })

    passes_once : (n : ℕ) (end end_2 : Option Ended) (p : Passes n end) (q : Passes n end_2) → Twins p.new q.new × (end ≡ end_2)
    passes_once n end end_2 p q =
        let before = ran_one n p.old q.old p.ran q.ran in
        turn_one limits (suc n) p.old before.steps before.are p.new q.new end end_2 p.takes
        (subst (λ (old : Reached). Turn limits (suc n) old q.new end_2) before.is q.takes)

    passes_within : (turns : ℕ) (r : Reached) (end : Ended) (h : EndsWithin inputs limits turns r end) → Turn limits (suc h.earlier) h.old r (Some end)
    passes_within turns r end h = let e : turns ≡ suc h.earlier = h.counted ∙ omega arith in subst (λ (t : ℕ). Turn limits t h.old r (Some end)) e h.takes

    within : (turns : ℕ) (r : Reached) (end : Ended) (h : EndsWithin inputs limits turns r end) → Passes h.earlier (Some end)
    within turns r end h = record { old = h.old; new = r; ran = h.ran; left = omega (arith, h.left, h.counted); takes = passes_within turns r end h }

    -- where a run rests, no turn is taken
    no_turn : (n : ℕ) (r old : Reached) (end : Ended) → r.waiting ≡ old.waiting → old.waiting ≢ [] → suc n ≤ limits.turns → IsRest limits n r end → ⊥
    no_turn n r old ended.Saturated same waits left h = waits (sym same ∙ h.0)
    no_turn n r old ended.Deep same waits left h = waits (sym same ∙ h.0)
    no_turn n r old ended.Spent same waits left h = let e = h.1 in omega arith
    no_turn n r old ended.Enough same waits left h = h
    no_turn n r old ended.Crowded same waits left h = h
    no_turn n r old ended.Contradiction same waits left h = h

    some_waits : (numbers : List ℕ) (a : ℕ) → Among a numbers → numbers ≢ []
    some_waits [] a h e = h
    some_waits (n ∷ numbers) a h e = absurd (cc)

    rests : (n : ℕ) (r : Reached) (end : Ended) (next : Option Ended) → EndsBetween inputs limits n r end → Passes n next → ⊥
    rests n r end next h p =
        let twins = ran_one n r p.old h.ran p.ran in
        no_turn n r p.old end (sym (ap (λ (s : Reached). s.waiting) twins.is))
        (some_waits p.old.waiting p.takes.given (given_waits p.old (suc n) p.takes.given p.takes.is_given)) p.left h.rest

    rest_once : (n : ℕ) (r r_2 : Reached) (end end_2 : Ended) → r.waiting ≡ r_2.waiting → r.aside ≡ r_2.aside → IsRest limits n r end → IsRest limits n r_2 end_2
        → end ≡ end_2
    rest_once n r r_2 ended.Saturated ended.Saturated w a h k = refl
    rest_once n r r_2 ended.Saturated ended.Deep w a h k = absurd (k.1 (sym a ∙ h.1))
    rest_once n r r_2 ended.Saturated ended.Spent w a h k = absurd (k.0 (sym w ∙ h.0))
    rest_once n r r_2 ended.Deep ended.Saturated w a h k = absurd (h.1 (a ∙ k.1))
    rest_once n r r_2 ended.Deep ended.Deep w a h k = refl
    rest_once n r r_2 ended.Deep ended.Spent w a h k = absurd (k.0 (sym w ∙ h.0))
    rest_once n r r_2 ended.Spent ended.Saturated w a h k = absurd (h.0 (w ∙ k.0))
    rest_once n r r_2 ended.Spent ended.Deep w a h k = absurd (h.0 (w ∙ k.0))
    rest_once n r r_2 ended.Spent ended.Spent w a h k = refl
    rest_once n r r_2 ended.Enough end_2 w a h k = absurd h
    rest_once n r r_2 ended.Crowded end_2 w a h k = absurd h
    rest_once n r r_2 ended.Contradiction end_2 w a h k = absurd h
    rest_once n r r_2 end ended.Enough w a h k = absurd k
    rest_once n r r_2 end ended.Crowded w a h k = absurd k
    rest_once n r r_2 end ended.Contradiction w a h k = absurd k

    -- ---- ends

    alike_twins : (r r_2 : Reached) → Twins r r_2 → AreAlike r r_2
    alike_twins r r_2 twins = record {
      inputs = sym (ap (λ (s : Reached). s.inputs) twins.is);
      derived = sym (ap (λ (s : Reached). s.derived) twins.is);
      processed = sym (ap (λ (s : Reached). s.processed) twins.is);
      waiting = sym (ap (λ (s : Reached). s.waiting) twins.is);
      aside = sym (ap (λ (s : Reached). s.aside) twins.is);
      found = sym (ap (λ (s : Reached). s.found) twins.is);
      steps = subst (EachTwo (AreSameSteps (clauses r)) r.steps) (sym (ap (λ (s : Reached). s.steps) twins.is))
          (steps_same (clauses r) r.steps twins.steps twins.are.same);
    }

    abbrev AreOne : (n m : ℕ) (r r_2 : Reached) (end end_2 : Ended) → Type 0
    AreOne n m r r_2 end end_2 = AreAlike r r_2 × (n ≡ m) × (end ≡ end_2)

    between_both : (n m : ℕ) (r r_2 : Reached) (end end_2 : Ended) → EndsBetween inputs limits n r end → EndsBetween inputs limits m r_2 end_2
        → AreOne n m r r_2 end end_2
    between_both n m r r_2 end end_2 h k = go (cases_lt n m) (cases_lt m n)
      where
        same : n ≡ m → AreOne n m r r_2 end end_2
        same e =
            let ran : Ran inputs limits n r_2 = subst (λ (i : ℕ). Ran inputs limits i r_2) (sym e) k.ran in
            let rest : IsRest limits n r_2 end_2 = subst (λ (i : ℕ). IsRest limits i r_2 end_2) (sym e) k.rest in
            let twins = ran_one n r r_2 h.ran ran in
            let alike = alike_twins r r_2 twins in
            (alike, e, rest_once n r r_2 end end_2 alike.waiting alike.aside h.rest rest)

        go : (n < m) ⊎ (m ≤ n) → (m < n) ⊎ (n ≤ m) → AreOne n m r r_2 end end_2
        go (inl less) more = absurd (rests n r end None h (passes_before m n r_2 less k.ran))
        go (inr le) (inl less) = absurd (rests m r_2 end_2 None k (passes_before n m r less h.ran))
        go (inr le) (inr ge) = same (omega arith)

    never_both : (n m : ℕ) (r r_2 : Reached) (end end_2 : Ended) → EndsBetween inputs limits n r end → EndsWithin inputs limits m r_2 end_2 → ⊥
    never_both n m r r_2 end end_2 h k = go (cases_lt n k.earlier) (cases_lt k.earlier n)
      where
        go : (n < k.earlier) ⊎ (k.earlier ≤ n) → (k.earlier < n) ⊎ (n ≤ k.earlier) → ⊥
        go (inl less) more = rests n r end None h (passes_before k.earlier n k.old less k.ran)
        go (inr le) (inl less) =
            let both = passes_once k.earlier None (Some end_2) (passes_before n k.earlier r less h.ran) (within m r_2 end_2 k) in
            none_some end_2 both.1
        go (inr le) (inr ge) =
            let same : k.earlier ≡ n = omega arith in
            rests n r end (Some end_2) h (subst (λ (i : ℕ). Passes i (Some end_2)) same (within m r_2 end_2 k))

    within_both : (n m : ℕ) (r r_2 : Reached) (end end_2 : Ended) → EndsWithin inputs limits n r end → EndsWithin inputs limits m r_2 end_2
        → AreOne n m r r_2 end end_2
    within_both n m r r_2 end end_2 h k = go (cases_lt h.earlier k.earlier) (cases_lt k.earlier h.earlier)
      where
        same : h.earlier ≡ k.earlier → AreOne n m r r_2 end end_2
        same e =
            let other : Ran inputs limits h.earlier k.old = subst (λ (i : ℕ). Ran inputs limits i k.old) (sym e) k.ran in
            let takes : Turn limits (suc h.earlier) k.old r_2 (Some end_2) =
            subst (λ (i : ℕ). Turn limits (suc i) k.old r_2 (Some end_2)) (sym e) (passes_within m r_2 end_2 k) in
            let before = ran_one h.earlier h.old k.old h.ran other in
            let turned = turn_one limits (suc h.earlier) h.old before.steps before.are r r_2 (Some end) (Some end_2) (passes_within n r end h)
            (subst (λ (old : Reached). Turn limits (suc h.earlier) old r_2 (Some end_2)) before.is takes) in
            (alike_twins r r_2 turned.0, h.counted ∙ ap (λ (i : ℕ). i + 1) e ∙ sym k.counted, some_same end end_2 turned.1)

        go : (h.earlier < k.earlier) ⊎ (k.earlier ≤ h.earlier) → (k.earlier < h.earlier) ⊎ (h.earlier ≤ k.earlier) → AreOne n m r r_2 end end_2
        go (inl less) more =
            let both = passes_once h.earlier None (Some end) (passes_before k.earlier h.earlier k.old less k.ran) (within n r end h) in
            absurd (none_some end both.1)
        go (inr le) (inl less) =
            let both = passes_once k.earlier None (Some end_2) (passes_before h.earlier k.earlier h.old less h.ran) (within m r_2 end_2 k) in
            absurd (none_some end_2 both.1)
        go (inr le) (inr ge) = same (omega arith)

pub one_run : OneRun
one_run inputs limits n m r r_2 end end_2 (inl h) (inl k) = between_both inputs limits n m r r_2 end end_2 h k
one_run inputs limits n m r r_2 end end_2 (inl h) (inr k) = absurd (never_both inputs limits n m r r_2 end end_2 h k)
one_run inputs limits n m r r_2 end end_2 (inr h) (inl k) = absurd (never_both inputs limits m n r_2 r end_2 end k h)
one_run inputs limits n m r r_2 end end_2 (inr h) (inr k) = within_both inputs limits n m r r_2 end end_2 h k
