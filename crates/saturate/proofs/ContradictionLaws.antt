-- A clause without literals comes last, and in full mode alone: in support mode each given clause has an answer literal.
use Rattle.std.proofs.Common.{◌≡◌, ◌⊎◌, inl, inr, ◌<◌, ℕ, zero, suc, ◌+◌, nat_eq, List, [], ◌∷◌, ◌++◌, map, length, Bool, true, false, not, codes, Option, Some, None, refl, sym, ap, ◌∙◌, subst, arith}
use Rattle.std.proofs.lemmas.List.{append-nil}
use Rattle.std.proofs.lemmas.Slice.Eq.{bytes_eq-Decides}
use Rattle.kif_tree.specs.declared.clause.InputClause.{InputClause}
use Rattle.kif_tree.specs.declared.place.Place.{Place}
use Rattle.kif_tree.specs.Clauses.{Literals, same_sign}
use Rattle.calculus.specs.Rules.{nth}
use Rattle.calculus.specs.Equality.{yes}
use Rattle.calculus.specs.Evidence.{list_from}
use Rattle.calculus.specs.Answers.{Among, answer_atom}
use Rattle.calculus.proofs.TruthLaws.{false_true}
use Rattle.calculus.proofs.PlaceLaws.{none_some, some_same}
use Rattle.calculus.proofs.InstanceLaws.{nth-among}
use Rattle.calculus.proofs.MemberLaws.{among-right, among-parted, each_at}
use Rattle.clause_form.specs.Sentences.{IsQueryClause}
use Rattle.clause_form.proofs.AtomLaws.{answer-List}
use Rattle.unify.specs.ClauseSets.{IsThere, IsSetInput}
use Rattle.infer.specs.declared.conclusion.Conclusion.{Conclusion}
use Rattle.infer.specs.Checks.{clauses_of}
use Rattle.infer.specs.Conclusions.{clause_at}
use Rattle.saturate.specs.declared.arrival.Arrival.{Arrival}
use Rattle.saturate.specs.declared.arrival.Arrival.TheVariants as arrival
use Rattle.saturate.specs.declared.ended.Ended.{Ended}
use Rattle.saturate.specs.declared.ended.Ended.TheVariants as ended
use Rattle.saturate.specs.declared.limits.Limits.{Limits}
use Rattle.saturate.specs.declared.limits.Mode.{Mode}
use Rattle.saturate.specs.declared.limits.Mode.TheVariants.{Support, Full}
use Rattle.saturate.specs.declared.reached.Reached.{Reached}
use Rattle.saturate.specs.Inputs.{is_of_query, is_query_input, is_query_number, reflexivity_inputs, numbered_inputs, needs_reflexivity}
use Rattle.saturate.specs.Runs.{clauses, numbers_of, first_waiting, IsArrival, grown, arrived, ended_where, end_with, renumbered, without, IsRest, Runs}
use Rattle.saturate.specs.Ends.{IsContradictory}
use Rattle.saturate.specs.Laws.{AreSearchInputs}
use Rattle.saturate.proofs.ListLaws.{among_filtered}
use Rattle.saturate.proofs.StepLaws.{IsNumber, clause_at_arrived, longer_arrived, Stands, Parents, Leads, Keeps, Between, run_keeps}
use Rattle.saturate.proofs.SoundLaws.{clause_at_new}
use Rattle.saturate.proofs.MarkLaws.{IsMarked, marked_is_not_empty, conclusion_marked}

-- ---- clauses of the query among the inputs

query_marked : (asked : ℕ) (clause : Literals) → IsQueryClause asked clause → IsMarked clause
query_marked asked clause is = record {
  literal = yes (answer_atom is.arguments);
  stands = subst (Among (yes (answer_atom is.arguments))) (sym is.is) (among-right (yes (answer_atom is.arguments)) is.front (yes (answer_atom is.arguments) ∷ []) (inl refl));
  answers = answer-List (codes "!answer") is.arguments ∙ (bytes_eq-Decides (codes "!answer") (codes "!answer")).1 refl;
}

numbered_among : (first : ℕ) (query : List Literals) (input : InputClause) → Among input (numbered_inputs first query) → Among input.clause query
numbered_among first [] input there = absurd there
numbered_among first (clause ∷ query) input (inl e) = inl (ap (λ (i : InputClause). i.clause) e)
numbered_among first (clause ∷ query) input (inr there) = inr (numbered_among (first + 1) query input there)

placed_is_no_query : (place : Option Place) (variant : ℕ) → IsThere place → is_of_query place variant ≡ true → ⊥
placed_is_no_query None variant there is = there
placed_is_no_query (Some place) variant there is = false_true is

reflexivity_is_no_query : (needed : Bool) (input : InputClause) → Among input (reflexivity_inputs needed) → is_of_query input.place input.variant ≡ true → ⊥
reflexivity_is_no_query true input (inl e) is = false_true (ap (λ (i : InputClause). is_of_query i.place i.variant) (sym e) ∙ is)
reflexivity_is_no_query true input (inr nothing) is = nothing
reflexivity_is_no_query false input nothing is = nothing

query_input_marked : (inputs : List InputClause) → AreSearchInputs inputs → (input : InputClause) → Among input inputs → is_of_query input.place input.variant ≡ true
    → IsMarked input.clause
query_input_marked inputs search input there is = go (among-parted input search.set (more_inputs) (subst (Among input) search.are there))
  where
    more_inputs : List InputClause
    more_inputs = reflexivity_inputs (needs_reflexivity search.set search.query) ++ numbered_inputs 1 search.query

    rest : Among input (reflexivity_inputs (needs_reflexivity search.set search.query)) ⊎ Among input (numbered_inputs 1 search.query) → IsMarked input.clause
    rest (inl reflexive) = absurd (reflexivity_is_no_query (needs_reflexivity search.set search.query) input reflexive is)
    rest (inr numbered) =
        query_marked search.asked input.clause
        (each_at (IsQueryClause search.asked) search.query input.clause (numbered_among 1 search.query input numbered) search.are_query)

    go : Among input search.set ⊎ Among input (reflexivity_inputs (needs_reflexivity search.set search.query) ++ numbered_inputs 1 search.query) → IsMarked input.clause
    go (inl in_set) = absurd (placed_is_no_query input.place input.variant (each_at IsSetInput search.set input in_set search.is_set.each).placed is)
    go (inr others) = rest (among-parted input (reflexivity_inputs (needs_reflexivity search.set search.query)) (numbered_inputs 1 search.query) others)

nth_mapped : {X Y : Type 0} (f : X → Y) (xs : List X) (n : ℕ) (x : X) → nth xs n ≡ Some x → nth (map f xs) n ≡ Some (f x)
nth_mapped f [] n x e = absurd (none_some x e)
nth_mapped f (y ∷ xs) zero x e = ap (λ z. Some (f z)) (some_same y x e)
nth_mapped f (y ∷ xs) (suc n) x e = nth_mapped f xs n x e

query_number_marked : (inputs : List InputClause) → AreSearchInputs inputs → (n : ℕ) → is_query_number inputs n ≡ true → IsMarked (clause_at (clauses_of inputs ++ []) n)
query_number_marked inputs search n is = go (nth inputs n) refl is
  where
    go : (o : Option InputClause) → nth inputs n ≡ o → is_query_input o ≡ true → IsMarked (clause_at (clauses_of inputs ++ []) n)
    go None at query = absurd (false_true query)
    go (Some input) at query =
        let here : clause_at (clauses_of inputs ++ []) n ≡ input.clause =
        ap (λ (list : List Literals). clause_at list n) (append-nil (clauses_of inputs))
        ∙ ap (λ (o : Option Literals). list_from o (λ clause. clause)) (nth_mapped (λ (i : InputClause). i.clause) inputs n input at) in
        subst IsMarked (sym here) (query_input_marked inputs search input (nth-among inputs n input at) query)

-- ---- standings in support mode

-- each waiting clause has an answer literal
abbrev AreMarked : Mode → Reached → Type 0
AreMarked mode r = mode ≡ Support → (n : ℕ) → Among n r.waiting → IsMarked (clause_at (clauses r) n)

record IsMarkedTurn (mode : Mode) (given : ℕ) (r : Reached) : Type 0 where
  waiting : AreMarked mode r
  below : given < length (clauses r)
  marked : mode ≡ Support → IsMarked (clause_at (clauses r) given)

-- a search that ends with a contradiction ends as is said
abbrev EndsRight : Mode → Ended → Reached → Type 0
EndsRight mode end r = end ≡ ended.Contradiction → IsContradictory mode r

other_crowded : ended.Crowded ≡ ended.Contradiction → ⊥
other_crowded e = cc

other_enough : ended.Enough ≡ ended.Contradiction → ⊥
other_enough e = cc

where_leads : (P : Reached → Type 0) (E : Ended → Reached → Type 0) (r : Reached) (b : Bool) (end : Ended) → P r → E end r → Leads P E r (ended_where b end)
where_leads P E r true end here there = there
where_leads P E r false end here there = here

full_or_not : (mode : Mode) → (mode ≡ Support → ⊥) → mode ≡ Full
full_or_not Support never = absurd (never refl)
full_or_not Full never = refl

module _ (inputs : List InputClause) (mode : Mode) (r : Reached) (stands : Stands inputs r) (given partner : ℕ) (turn : IsMarkedTurn mode given r)
    (list : List Conclusion) (conclusion : Conclusion) (parents : Parents r given partner list) (among : Among conclusion list) where
  conclusion_is_marked : mode ≡ Support → IsMarked conclusion.clause
  conclusion_is_marked support = conclusion_marked r given partner list conclusion parents among (turn.marked support)

  old_marked : (a : Arrival) (n : ℕ) → IsNumber r n → IsMarked (clause_at (clauses r) n) → IsMarked (clause_at (clauses (arrived r (renumbered given partner conclusion) a)) n)
  old_marked a n below marked = subst IsMarked (sym (clause_at_arrived r (renumbered given partner conclusion) a n below)) marked

  same_waiting : (a : Arrival) → mode ≡ Support → (n : ℕ) → Among n r.waiting → IsMarked (clause_at (clauses (arrived r (renumbered given partner conclusion) a)) n)
  same_waiting a support n there = old_marked a n (each_at (IsNumber r) r.waiting n there stands.waiting) (turn.waiting support n there)

  more_waiting : mode ≡ Support → (n : ℕ) → Among n (r.waiting ++ length r.steps ∷ [])
      → IsMarked (clause_at (clauses (arrived r (renumbered given partner conclusion) arrival.Waits)) n)
  more_waiting support n there = go (among-parted n r.waiting (length r.steps ∷ []) there)
    where
      go : Among n r.waiting ⊎ Among n (length r.steps ∷ []) → IsMarked (clause_at (clauses (arrived r (renumbered given partner conclusion) arrival.Waits)) n)
      go (inl before) = same_waiting arrival.Waits support n before
      go (inr (inl e)) =
          subst (λ (m : ℕ). IsMarked (clause_at (clauses (grown r (renumbered given partner conclusion))) m)) (sym e)
          (subst IsMarked (sym (clause_at_new inputs r stands (renumbered given partner conclusion))) (conclusion_is_marked support))
      go (inr (inr nothing)) = absurd nothing

  turn_with : (a : Arrival) → AreMarked mode (arrived r (renumbered given partner conclusion) a) → IsMarkedTurn mode given (arrived r (renumbered given partner conclusion) a)
  turn_with a waiting =
      let longer = longer_arrived r (renumbered given partner conclusion) a in
      let before : given < length (clauses r) = turn.below in
      record {
        waiting = waiting;
        below = omega (arith, longer, before);
        marked = λ support. old_marked a given turn.below (turn.marked support);
      }

  marked_arrived : (limits : Limits) (a : Arrival) → IsArrival r conclusion.clause a
      → Leads (IsMarkedTurn mode given) (EndsRight mode) (arrived r (renumbered given partner conclusion) a) (end_with limits (arrived r (renumbered given partner conclusion) a) a)
  marked_arrived limits arrival.Contradiction is = λ e. record {
    full = full_or_not mode (λ support. marked_is_not_empty conclusion.clause (conclusion_is_marked support) is);
    earlier = r.derived;
    last = ap (λ (clause : Literals). r.derived ++ clause ∷ []) is;
  }
  marked_arrived limits arrival.Dropped is = turn
  marked_arrived limits arrival.Found is =
      where_leads (IsMarkedTurn mode given) (EndsRight mode) (arrived r (renumbered given partner conclusion) arrival.Found) _ ended.Enough
      (turn_with arrival.Found (same_waiting arrival.Found)) (λ e. absurd (other_enough e))
  marked_arrived limits arrival.Aside is =
      where_leads (IsMarkedTurn mode given) (EndsRight mode) (arrived r (renumbered given partner conclusion) arrival.Aside) _ ended.Crowded
      (turn_with arrival.Aside (same_waiting arrival.Aside)) (λ e. absurd (other_crowded e))
  marked_arrived limits arrival.Waits is =
      where_leads (IsMarkedTurn mode given) (EndsRight mode) (arrived r (renumbered given partner conclusion) arrival.Waits) _ ended.Crowded
      (turn_with arrival.Waits more_waiting) (λ e. absurd (other_crowded e))

still_waits : (n number : ℕ) (numbers : List ℕ) → Among n (without number numbers) → Among n numbers
still_waits n number numbers there = (among_filtered (λ other. not (nat_eq number other)) numbers n there).among

first_marked : (inputs : List InputClause) → AreSearchInputs inputs → (mode : Mode) → mode ≡ Support → (n : ℕ) → Among n (first_waiting inputs mode)
    → IsMarked (clause_at (clauses_of inputs ++ []) n)
first_marked inputs search mode support n there =
    let in_support : Among n (first_waiting inputs Support) = subst (λ (m : Mode). Among n (first_waiting inputs m)) support there in
    let at = among_filtered (λ number. same_sign true (is_query_number inputs number)) (numbers_of inputs) n in_support in
    query_number_marked inputs search n at.passes

module _ (inputs : List InputClause) (limits : Limits) (search : AreSearchInputs inputs) where
  marked_keeps : Keeps inputs limits (AreMarked limits.mode) (IsMarkedTurn limits.mode) (EndsRight limits.mode)
  marked_keeps = record {
    begins = first_marked inputs search limits.mode;
    drops = λ r given stands marked waits dropped support n there. marked support n (still_waits n given r.waiting there);
    gives = λ r given stands marked waits. record {
      waiting = λ support n there. marked support n (still_waits n given r.waiting there);
      below = each_at (IsNumber r) r.waiting given waits stands.waiting;
      marked = λ support. marked support given waits;
    };
    comes = λ r given partner list conclusion a stands turn parents among is.
        marked_arrived inputs limits.mode r stands given partner turn list conclusion parents among limits a is;
    closes = λ r given turn. turn.waiting;
  }

  -- a contradiction is the last clause, and in full mode
  pub contradiction_is_last : (turns : ℕ) (r : Reached) (end : Ended) → Runs inputs limits turns r end → end ≡ ended.Contradiction → IsContradictory limits.mode r
  contradiction_is_last turns r end runs is = go (run_keeps inputs limits (AreMarked limits.mode) (IsMarkedTurn limits.mode) (EndsRight limits.mode) marked_keeps turns r end runs)
    where
      go : (Between inputs limits (AreMarked limits.mode) (IsMarkedTurn limits.mode) (EndsRight limits.mode) marked_keeps r × IsRest limits turns r end) ⊎ EndsRight limits.mode end r
          → IsContradictory limits.mode r
      go (inl at) = absurd (subst (IsRest limits turns r) is at.1)
      go (inr ends) = ends is
