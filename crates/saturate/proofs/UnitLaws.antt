-- A query of one atom that a unit clause answers finds something in its first turn, or ends crowded there.
use Rattle.std.proofs.Common.{◌≡◌, ◌≢◌, ◌<◌, ◌≤◌, ℕ, zero, suc, ◌+◌, nat_eq, not, ◌&&◌, codes, List, [], ◌∷◌, ◌++◌, map, filter, length, Bool, true, false, Option, Some, None, MatchOption, append_assoc, refl, sym, ap, ◌∙◌, subst, inl, inr, ◌⊎◌, arith, if◌then◌else◌}
use Rattle.std.proofs.lemmas.Slice.Eq.{bytes_eq-Decides}
use Rattle.std.proofs.lemmas.List.{length-append, length-map}
use Rattle.sigma_base.specs.Lists.{Each, each_append, each_map, each_filter, each_both}
use Rattle.kif_tree.specs.declared.form.Form.{Form}
use Rattle.kif_tree.specs.declared.form.Form.TheVariants as form
use Rattle.kif_tree.specs.declared.clause.InputClause.{InputClause}
use Rattle.kif_tree.specs.declared.clause.Literal.{Literal}
use Rattle.kif_tree.specs.declared.place.Place.{Place}
use Rattle.kif_tree.specs.Clauses.{Literals, is_answer, same_sign}
use Rattle.kif_tree.specs.Subst.{bind}
use Rattle.calculus.specs.declared.step.Step.{Step}
use Rattle.calculus.specs.Answers.{Among, answer_atom}
use Rattle.calculus.specs.Equality.{yes, no}
use Rattle.calculus.specs.Evidence.{list_from}
use Rattle.calculus.specs.Rules.{nth}
use Rattle.calculus.proofs.MemberLaws.{among-left, among-right, among-parted, among-map, among-filter, each_at}
use Rattle.calculus.proofs.PlaceLaws.{none_some, some_same}
use Rattle.calculus.proofs.RenamingLaws.{bind-identity}
use Rattle.calculus.proofs.TruthLaws.{false_true}
use Rattle.clause_form.specs.Sentences.{IsQueryClause}
use Rattle.clause_form.proofs.AtomLaws.{answer-List}
use Rattle.unify.specs.ClauseSets.{IsThere, IsSetInput, IsClauseSet}
use Rattle.infer.specs.declared.conclusion.Conclusion.{Conclusion}
use Rattle.infer.specs.Checks.{clauses_of}
use Rattle.infer.specs.Conclusions.{clause_at, AreConclusions, AreFactors}
use Rattle.infer.specs.Plain.{IsPlain, IsPlainConclusion}
use Rattle.saturate.specs.declared.arrival.Arrival.{Arrival}
use Rattle.saturate.specs.declared.arrival.Arrival.TheVariants as arrival
use Rattle.saturate.specs.declared.ended.Ended.{Ended}
use Rattle.saturate.specs.declared.ended.Ended.TheVariants as ended
use Rattle.saturate.specs.declared.limits.Limits.{Limits}
use Rattle.saturate.specs.declared.limits.Mode.TheVariants.{Support}
use Rattle.saturate.specs.declared.reached.Reached.{Reached}
use Rattle.saturate.specs.Covered.{is_tautology, IsSubsumed}
use Rattle.saturate.specs.Inputs.{is_of_query, is_query_input, is_query_number, reflexivity_inputs, needs_reflexivity, numbered_inputs, search_inputs}
use Rattle.saturate.specs.Laws.{UnifiesApart, UnitsAnswer}
use Rattle.saturate.specs.Runs.{clauses, known, numbers_from, numbers_of, numbers_where, beginning, has_answers_alone, IsArrival, grown, arrived, ended_where, end_with, Comes, Way, Stays, Then, Come, renumbered, Factors, Meets, MeetsEach, without, taken, given_processed, Drops, Works, Turn, Ran, IsRest, Runs}
use Rattle.saturate.proofs.OneRunLaws.{inputs_length, processed_below, waiting_below, given_waits}
use Rattle.saturate.proofs.OpenLaws.{IsOpen, plain_open, proper_open, equality_open, never_subsumes}
use Rattle.saturate.proofs.ResolventLaws.{HasLiterals, IsAnswer, conclusions_some, factors_some, unit_found}

-- ---- lists

nth_more : {X : Type 0} (xs ys : List X) (n : ℕ) (x : X) → nth xs n ≡ Some x → nth (xs ++ ys) n ≡ Some x
nth_more [] ys n x h = absurd (none_some x h)
nth_more (y ∷ xs) ys zero x h = h
nth_more (y ∷ xs) ys (suc n) x h = nth_more xs ys n x h

nth_last : {X : Type 0} (xs : List X) (x : X) → nth (xs ++ x ∷ []) (length xs) ≡ Some x
nth_last [] x = refl
nth_last (y ∷ xs) x = nth_last xs x

never_empty : {X : Type 0} (xs : List X) (x : X) → xs ++ x ∷ [] ≢ []
never_empty [] x e = absurd (cc)
never_empty (y ∷ xs) x e = absurd (cc)

among_some : {X : Type 0} (x : X) (xs : List X) → Among x xs → xs ≢ []
among_some x [] h e = h
among_some x (y ∷ xs) h e = absurd (cc)

each_mapped : {X Y : Type 0} (P : Y → Type 0) (f : X → Y) (xs : List X) → Each (λ x. P (f x)) xs → Each P (map f xs)
each_mapped P f [] h = tt
each_mapped P f (x ∷ xs) h = (h.0, each_mapped P f xs h.1)

among_filtered : {X : Type 0} (p : X → Bool) (x : X) (xs : List X) → Among x (filter p xs) → p x ≡ true
among_filtered p x [] h = absurd h
among_filtered {X = X} p x (y ∷ xs) h = go (p y) refl (filter p xs) h (among_filtered p x xs)
  where
    go : (b : Bool) → p y ≡ b → (rest : List X) → Among x (if b then y ∷ rest else rest) → (Among x rest → p x ≡ true) → p x ≡ true
    go true is rest (inl e) later = ap p e ∙ is
    go true is rest (inr k) later = later k
    go false is rest k later = later k

-- ---- standings in which each clause that is processed, waits or is aside is open

record IsOpenAt (r : Reached) (number : ℕ) : Type 0 where
  clause : Literals
  at : nth (clauses r) number ≡ Some clause
  is_open : IsOpen clause

record IsOpenStanding (r : Reached) : Type 0 where
  count : length r.steps ≡ length (clauses r)
  processed : Each (IsOpenAt r) r.processed
  waiting : Each (IsOpenAt r) r.waiting
  aside : Each (IsOpenAt r) r.aside

-- something is found, or the search ends crowded
abbrev IsDone : Reached → Option Ended → Type 0
IsDone r end = (r.found ≢ []) ⊎ (end ≡ Some ended.Crowded)

-- so it is where the search ends
abbrev IsDoneAtEnd : Reached → Option Ended → Type 0
IsDoneAtEnd r end = MatchOption end (Unit {0}) (λ (ending : Ended). IsDone r (Some ending))

found_at_end : (r : Reached) (end : Option Ended) → r.found ≢ [] → IsDoneAtEnd r end
found_at_end r None h = tt
found_at_end r (Some ending) h = inl h

crowded_at_end : (r : Reached) (b : Bool) → IsDoneAtEnd r (ended_where b ended.Crowded)
crowded_at_end r true = inr refl
crowded_at_end r false = tt

-- a conclusion that has literals and is plain
record IsGood (conclusion : Conclusion) : Type 0 where
  some : HasLiterals conclusion
  plain : IsPlain conclusion.clause

module _ (old : Reached) (is_open : IsOpenStanding old) (conclusion : Conclusion) where
  one_more : clauses_of old.inputs ++ (old.derived ++ conclusion.clause ∷ []) ≡ clauses old ++ conclusion.clause ∷ []
  one_more = sym (append_assoc (clauses_of old.inputs) old.derived (conclusion.clause ∷ []))

  abbrev IsOpenThen : ℕ → Type 0
  IsOpenThen = IsOpenAt (grown old conclusion)

  open_then : (n : ℕ) → IsOpenAt old n → IsOpenThen n
  open_then n h = record {
    clause = h.clause;
    at = ap (λ (list : List Literals). nth list n) one_more ∙ nth_more (clauses old) (conclusion.clause ∷ []) n h.clause h.at;
    is_open = h.is_open;
  }

  each_then : (numbers : List ℕ) → Each (IsOpenAt old) numbers → Each IsOpenThen numbers
  each_then = each_map (IsOpenAt old) IsOpenThen open_then

  count_then : length (old.steps ++ conclusion.step ∷ []) ≡ length (clauses_of old.inputs ++ (old.derived ++ conclusion.clause ∷ []))
  count_then =
      length-append old.steps (conclusion.step ∷ []) ∙ ap (λ (n : ℕ). n + 1) is_open.count
      ∙ sym (ap length one_more ∙ length-append (clauses old) (conclusion.clause ∷ []))

  last_then : IsOpen conclusion.clause → IsOpenThen (length old.steps)
  last_then h = record {
    clause = conclusion.clause;
    at = ap (λ (list : List Literals). nth list (length old.steps)) one_more
        ∙ ap (nth (clauses old ++ conclusion.clause ∷ [])) is_open.count ∙ nth_last (clauses old) conclusion.clause;
    is_open = h;
  }

  with_last : (numbers : List ℕ) → Each (IsOpenAt old) numbers → IsOpen conclusion.clause → Each IsOpenThen (numbers ++ length old.steps ∷ [])
  with_last numbers each h = each_append IsOpenThen numbers (length old.steps ∷ []) (each_then numbers each) (last_then h, tt)

-- one standing's open clauses are those of another one with the same clauses
same_clauses : (old new : Reached) → clauses new ≡ clauses old → (n : ℕ) → IsOpenAt old n → IsOpenAt new n
same_clauses old new e n h = record { clause = h.clause; at = ap (λ (list : List Literals). nth list n) e ∙ h.at; is_open = h.is_open }

each_same : (old new : Reached) → clauses new ≡ clauses old → (numbers : List ℕ) → Each (IsOpenAt old) numbers → Each (IsOpenAt new) numbers
each_same old new e = each_map (IsOpenAt old) (IsOpenAt new) (same_clauses old new e)

arrived_open : (old : Reached) (conclusion : Conclusion) (a : Arrival) → IsOpenStanding old → IsGood conclusion → IsArrival old conclusion.clause a
    → IsOpenStanding (arrived old conclusion a)
arrived_open old conclusion arrival.Contradiction is_open good is = absurd (good.some is)
arrived_open old conclusion arrival.Dropped is_open good is = is_open
arrived_open old conclusion arrival.Found is_open good is =
    let new = arrived old conclusion arrival.Found in
    let same = each_same (grown old conclusion) new refl in
    record {
      count = count_then old is_open conclusion;
      processed = same old.processed (each_then old is_open conclusion old.processed is_open.processed);
      waiting = same old.waiting (each_then old is_open conclusion old.waiting is_open.waiting);
      aside = same old.aside (each_then old is_open conclusion old.aside is_open.aside);
    }
arrived_open old conclusion arrival.Aside is_open good is =
    let new = arrived old conclusion arrival.Aside in
    let same = each_same (grown old conclusion) new refl in
    record {
      count = count_then old is_open conclusion;
      processed = same old.processed (each_then old is_open conclusion old.processed is_open.processed);
      waiting = same old.waiting (each_then old is_open conclusion old.waiting is_open.waiting);
      aside = same (old.aside ++ length old.steps ∷ [])
          (with_last old is_open conclusion old.aside is_open.aside (plain_open conclusion.clause good.plain is.0.open_still));
    }
arrived_open old conclusion arrival.Waits is_open good is =
    let new = arrived old conclusion arrival.Waits in
    let same = each_same (grown old conclusion) new refl in
    record {
      count = count_then old is_open conclusion;
      processed = same old.processed (each_then old is_open conclusion old.processed is_open.processed);
      waiting = same (old.waiting ++ length old.steps ∷ [])
          (with_last old is_open conclusion old.waiting is_open.waiting (plain_open conclusion.clause good.plain is.0.open_still));
      aside = same old.aside (each_then old is_open conclusion old.aside is_open.aside);
    }

arrived_done : (limits : Limits) (old : Reached) (conclusion : Conclusion) (a : Arrival) → IsGood conclusion → IsArrival old conclusion.clause a
    → IsDoneAtEnd (arrived old conclusion a) (end_with limits (arrived old conclusion a) a)
arrived_done limits old conclusion arrival.Contradiction good is = absurd (good.some is)
arrived_done limits old conclusion arrival.Dropped good is = tt
arrived_done limits old conclusion arrival.Found good is =
    found_at_end (arrived old conclusion arrival.Found) (end_with limits (arrived old conclusion arrival.Found) arrival.Found) (never_empty old.found (length old.steps))
arrived_done limits old conclusion arrival.Aside good is = crowded_at_end (arrived old conclusion arrival.Aside) _
arrived_done limits old conclusion arrival.Waits good is = crowded_at_end (arrived old conclusion arrival.Waits) _

-- an answer is found, or something was found before
answer_alone : (clause : Literals) → IsAnswer clause → has_answers_alone clause ≡ true
answer_alone clause h = ap has_answers_alone h.is ∙ go (is_answer h.literal.atom) h.answers
  where
    go : (b : Bool) → b ≡ true → (b && true) ≡ true
    go true e = refl
    go false e = e

answer_no_tautology : (clause : Literals) → IsAnswer clause → is_tautology clause ≡ true → ⊥
answer_no_tautology clause h e = false_true (sym (one h.literal.positive) ∙ sym (ap is_tautology h.is) ∙ e)
  where
    one : (b : Bool) → is_tautology (record { positive = b; atom = h.literal.atom } ∷ []) ≡ false
    one true = refl
    one false = refl

answer_subsumed : (old : Reached) (clause : Literals) → IsOpenStanding old → IsAnswer clause → IsSubsumed (clauses old) (known old) clause → old.found ≢ []
answer_subsumed old clause is_open h s =
    go (among-parted s.number old.processed (old.waiting ++ (old.aside ++ old.found)) s.among)
  where
    never : IsOpenAt old s.number → ⊥
    never at =
        let same : at.clause ≡ s.general = some_same at.clause s.general (sym at.at ∙ s.at) in
        never_subsumes s.general clause (subst IsOpen same at.is_open) (answer_alone clause h) s.subsumes

    last : Among s.number old.aside ⊎ Among s.number old.found → old.found ≢ []
    last (inl k) = absurd (never (each_at (IsOpenAt old) old.aside s.number k is_open.aside))
    last (inr k) = among_some s.number old.found k

    middle : Among s.number old.waiting ⊎ Among s.number (old.aside ++ old.found) → old.found ≢ []
    middle (inl k) = absurd (never (each_at (IsOpenAt old) old.waiting s.number k is_open.waiting))
    middle (inr k) = last (among-parted s.number old.aside old.found k)

    go : Among s.number old.processed ⊎ Among s.number (old.waiting ++ (old.aside ++ old.found)) → old.found ≢ []
    go (inl k) = absurd (never (each_at (IsOpenAt old) old.processed s.number k is_open.processed))
    go (inr k) = middle (among-parted s.number old.waiting (old.aside ++ old.found) k)

answer_arrives : (old : Reached) (conclusion : Conclusion) (a : Arrival) → IsOpenStanding old → IsGood conclusion → IsAnswer conclusion.clause
    → IsArrival old conclusion.clause a → (arrived old conclusion a).found ≢ []
answer_arrives old conclusion arrival.Contradiction is_open good h is = absurd (good.some is)
answer_arrives old conclusion arrival.Dropped is_open good h (is) = go is.1
  where
    go : (is_tautology conclusion.clause ≡ true) ⊎ IsSubsumed (clauses old) (known old) conclusion.clause → old.found ≢ []
    go (inl e) = absurd (answer_no_tautology conclusion.clause h e)
    go (inr s) = answer_subsumed old conclusion.clause is_open h s
answer_arrives old conclusion arrival.Found is_open good h is = never_empty old.found (length old.steps)
answer_arrives old conclusion arrival.Aside is_open good h is = absurd (false_true (sym is.0.open_still ∙ answer_alone conclusion.clause h))
answer_arrives old conclusion arrival.Waits is_open good h is = absurd (false_true (sym is.0.open_still ∙ answer_alone conclusion.clause h))

-- ---- what is found stays found

abbrev KeepsFound : Way → Type 0
KeepsFound W = (old new : Reached) (end : Option Ended) → W old new end → old.found ≢ [] → new.found ≢ []

some_more : (xs : List ℕ) (x : ℕ) → xs ≢ [] → xs ++ x ∷ [] ≢ []
some_more xs x h = never_empty xs x

arrived_found : (old : Reached) (conclusion : Conclusion) (a : Arrival) → old.found ≢ [] → (arrived old conclusion a).found ≢ []
arrived_found old conclusion arrival.Contradiction h = h
arrived_found old conclusion arrival.Dropped h = h
arrived_found old conclusion arrival.Found h = never_empty old.found (length old.steps)
arrived_found old conclusion arrival.Aside h = h
arrived_found old conclusion arrival.Waits h = h

found_there : (r s : Reached) → r ≡ s → s.found ≢ [] → r.found ≢ []
found_there r s e h = subst (λ (t : Reached). t.found ≢ []) (sym e) h

comes_found : (limits : Limits) (conclusion : Conclusion) → KeepsFound (Comes limits conclusion)
comes_found limits conclusion old new end h some =
    found_there new (arrived old conclusion h.arrival) h.reached (arrived_found old conclusion h.arrival some)

stays_found : KeepsFound Stays
stays_found old new end h some = found_there new old h.0 some

then_found : (First Second : Way) → KeepsFound First → KeepsFound Second → KeepsFound (Then First Second)
then_found First Second first second old new end h some = go h.stop h.second (first old h.middle h.stop h.first some)
  where
    go : (stop : Option Ended) → MatchOption stop (Second h.middle new end) (λ (ending : Ended). (new ≡ h.middle) × (end ≡ Some ending))
        → h.middle.found ≢ [] → new.found ≢ []
    go None k there = second h.middle new end k there
    go (Some ending) k there = found_there new h.middle k.0 there

come_found : (limits : Limits) (list : List Conclusion) → KeepsFound (Come limits list)
come_found limits [] = stays_found
come_found limits (c ∷ cs) = then_found (Comes limits c) (Come limits cs) (comes_found limits c) (come_found limits cs)

factors_found : (limits : Limits) (given : ℕ) → KeepsFound (Factors limits given)
factors_found limits given old new end h = come_found limits (map (renumbered given given) h.list) old new end h.come

meets_found : (limits : Limits) (given partner : ℕ) → KeepsFound (Meets limits given partner)
meets_found limits given partner old new end h = come_found limits (map (renumbered given partner) h.list) old new end h.come

meets_each_found : (limits : Limits) (given : ℕ) (partners : List ℕ) → KeepsFound (MeetsEach limits given partners)
meets_each_found limits given [] = stays_found
meets_each_found limits given (partner ∷ partners) =
    then_found (Meets limits given partner) (MeetsEach limits given partners) (meets_found limits given partner) (meets_each_found limits given partners)

turn_found : (limits : Limits) (turn : ℕ) → KeepsFound (Turn limits turn)
turn_found limits turn old new end h some = go h.goes
  where
    go : Drops h.given old new end ⊎ Works limits h.given old new end → new.found ≢ []
    go (inl d) = found_there new (taken old h.given) d.reached some
    go (inr w) =
        then_found (Factors limits h.given) (MeetsEach limits h.given (old.processed ++ h.given ∷ [])) (factors_found limits h.given)
        (meets_each_found limits h.given (old.processed ++ h.given ∷ [])) (given_processed old h.given) new end w.concludes some

-- ---- the turn of the query's clause

module _ (limits : Limits) (atom : Form) (arguments : List Form) (unit : Form) (given number : ℕ) (unifies : UnifiesApart atom unit)
    (atom_other : is_answer atom ≡ false) (unit_other : is_answer unit ≡ false) where
  abbrev query : Literals
  query = no atom ∷ yes (answer_atom arguments) ∷ []

  -- a standing in the turn
  record IsAmid (r : Reached) : Type 0 where
    is_open : IsOpenStanding r
    given_at : nth (clauses r) given ≡ Some query
    unit_at : nth (clauses r) number ≡ Some (yes unit ∷ [])

  abbrev Keeps : Way → Type 0
  Keeps W = (old new : Reached) (end : Option Ended) → IsAmid old → W old new end → IsAmid new × IsDoneAtEnd new end

  abbrev Finds : Way → Type 0
  Finds W = (old new : Reached) (end : Option Ended) → IsAmid old → W old new end → IsDone new end

  done_there : (r s : Reached) (end end_2 : Option Ended) → r ≡ s → end ≡ end_2 → IsDone s end_2 → IsDone r end
  done_there r s end end_2 e e_2 h = subst (λ (t : Reached). IsDone t end) (sym e) (subst (λ (o : Option Ended). IsDone s o) (sym e_2) h)

  stays_keeps : Keeps Stays
  stays_keeps old new end amid h = (subst IsAmid (sym h.0) amid, subst (IsDoneAtEnd new) (sym h.1) tt)

  then_keeps : (First Second : Way) → Keeps First → Keeps Second → Keeps (Then First Second)
  then_keeps First Second first second old new end amid h = go h.stop h.second (first old h.middle h.stop amid h.first)
    where
      go : (stop : Option Ended) → MatchOption stop (Second h.middle new end) (λ (ending : Ended). (new ≡ h.middle) × (end ≡ Some ending))
          → IsAmid h.middle × IsDoneAtEnd h.middle stop → IsAmid new × IsDoneAtEnd new end
      go None k there = second h.middle new end there.0 k
      go (Some ending) k there = (
        subst IsAmid (sym k.0) there.0,
        subst (IsDoneAtEnd new) (sym k.1) (done_there new h.middle (Some ending) (Some ending) k.0 refl there.1),
      )

  then_finds_first : (First Second : Way) → Finds First → KeepsFound Second → Finds (Then First Second)
  then_finds_first First Second first second old new end amid h = go h.stop h.second (first old h.middle h.stop amid h.first)
    where
      go : (stop : Option Ended) → MatchOption stop (Second h.middle new end) (λ (ending : Ended). (new ≡ h.middle) × (end ≡ Some ending))
          → IsDone h.middle stop → IsDone new end
      go None k (inl some) = inl (second h.middle new end k some)
      go None k (inr e) = absurd (none_some ended.Crowded e)
      go (Some ending) k done = done_there new h.middle end (Some ending) k.0 k.1 done

  then_finds_later : (First Second : Way) → Keeps First → Finds Second → Finds (Then First Second)
  then_finds_later First Second first second old new end amid h = go h.stop h.second (first old h.middle h.stop amid h.first)
    where
      go : (stop : Option Ended) → MatchOption stop (Second h.middle new end) (λ (ending : Ended). (new ≡ h.middle) × (end ≡ Some ending))
          → IsAmid h.middle × IsDoneAtEnd h.middle stop → IsDone new end
      go None k there = second h.middle new end there.0 k
      go (Some ending) k there = done_there new h.middle end (Some ending) k.0 k.1 there.1

  amid_arrived : (old : Reached) (conclusion : Conclusion) (a : Arrival) (n : ℕ) (clause : Literals) → nth (clauses old) n ≡ Some clause
      → nth (clauses (arrived old conclusion a)) n ≡ Some clause
  amid_arrived old conclusion a n clause h = go a
    where
      more : nth (clauses_of old.inputs ++ (old.derived ++ conclusion.clause ∷ [])) n ≡ Some clause
      more = ap (λ (list : List Literals). nth list n) (sym (append_assoc (clauses_of old.inputs) old.derived (conclusion.clause ∷ [])))
          ∙ nth_more (clauses old) (conclusion.clause ∷ []) n clause h

      go : (a : Arrival) → nth (clauses (arrived old conclusion a)) n ≡ Some clause
      go arrival.Contradiction = more
      go arrival.Dropped = h
      go arrival.Found = more
      go arrival.Aside = more
      go arrival.Waits = more

  comes_keeps : (conclusion : Conclusion) → IsGood conclusion → Keeps (Comes limits conclusion)
  comes_keeps conclusion good old new end amid h =
      let there = arrived old conclusion h.arrival in
      let at : IsAmid there = record {
        is_open = arrived_open old conclusion h.arrival amid.is_open good h.is;
        given_at = amid_arrived old conclusion h.arrival given query amid.given_at;
        unit_at = amid_arrived old conclusion h.arrival number (yes unit ∷ []) amid.unit_at;
      } in
      let done : IsDoneAtEnd new (end_with limits new h.arrival) =
      subst (λ (r : Reached). IsDoneAtEnd r (end_with limits r h.arrival)) (sym h.reached) (arrived_done limits old conclusion h.arrival good h.is) in
      (subst IsAmid (sym h.reached) at, subst (IsDoneAtEnd new) (sym h.ends) done)

  comes_finds : (conclusion : Conclusion) → IsGood conclusion → IsAnswer conclusion.clause → Finds (Comes limits conclusion)
  comes_finds conclusion good answer old new end amid h =
      inl (found_there new (arrived old conclusion h.arrival) h.reached (answer_arrives old conclusion h.arrival amid.is_open good answer h.is))

  come_keeps : (list : List Conclusion) → Each IsGood list → Keeps (Come limits list)
  come_keeps [] good = stays_keeps
  come_keeps (c ∷ cs) good = then_keeps (Comes limits c) (Come limits cs) (comes_keeps c good.0) (come_keeps cs good.1)

  come_finds : (list : List Conclusion) → Each IsGood list → (conclusion : Conclusion) → Among conclusion list → IsAnswer conclusion.clause
      → Finds (Come limits list)
  come_finds [] good conclusion among answer = absurd among
  come_finds (c ∷ cs) good conclusion (inl e) answer =
      then_finds_first (Comes limits c) (Come limits cs) (comes_finds c good.0 (subst (λ (d : Conclusion). IsAnswer d.clause) e answer)) (come_found limits cs)
  come_finds (c ∷ cs) good conclusion (inr among) answer =
      then_finds_later (Comes limits c) (Come limits cs) (comes_keeps c good.0) (come_finds cs good.1 conclusion among answer)

  all_good : (partner : ℕ) (list : List Conclusion) → Each HasLiterals list → Each IsPlainConclusion list → Each IsGood (map (renumbered given partner) list)
  all_good partner list some plain =
      each_mapped IsGood (renumbered given partner) list
      (each_map (λ (c : Conclusion). HasLiterals c × IsPlainConclusion c) (λ (c : Conclusion). IsGood (renumbered given partner c))
      (λ c h. record { some = h.0; plain = h.1.clause }) list (each_both HasLiterals IsPlainConclusion list some plain))

  clause_there : (r : Reached) (n : ℕ) (clause : Literals) → nth (clauses r) n ≡ Some clause → clause_at (clauses r) n ≡ clause
  clause_there r n clause e = ap (λ (o : Option Literals). list_from o (λ clause. clause)) e

  factors_keeps : Keeps (Factors limits given)
  factors_keeps old new end amid h =
      let are : AreFactors query h.list = subst (λ (c : Literals). AreFactors c h.list) (clause_there old given query amid.given_at) h.are in
      come_keeps (map (renumbered given given) h.list) (all_good given h.list (factors_some query h.list (omega arith) are) h.plain) old new end amid h.come

  meets_good : (partner : ℕ) (old new : Reached) (end : Option Ended) → IsAmid old → (h : Meets limits given partner old new end)
      → Each IsGood (map (renumbered given partner) h.list)
  meets_good partner old new end amid h =
      let are : AreConclusions query (clause_at (clauses old) partner) (nat_eq given partner) h.list =
      subst (λ (c : Literals). AreConclusions c (clause_at (clauses old) partner) (nat_eq given partner) h.list) (clause_there old given query amid.given_at) h.are in
      all_good partner h.list (conclusions_some query (clause_at (clauses old) partner) (nat_eq given partner) h.list (omega arith) are) h.plain

  meets_keeps : (partner : ℕ) → Keeps (Meets limits given partner)
  meets_keeps partner old new end amid h = come_keeps (map (renumbered given partner) h.list) (meets_good partner old new end amid h) old new end amid h.come

  meets_finds : Finds (Meets limits given number)
  meets_finds old new end amid h =
      let are : AreConclusions query (yes unit ∷ []) (nat_eq given number) h.list =
      subst (λ (c : Literals). AreConclusions c (yes unit ∷ []) (nat_eq given number) h.list) (clause_there old given query amid.given_at)
      (subst (λ (c : Literals). AreConclusions (clause_at (clauses old) given) c (nat_eq given number) h.list)
      (clause_there old number (yes unit ∷ []) amid.unit_at) h.are) in
      let found = unit_found atom arguments unit unifies atom_other unit_other (nat_eq given number) h.list are in
      come_finds (map (renumbered given number) h.list) (meets_good number old new end amid h) (renumbered given number found.conclusion)
      (among-map (renumbered given number) found.conclusion h.list found.among) found.answers old new end amid h.come

  meets_each_finds : (partners : List ℕ) → Among number partners → Finds (MeetsEach limits given partners)
  meets_each_finds [] among = absurd among
  meets_each_finds (partner ∷ partners) (inl e) =
      then_finds_first (Meets limits given partner) (MeetsEach limits given partners) (subst (λ (n : ℕ). Finds (Meets limits given n)) e meets_finds)
      (meets_each_found limits given partners)
  meets_each_finds (partner ∷ partners) (inr among) =
      then_finds_later (Meets limits given partner) (MeetsEach limits given partners) (meets_keeps partner) (meets_each_finds partners among)

  turn_finds : (partners : List ℕ) → Among number partners → Finds (Then (Factors limits given) (MeetsEach limits given partners))
  turn_finds partners among =
      then_finds_later (Factors limits given) (MeetsEach limits given partners) factors_keeps (meets_each_finds partners among)

-- ---- the inputs

number_among : (first count n : ℕ) → n < count → Among (first + n) (numbers_from first count)
number_among first zero n h = absurd (omega arith)
number_among first (suc count) zero h = inl (omega arith)
number_among first (suc count) (suc n) h =
    let e : first + 1 + n ≡ first + suc n = omega arith in
    inr (subst (λ (m : ℕ). Among m (numbers_from (first + 1) count)) e (number_among (first + 1) count n (omega arith)))

any_number : (count n : ℕ) → n < count → Among n (numbers_from 0 count)
any_number count n h = let e : 0 + n ≡ n = omega arith in subst (λ (m : ℕ). Among m (numbers_from 0 count)) e (number_among 0 count n h)

record Numbered (inputs : List InputClause) (P : InputClause → Type 0) : Type 0 where
  number : ℕ
  below : number < length inputs
  input : InputClause
  at : nth inputs number ≡ Some input
  holds : P input

numbered_from : (inputs : List InputClause) (P : InputClause → Type 0) (input : InputClause) → Among input inputs → P input → Numbered inputs P
numbered_from [] P input h holds = absurd h
numbered_from (x ∷ xs) P input (inl e) holds = record { number = 0; below = omega arith; input = x; at = refl; holds = subst P e holds }
numbered_from (x ∷ xs) P input (inr h) holds =
    let rest = numbered_from xs P input h holds in
    record { number = suc rest.number; below = omega (arith, rest.below); input = rest.input; at = rest.at; holds = rest.holds }

-- an input with that clause
among_clauses : (clause : Literals) (inputs : List InputClause) → Among clause (clauses_of inputs)
    → Numbered inputs (λ (input : InputClause). input.clause ≡ clause)
among_clauses clause [] h = absurd h
among_clauses clause (x ∷ xs) (inl e) = record { number = 0; below = omega arith; input = x; at = refl; holds = sym e }
among_clauses clause (x ∷ xs) (inr h) =
    let rest = among_clauses clause xs h in
    record { number = suc rest.number; below = omega (arith, rest.below); input = rest.input; at = rest.at; holds = rest.holds }

each_nth : {X : Type 0} (P : X → Type 0) (xs : List X) (n : ℕ) (x : X) → Each P xs → nth xs n ≡ Some x → P x
each_nth P [] n x each e = absurd (none_some x e)
each_nth P (y ∷ xs) zero x each e = subst P (some_same y x e) each.0
each_nth P (y ∷ xs) (suc n) x each e = each_nth P xs n x each.1 e

clause_nth : (inputs : List InputClause) (n : ℕ) (input : InputClause) → nth inputs n ≡ Some input → nth (clauses_of inputs) n ≡ Some input.clause
clause_nth [] n input e = absurd (none_some input e)
clause_nth (x ∷ xs) zero input e = ap (λ (i : InputClause). Some i.clause) (some_same x input e)
clause_nth (x ∷ xs) (suc n) input e = clause_nth xs n input e

within : {X : Type 0} (xs : List X) (n : ℕ) → n < length xs → (x : X) × (nth xs n ≡ Some x)
within [] n h = absurd (omega arith)
within (x ∷ xs) zero h = (x, refl)
within (x ∷ xs) (suc n) h = within xs n (omega arith)

module _ (set : List InputClause) (is_set : IsClauseSet set) (asked : ℕ) (query : Literals) (is_query : IsQueryClause asked query) where
  abbrev begun_with : List InputClause
  begun_with = search_inputs set (query ∷ [])

  abbrev last : InputClause
  last = record { clause = query; place = None; variant = 1 }

  -- each input is open, and one that is of the query has the query's clause
  record IsInput (input : InputClause) : Type 0 where
    is_open : IsOpen input.clause
    asks : is_of_query input.place input.variant ≡ true → input.clause ≡ query

  placed_other : (place : Option Place) (variant : ℕ) → IsThere place → is_of_query place variant ≡ true → ⊥
  placed_other None variant h e = h
  placed_other (Some place) variant h e = false_true e

  set_inputs : (xs : List InputClause) → Each IsSetInput xs → Each IsInput xs
  set_inputs = each_map IsSetInput IsInput (λ input h. record { is_open = proper_open input.clause h.proper; asks = λ e. absurd (placed_other input.place input.variant h.placed e) })

  reflexivity_inputs_are : (b : Bool) → Each IsInput (reflexivity_inputs b)
  reflexivity_inputs_are true = (record { is_open = equality_open (form.Variable (codes "X1")); asks = λ e. absurd (false_true e) }, tt)
  reflexivity_inputs_are false = tt

  each_input : Each IsInput begun_with
  each_input =
      each_append IsInput set (reflexivity_inputs (needs_reflexivity set (query ∷ [])) ++ numbered_inputs 1 (query ∷ [])) (set_inputs set is_set.each)
      (each_append IsInput (reflexivity_inputs (needs_reflexivity set (query ∷ []))) (numbered_inputs 1 (query ∷ []))
      (reflexivity_inputs_are (needs_reflexivity set (query ∷ [])))
      (record { is_open = proper_open query is_query.proper; asks = λ e. refl }, tt))

  last_among : Among last begun_with
  last_among =
      among-right last set (reflexivity_inputs (needs_reflexivity set (query ∷ [])) ++ numbered_inputs 1 (query ∷ []))
      (among-right last (reflexivity_inputs (needs_reflexivity set (query ∷ []))) (numbered_inputs 1 (query ∷ [])) (inl refl))

  clause_there_first : (n : ℕ) (input : InputClause) → nth begun_with n ≡ Some input → nth (clauses_of begun_with ++ []) n ≡ Some input.clause
  clause_there_first n input e = nth_more (clauses_of begun_with) [] n input.clause (clause_nth begun_with n input e)

  -- a number of the query is that of its clause
  query_there : (n : ℕ) → is_query_number begun_with n ≡ true → nth (clauses_of begun_with ++ []) n ≡ Some query
  query_there n = go (nth begun_with n) refl
    where
      go : (o : Option InputClause) → nth begun_with n ≡ o → is_query_input o ≡ true → nth (clauses_of begun_with ++ []) n ≡ Some query
      go None e h = absurd (false_true h)
      go (Some input) e h =
          let is = each_nth IsInput begun_with n input each_input e in
          clause_there_first n input e ∙ ap (λ (c : Literals). Some c) (is.asks h)

  some_waits : numbers_where true begun_with ≢ []
  some_waits =
      let there = numbered_from begun_with (λ (input : InputClause). is_of_query input.place input.variant ≡ true) last last_among refl in
      let asks : is_query_number begun_with there.number ≡ true = ap is_query_input there.at ∙ there.holds in
      among_some there.number (numbers_where true begun_with)
      (among-filter (λ number. same_sign true (is_query_number begun_with number)) there.number asks (numbers_of begun_with)
      (any_number (length begun_with) there.number there.below))

  abbrev start : Reached
  start = beginning begun_with Support

  open_below : (n : ℕ) → n < length (clauses_of begun_with ++ []) → IsOpenAt start n
  open_below n h =
      let input = within begun_with n (omega (arith, h, inputs_length begun_with)) in
      record {
        clause = input.0.clause;
        at = clause_there_first n input.0 input.1;
        is_open = (each_nth IsInput begun_with n input.0 each_input input.1).is_open;
      }

  each_open : (numbers : List ℕ) → Each (λ (n : ℕ). n < length (clauses_of begun_with ++ [])) numbers → Each (IsOpenAt start) numbers
  each_open = each_map (λ (n : ℕ). n < length (clauses_of begun_with ++ [])) (IsOpenAt start) open_below

  numbers_count : (first count : ℕ) → length (numbers_from first count) ≡ count
  numbers_count first zero = refl
  numbers_count first (suc count) = let rest = numbers_count (first + 1) count in omega (arith, rest)

  given_asks : (given : ℕ) → Among given (numbers_where true begun_with) → is_query_number begun_with given ≡ true
  given_asks given h = among_filtered (λ number. same_sign true (is_query_number begun_with number)) given (numbers_of begun_with) h

  processed_start : (given : ℕ) → Among given (numbers_where true begun_with) → IsOpenStanding (given_processed start given)
  processed_start given h =
      let same = each_same start (given_processed start given) refl in
      let waits = each_open (numbers_where true begun_with) (waiting_below begun_with Support) in
      record {
        count = length-map (numbers_of begun_with) Step.Input ∙ numbers_count 0 (length begun_with) ∙ sym (inputs_length begun_with);
        processed = same (numbers_where false begun_with ++ given ∷ [])
            (each_append (IsOpenAt start) (numbers_where false begun_with) (given ∷ []) (each_open (numbers_where false begun_with) (processed_below begun_with Support))
            (each_at (IsOpenAt start) (numbers_where true begun_with) given h waits, tt));
        waiting = same (without given (numbers_where true begun_with))
            (each_filter (IsOpenAt start) (λ other. not (nat_eq given other)) (numbers_where true begun_with) waits);
        aside = tt;
      }

  -- the unit clause is an input that is no clause of the query
  record IsUnit (unit : Form) (number : ℕ) : Type 0 where
    at : nth (clauses_of begun_with ++ []) number ≡ Some (yes unit ∷ [])
    among : Among number (numbers_where false begun_with)
    is_open : IsOpen (yes unit ∷ [])

  unit_there : (unit : Form) → query ≢ yes unit ∷ [] → Among (yes unit ∷ []) (clauses_of begun_with) → (number : ℕ) × IsUnit unit number
  unit_there unit other h =
      let there = among_clauses (yes unit ∷ []) begun_with h in
      let at : nth (clauses_of begun_with ++ []) there.number ≡ Some (yes unit ∷ []) =
      clause_there_first there.number there.input there.at ∙ ap (λ (c : Literals). Some c) there.holds in
      let plain = go there.number at (is_query_number begun_with there.number) refl in (
        there.number,
        record {
          at = at;
          among = among-filter (λ number. same_sign false (is_query_number begun_with number)) there.number (ap not plain) (numbers_of begun_with)
              (any_number (length begun_with) there.number there.below);
          is_open = subst IsOpen there.holds (each_nth IsInput begun_with there.number there.input each_input there.at).is_open;
        },
      )
    where
      go : (n : ℕ) → nth (clauses_of begun_with ++ []) n ≡ Some (yes unit ∷ []) → (b : Bool) → is_query_number begun_with n ≡ b → is_query_number begun_with n ≡ false
      go n at true e = absurd (other (some_same query (yes unit ∷ []) (sym (query_there n e) ∙ at)))
      go n at false e = e

-- ---- runs

-- the open literal of a clause of one literal
unit_no_answer : (unit : Form) → IsOpen (yes unit ∷ []) → is_answer unit ≡ false
unit_no_answer unit h = go h.stands
  where
    go : Among h.literal (yes unit ∷ []) → is_answer unit ≡ false
    go (inl e) = sym (ap is_answer (bind-identity unit)) ∙ ap (λ (l : Literal). is_answer (bind form.Variable l.atom)) (sym e) ∙ h.open_still form.Variable
    go (inr none) = absurd none

answer_head : (arguments : List Form) → is_answer (answer_atom arguments) ≡ true
answer_head arguments = answer-List (codes "!answer") arguments ∙ (bytes_eq-Decides (codes "!answer") (codes "!answer")).1 refl

query_no_answer : (atom : Form) (arguments : List Form) → IsOpen (no atom ∷ yes (answer_atom arguments) ∷ []) → is_answer atom ≡ false
query_no_answer atom arguments h = go h.stands
  where
    go : Among h.literal (no atom ∷ yes (answer_atom arguments) ∷ []) → is_answer atom ≡ false
    go (inl e) = sym (ap is_answer (bind-identity atom)) ∙ ap (λ (l : Literal). is_answer (bind form.Variable l.atom)) (sym e) ∙ h.open_still form.Variable
    go (inr (inl e)) =
        absurd (false_true (sym (h.open_still form.Variable)
        ∙ ap (λ (l : Literal). is_answer (bind form.Variable l.atom)) e ∙ ap is_answer (bind-identity (answer_atom arguments)) ∙ answer_head arguments))
    go (inr (inr none)) = absurd none

module _ (limits : Limits) (set : List InputClause) (is_set : IsClauseSet set) (asked : ℕ) (atom : Form) (arguments : List Form) (unit : Form)
    (is_query : IsQueryClause asked (no atom ∷ yes (answer_atom arguments) ∷ [])) (unifies : UnifiesApart atom unit)
    (among : Among (yes unit ∷ []) (clauses_of (search_inputs set ((no atom ∷ yes (answer_atom arguments) ∷ []) ∷ [])))) where
  abbrev asked_clause : Literals
  asked_clause = no atom ∷ yes (answer_atom arguments) ∷ []

  abbrev all : List InputClause
  all = search_inputs set (asked_clause ∷ [])

  first_turn : (turn : ℕ) (new : Reached) (end : Option Ended) → Turn limits turn (beginning all Support) new end → IsDone new end
  first_turn turn new end h = go (given_waits (beginning all Support) turn h.given h.is_given) h.goes
    where
      go : Among h.given (numbers_where true all) → Drops h.given (beginning all Support) new end ⊎ Works limits h.given (beginning all Support) new end → IsDone new end
      go waits (inl d) = absurd (false_true (sym d.drops.other ∙ given_asks set is_set asked asked_clause is_query h.given waits))
      go waits (inr w) =
          let two : asked_clause ≢ yes unit ∷ [] = λ e. let k = ap length e in omega (arith, k) in
          let there = unit_there set is_set asked asked_clause is_query unit two among in
          let begun = given_processed (beginning all Support) h.given in
          turn_finds limits atom arguments unit h.given there.0 unifies
          (query_no_answer atom arguments (proper_open asked_clause is_query.proper)) (unit_no_answer unit there.1.is_open)
          (numbers_where false all ++ h.given ∷ []) (among-left there.0 (numbers_where false all) (h.given ∷ []) there.1.among)
          begun new end
          (record {
            is_open = processed_start set is_set asked asked_clause is_query h.given waits;
            given_at = query_there set is_set asked asked_clause is_query h.given (given_asks set is_set asked asked_clause is_query h.given waits);
            unit_at = there.1.at;
          }) w.concludes

  module _ (mode : limits.mode ≡ Support) (some_turns : 1 ≤ limits.turns) where
    from_start : (turn : ℕ) (old new : Reached) (end : Option Ended) → old ≡ beginning all limits.mode → Turn limits turn old new end → IsDone new end
    from_start turn old new end e h =
        first_turn turn new end (subst (λ (r : Reached). Turn limits turn r new end) (e ∙ ap (beginning all) mode) h)

    none_done : (r : Reached) → IsDone r None → r.found ≢ []
    none_done r (inl some) = some
    none_done r (inr e) = absurd (none_some ended.Crowded e)

    some_done : (r : Reached) (end : Ended) → IsDone r (Some end) → (r.found ≢ []) ⊎ (end ≡ ended.Crowded)
    some_done r end (inl some) = inl some
    some_done r end (inr e) = inr (some_same end ended.Crowded e)

    ran_found : (n : ℕ) (r : Reached) → Ran all limits (suc n) r → r.found ≢ []
    ran_found zero r h = none_done r (from_start 1 h.old r None h.before h.takes)
    ran_found (suc n) r h = turn_found limits (suc (suc n)) h.old r None h.takes (ran_found n h.old h.before)

    -- before the first turn the query's clause waits
    never_rests : (r : Reached) (end : Ended) → r.waiting ≢ [] → IsRest limits 0 r end → ⊥
    never_rests r ended.Saturated waits h = waits h.0
    never_rests r ended.Deep waits h = waits h.0
    never_rests r ended.Spent waits h = let e = h.1 in omega arith
    never_rests r ended.Enough waits h = h
    never_rests r ended.Crowded waits h = h
    never_rests r ended.Contradiction waits h = h

    rested : (turns : ℕ) (r : Reached) (end : Ended) → Ran all limits turns r → IsRest limits turns r end → r.found ≢ []
    rested zero r end ran rest =
        let is : r ≡ beginning all Support = ran ∙ ap (beginning all) mode in
        absurd (never_rests r end (subst (λ (s : Reached). s.waiting ≢ []) (sym is) (some_waits set is_set asked asked_clause is_query)) rest)
    rested (suc n) r end ran rest = ran_found n r ran

    ended_within : (earlier turn : ℕ) (old r : Reached) (end : Ended) → Ran all limits earlier old → Turn limits turn old r (Some end)
        → (r.found ≢ []) ⊎ (end ≡ ended.Crowded)
    ended_within zero turn old r end ran h = some_done r end (from_start turn old r (Some end) ran h)
    ended_within (suc n) turn old r end ran h = inl (turn_found limits turn old r (Some end) h (ran_found n old ran))

    run_answers : (turns : ℕ) (r : Reached) (end : Ended) → Runs all limits turns r end → (r.found ≢ []) ⊎ (end ≡ ended.Crowded)
    run_answers turns r end (inl h) = inl (rested turns r end h.ran h.rest)
    run_answers turns r end (inr h) = ended_within h.earlier turns h.old r end h.ran h.takes

pub units_answer : UnitsAnswer
units_answer inputs limits turns r end set asked atom arguments unit is_set is_query are mode some_turns among unifies runs =
    let all = search_inputs set ((no atom ∷ yes (answer_atom arguments) ∷ []) ∷ []) in
    run_answers limits set is_set asked atom arguments unit is_query unifies
    (subst (λ (xs : List InputClause). Among (yes unit ∷ []) (clauses_of xs)) are among) mode some_turns turns r end
    (subst (λ (xs : List InputClause). Runs xs limits turns r end) are runs)
