-- What is so of each standing stays so as clauses come.
use Rattle.std.proofs.Common.{◌≡◌, ℕ, zero, suc, ◌+◌, ◌<◌, ◌≤◌, List, [], ◌∷◌, ◌++◌, map, filter, length, get_or, Bool, true, false, if◌then◌else◌, Some, refl, sym, ap, ap₂, ◌∙◌, subst, arith, length-append, append_assoc}
use Rattle.std.proofs.lemmas.List.{length-map}
use Rattle.std.proofs.lemmas.List.Elements.{filter-append}
use Rattle.std.proofs.lemmas.Bool.{le-leb}
use Rattle.sigma_base.specs.Lists.{Each, each_append, each_map}
use Rattle.kif_tree.specs.declared.clause.InputClause.{InputClause}
use Rattle.kif_tree.specs.Clauses.{Literals}
use Rattle.calculus.specs.Rules.{nth}
use Rattle.calculus.specs.Answers.{Among}
use Rattle.calculus.proofs.PlaceLaws.{none_some, some_same}
use Rattle.calculus_programs.proofs.PickLaws.{nth-some}
use Rattle.infer.specs.declared.conclusion.Conclusion.{Conclusion}
use Rattle.infer.specs.Checks.{clauses_of}
use Rattle.infer.specs.Conclusions.{clause_at}
use Rattle.infer.specs.Plain.{IsPlain}
use Rattle.saturate.specs.declared.fingerprint.Fingerprints.{Fingerprints}
use Rattle.saturate.specs.declared.reached.Reached.{Reached}
use Rattle.saturate.specs.declared.reached.State.{State}
use Rattle.saturate.specs.declared.table.FingerprintTable.{FingerprintTable}
use Rattle.saturate.specs.declared.marks.Marks.{Marks}
use Rattle.saturate.specs.Fingerprints.{fingerprints}
use Rattle.saturate.specs.Marks.{marks, tabled}
use Rattle.saturate.specs.Indexes.{Listing, listed, key_of, HasCodes, IsKeyOf, IsIndexed, IsListedUnderOne}
use Rattle.saturate.specs.Runs.{clauses, weight, kept_count, is_derived, grown, with_waiting, with_aside, with_found}
use Rattle.saturate.specs.States.{HasWeights, HasFingerprints, IsConsistent}
use Rattle.saturate.proofs.IndexLaws.{first_has_codes, others_have_codes}
use Rattle.saturate.proofs.IndexStepLaws.{indexed_grown_alone, indexed_found, indexed_aside, indexed_waits, grown_clause}

-- the number of the next step is no input's
pub next_derived : (state : State) → IsConsistent state → is_derived state.reached (length state.reached.steps) ≡ true
next_derived state consistent =
    let r = state.reached in
    let counted = length-append (clauses_of r.inputs) r.derived in
    let inputs = length-map r.inputs (λ (i : InputClause). i.clause) in
    le-leb (length r.inputs) (length r.steps) (omega (arith, consistent.steps, counted, inputs))

-- the fingerprints of that number are those of the clause
prints_at : (all : List Literals) (number : ℕ) (prints : Fingerprints) → nth (map fingerprints all) number ≡ Some prints → prints ≡ fingerprints (clause_at all number)
prints_at [] number prints at = absurd (none_some prints at)
prints_at (clause ∷ all) zero prints at = sym (some_same (fingerprints clause) prints at)
prints_at (clause ∷ all) (suc number) prints at = prints_at all number prints at

pub prints_listed : (state : State) (list : List Fingerprints) (number : ℕ) (prints : Fingerprints) → HasFingerprints state → list ≡ state.fingerprints.all
    → number < length list → prints ≡ get_or list number prints → prints ≡ fingerprints (clause_at (clauses state.reached) number)
prints_listed state list number prints has is below at =
    prints_at (clauses state.reached) number prints (ap (λ (all : List Fingerprints). nth all number) (sym (is ∙ ap (λ (table : FingerprintTable). table.all) has))
    ∙ nth-some list number prints below at)

-- and so are its marks
marks_at : (all : List Literals) (number : ℕ) (other : Marks) → nth (map marks all) number ≡ Some other → other ≡ marks (clause_at all number)
marks_at [] number other at = absurd (none_some other at)
marks_at (clause ∷ all) zero other at = sym (some_same (marks clause) other at)
marks_at (clause ∷ all) (suc number) other at = marks_at all number other at

pub marks_listed : (state : State) (list : List Marks) (number : ℕ) (other : Marks) → HasFingerprints state → list ≡ state.fingerprints.marks
    → number < length list → other ≡ get_or list number other → other ≡ marks (clause_at (clauses state.reached) number)
marks_listed state list number other has is below at =
    marks_at (clauses state.reached) number other (ap (λ (all : List Marks). nth all number) (sym (is ∙ ap (λ (table : FingerprintTable). table.marks) has))
    ∙ nth-some list number other below at)

-- by the fingerprints that stand in order of the clauses
pub listed_prints : (all : List Literals) (list : List Fingerprints) (number : ℕ) (other : Fingerprints) → list ≡ map fingerprints all → number < length all
    → get_or list number other ≡ fingerprints (clause_at all number)
listed_prints all list number other is below = ap (λ (prints : List Fingerprints). get_or prints number other) is ∙ go all number below
  where
    go : (all : List Literals) (number : ℕ) → number < length all → get_or (map fingerprints all) number other ≡ fingerprints (clause_at all number)
    go [] number below = absurd (omega arith)
    go (clause ∷ all) zero below = refl
    go (clause ∷ all) (suc number) below = go all number (omega arith)

-- a key of the fingerprints is one of the clause
pub key_listed : (clause : Literals) (prints : Fingerprints) (place : ℕ) → prints ≡ fingerprints clause → Among place (map key_of (prints.first ∷ prints.others))
    → IsKeyOf clause place
key_listed clause prints place is there = subst (λ (p : Fingerprints). Among place (map key_of (p.first ∷ p.others))) is there

pub codes_listed : (clause : Literals) (prints : Fingerprints) → prints ≡ fingerprints clause → HasCodes prints.first × Each HasCodes prints.others
codes_listed clause prints is =
    subst (λ (p : Fingerprints). HasCodes p.first × Each HasCodes p.others) (sym is) (first_has_codes clause, others_have_codes clause)

-- one clause more, which isn't listed
pub consistent_grown : (old new : State) (conclusion : Conclusion) → IsConsistent old → new.reached ≡ grown old.reached conclusion → new.listed ≡ old.listed
    → new.kept ≡ old.kept → HasWeights new → HasFingerprints new → IsPlain conclusion.clause → IsConsistent new
consistent_grown old new conclusion consistent is listing kept weights prints plain =
    let r = grown old.reached conclusion in
    let more : clauses r ≡ clauses old.reached ++ conclusion.clause ∷ [] = sym (append_assoc (clauses_of old.reached.inputs) old.reached.derived (conclusion.clause ∷ [])) in
    let counted : length (clauses r) ≡ length (clauses old.reached) + 1 = ap length more ∙ length-append (clauses old.reached) (conclusion.clause ∷ []) in
    record {
      weights = weights;
      fingerprints = prints;
      indexed = subst (IsIndexed (listed new.listed)) (sym is)
          (subst (λ (l : Listing). IsIndexed l r) (sym (ap listed listing)) (indexed_grown_alone (listed old.listed) old.reached conclusion consistent.indexed));
      kept = kept ∙ consistent.kept ∙ sym (ap kept_count is);
      steps = ap (λ (s : Reached). length s.steps) is ∙ length-append old.reached.steps (conclusion.step ∷ []) ∙ ap (λ (n : ℕ). n + 1) consistent.steps
          ∙ sym (ap (λ (s : Reached). length (clauses s)) is ∙ counted);
      named = subst (λ (s : Reached). Each (λ number. number < length (clauses s)) s.waiting) (sym is)
          (each_map (λ n. n < length (clauses old.reached)) (λ n. n < length (clauses r)) (λ n h. omega (arith, counted)) old.reached.waiting consistent.named);
      plain = subst (λ (s : Reached). Each IsPlain (clauses s)) (sym is)
          (subst (Each IsPlain) (sym more) (each_append IsPlain (clauses old.reached) (conclusion.clause ∷ []) consistent.plain (plain, tt)));
    }

-- the number of the last step, which is derived and known
pub record IsLast (state : State) (number : ℕ) : Type 0 where
  pub derived : is_derived state.reached number ≡ true
  pub below : number < length (clauses state.reached)

pub last_grown : (old new : State) (conclusion : Conclusion) (number : ℕ) → IsConsistent old → new.reached ≡ grown old.reached conclusion
    → number ≡ length old.reached.steps → IsLast new number
last_grown old new conclusion number consistent is named =
    let more = length-append (clauses_of old.reached.inputs) (old.reached.derived ++ conclusion.clause ∷ []) in
    let derived = length-append old.reached.derived (conclusion.clause ∷ []) in
    let before = length-append (clauses_of old.reached.inputs) old.reached.derived in
    record {
      derived = ap₂ is_derived is named ∙ next_derived old consistent;
      below = subst (λ (s : Reached). number < length (clauses s)) (sym is) (omega (arith, consistent.steps, more, derived, before));
    }

-- ---- one number more

kept_one : (p : ℕ → Bool) (number : ℕ) → p number ≡ true → length (filter p (number ∷ [])) ≡ 1
kept_one p number passes = ap (λ (b : Bool). length (if b then number ∷ [] else [])) passes

kept_append : (p : ℕ → Bool) (xs ys : List ℕ) → length (filter p (xs ++ ys)) ≡ length (filter p xs) + length (filter p ys)
kept_append p xs ys = ap length (filter-append p xs ys) ∙ length-append (filter p xs) (filter p ys)

-- and the longer state lists it
pub consistent_found : (state longer : State) (found : List ℕ) → IsConsistent state → IsIndexed (listed longer.listed) (with_found state.reached found)
    → IsConsistent (record {
      reached = with_found state.reached found;
      weights = state.weights;
      fingerprints = state.fingerprints;
      listed = longer.listed;
      kept = state.kept;
    })
consistent_found state longer found consistent indexed = record {
  weights = consistent.weights;
  fingerprints = consistent.fingerprints;
  indexed = indexed;
  kept = consistent.kept;
  steps = consistent.steps;
  named = consistent.named;
  plain = consistent.plain;
}

pub consistent_aside : (state longer : State) (number kept : ℕ) (aside : List ℕ) → IsConsistent state → IsLast state number → aside ≡ state.reached.aside ++ number ∷ []
    → kept ≡ state.kept + 1 → IsIndexed (listed longer.listed) (with_aside state.reached aside)
    → IsConsistent (record {
      reached = with_aside state.reached aside;
      weights = state.weights;
      fingerprints = state.fingerprints;
      listed = longer.listed;
      kept = kept;
    })
consistent_aside state longer number kept aside consistent last is more indexed =
    let r = state.reached in
    let p = is_derived r in
    let all = kept_append p r.processed (r.waiting ++ r.aside) in
    let rest = kept_append p r.waiting r.aside in
    let after = kept_append p r.processed (r.waiting ++ (r.aside ++ number ∷ [])) in
    let after_rest = kept_append p r.waiting (r.aside ++ number ∷ []) in
    let after_aside = kept_append p r.aside (number ∷ []) in
    let one = kept_one p number last.derived in
    record {
      weights = consistent.weights;
      fingerprints = consistent.fingerprints;
      indexed = indexed;
      kept = subst (λ (ns : List ℕ). kept ≡ kept_count (with_aside r ns)) (sym is) (omega (arith, consistent.kept, all, rest, after, after_rest, after_aside, one));
      steps = consistent.steps;
      named = consistent.named;
      plain = consistent.plain;
    }

pub consistent_waits : (state longer : State) (number kept : ℕ) (waiting : List ℕ) → IsConsistent state → IsLast state number → waiting ≡ state.reached.waiting ++ number ∷ []
    → kept ≡ state.kept + 1 → IsIndexed (listed longer.listed) (with_waiting state.reached waiting)
    → IsConsistent (record {
      reached = with_waiting state.reached waiting;
      weights = state.weights;
      fingerprints = state.fingerprints;
      listed = longer.listed;
      kept = kept;
    })
consistent_waits state longer number kept waiting consistent last is more indexed =
    let r = state.reached in
    let p = is_derived r in
    let all = kept_append p r.processed (r.waiting ++ r.aside) in
    let rest = kept_append p r.waiting r.aside in
    let after = kept_append p r.processed ((r.waiting ++ number ∷ []) ++ r.aside) in
    let after_rest = kept_append p (r.waiting ++ number ∷ []) r.aside in
    let after_waiting = kept_append p r.waiting (number ∷ []) in
    let one = kept_one p number last.derived in
    record {
      weights = consistent.weights;
      fingerprints = consistent.fingerprints;
      indexed = indexed;
      kept = subst (λ (ns : List ℕ). kept ≡ kept_count (with_waiting r ns)) (sym is) (omega (arith, consistent.kept, all, rest, after, after_rest, after_waiting, one));
      steps = consistent.steps;
      named = subst (Each (λ n. n < length (clauses r))) (sym is)
          (each_append (λ n. n < length (clauses r)) r.waiting (number ∷ []) consistent.named (last.below, tt));
      plain = consistent.plain;
    }

pub filter_shorter : (p : ℕ → Bool) (xs : List ℕ) → length (filter p xs) ≤ length xs
filter_shorter p [] = omega arith
filter_shorter p (x ∷ xs) = go (p x) (filter_shorter p xs)
  where
    go : (b : Bool) → length (filter p xs) ≤ length xs → length (if b then x ∷ filter p xs else filter p xs) ≤ length (x ∷ xs)
    go true h = omega arith
    go false h = omega arith

-- ---- a clause that comes

-- how the next step is added
pub record IsAdded (old new : State) (conclusion : Conclusion) (next : ℕ) : Type 0 where
  pub number : next ≡ length old.reached.steps
  pub grows : new.reached ≡ grown old.reached conclusion
  pub kept : new.kept ≡ old.kept
  pub listed : new.listed ≡ old.listed
  pub weights : HasWeights new
  pub fingerprints : HasFingerprints new

-- and how it is listed
pub record IsLonger (new longer : State) (next : ℕ) : Type 0 where
  pub lists : IsListedUnderOne (listed new.listed) (listed longer.listed) (clause_at (clauses new.reached) next) next
  pub reached : longer.reached ≡ new.reached
  pub weights : longer.weights ≡ new.weights
  pub fingerprints : longer.fingerprints ≡ new.fingerprints
  pub kept : longer.kept ≡ new.kept

module _ (old new : State) (conclusion : Conclusion) (number : ℕ) (consistent : IsConsistent old) (plain : IsPlain conclusion.clause)
    (added : IsAdded old new conclusion number) where
  pub added_consistent : IsConsistent new
  added_consistent = consistent_grown old new conclusion consistent added.grows added.listed added.kept added.weights added.fingerprints plain

  module _ (longer : State) (is : IsLonger new longer number) where
    -- as it would be without the list
    abbrev unlisted : State
    unlisted = record { reached = longer.reached; weights = longer.weights; fingerprints = longer.fingerprints; listed = old.listed; kept = longer.kept }

    unlisted_consistent : IsConsistent unlisted
    unlisted_consistent =
        consistent_grown old unlisted conclusion consistent (is.reached ∙ added.grows) refl (is.kept ∙ added.kept)
        (is.weights ∙ added.weights ∙ ap (λ (s : Reached). map weight (clauses s)) (sym is.reached))
        (is.fingerprints ∙ added.fingerprints ∙ ap (λ (s : Reached). tabled (clauses s)) (sym is.reached)) plain

    unlisted_last : IsLast unlisted number
    unlisted_last = last_grown old unlisted conclusion number consistent (is.reached ∙ added.grows) added.number

    lists_last : IsListedUnderOne (listed old.listed) (listed longer.listed) conclusion.clause (length old.reached.steps)
    lists_last =
        let there : clause_at (clauses new.reached) number ≡ conclusion.clause =
        ap₂ (λ (s : Reached) (n : ℕ). clause_at (clauses s) n) added.grows added.number ∙ grown_clause old.reached conclusion consistent.steps in
        subst (λ (l : Listing). IsListedUnderOne l (listed longer.listed) conclusion.clause (length old.reached.steps)) (ap listed added.listed)
        (subst (IsListedUnderOne (listed new.listed) (listed longer.listed) conclusion.clause) added.number
        (subst (λ (c : Literals). IsListedUnderOne (listed new.listed) (listed longer.listed) c number) there is.lists))

    -- the list of the last ones
    ends : (of : Reached → List ℕ) (numbers : List ℕ) → of (grown old.reached conclusion) ≡ of old.reached → numbers ≡ of longer.reached ++ number ∷ []
        → numbers ≡ of old.reached ++ length old.reached.steps ∷ []
    ends of numbers same last =
        last ∙ ap₂ (λ (ns : List ℕ) (n : ℕ). ns ++ n ∷ []) (ap of (is.reached ∙ added.grows) ∙ same) added.number

    pub found_consistent : (found : List ℕ) → found ≡ longer.reached.found ++ number ∷ []
        → IsConsistent (record {
          reached = with_found longer.reached found;
          weights = longer.weights;
          fingerprints = longer.fingerprints;
          listed = longer.listed;
          kept = longer.kept;
        })
    found_consistent found last =
        let whole = ap₂ with_found (is.reached ∙ added.grows) (ends (λ (s : Reached). s.found) found refl last) in
        consistent_found unlisted longer found unlisted_consistent
        (subst (IsIndexed (listed longer.listed)) (sym whole)
        (indexed_found (listed old.listed) old.reached conclusion consistent.indexed (listed longer.listed) consistent.steps lists_last))

    pub aside_consistent : (aside : List ℕ) (kept : ℕ) → aside ≡ longer.reached.aside ++ number ∷ [] → kept ≡ longer.kept + 1
        → IsConsistent (record {
          reached = with_aside longer.reached aside;
          weights = longer.weights;
          fingerprints = longer.fingerprints;
          listed = longer.listed;
          kept = kept;
        })
    aside_consistent aside kept last more =
        let whole = ap₂ with_aside (is.reached ∙ added.grows) (ends (λ (s : Reached). s.aside) aside refl last) in
        consistent_aside unlisted longer number kept aside unlisted_consistent unlisted_last last more
        (subst (IsIndexed (listed longer.listed)) (sym whole)
        (indexed_aside (listed old.listed) old.reached conclusion consistent.indexed (listed longer.listed) consistent.steps lists_last))

    pub waits_consistent : (waiting : List ℕ) (kept : ℕ) → waiting ≡ longer.reached.waiting ++ number ∷ [] → kept ≡ longer.kept + 1
        → IsConsistent (record {
          reached = with_waiting longer.reached waiting;
          weights = longer.weights;
          fingerprints = longer.fingerprints;
          listed = longer.listed;
          kept = kept;
        })
    waits_consistent waiting kept last more =
        let whole = ap₂ with_waiting (is.reached ∙ added.grows) (ends (λ (s : Reached). s.waiting) waiting refl last) in
        consistent_waits unlisted longer number kept waiting unlisted_consistent unlisted_last last more
        (subst (IsIndexed (listed longer.listed)) (sym whole)
        (indexed_waits (listed old.listed) old.reached conclusion consistent.indexed (listed longer.listed) consistent.steps lists_last))
