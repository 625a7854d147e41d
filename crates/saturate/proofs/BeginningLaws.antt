-- Numbers in order, and the beginning of a search.
use Rattle.std.proofs.Common.{◌≡◌, ℕ, zero, suc, ◌+◌, ◌<◌, List, [], ◌∷◌, ◌++◌, map, filter, take, length, nat_le, Bool, true, false, if◌then◌else◌, Some, None, refl, sym, ap, ap₂, ◌∙◌, subst, arith}
use Rattle.std.proofs.lemmas.List.{length-map, map-append, take_more, append-nil}
use Rattle.std.proofs.lemmas.List.Elements.{filter-append}
use Rattle.std.proofs.lemmas.Bool.{lt-leb}
use Rattle.std.proofs.Math.Bool.{beq}
use Rattle.sigma_base.specs.Lists.{Each, each_append, each_map, each_filter}
use Rattle.kif_tree.specs.declared.clause.InputClause.{InputClause}
use Rattle.kif_tree.specs.Clauses.{Literals, same_sign}
use Rattle.calculus.specs.declared.step.Step.{Step}
use Rattle.calculus.specs.Rules.{nth}
use Rattle.calculus_programs.proofs.PickLaws.{nth-some, some_item}
use Rattle.infer.specs.Checks.{clauses_of}
use Rattle.infer.specs.Conclusions.{clause_at}
use Rattle.infer.specs.Plain.{IsPlain}
use Rattle.infer.proofs.ParamodulateLaws.{nth_index}
use Rattle.saturate.specs.declared.limits.Mode.{Mode}
use Rattle.saturate.specs.declared.limits.Mode.TheVariants.{Support, Full}
use Rattle.saturate.specs.declared.reached.Reached.{Reached}
use Rattle.saturate.specs.declared.reached.State.{State}
use Rattle.saturate.specs.Fingerprints.{fingerprints}
use Rattle.saturate.specs.Marks.{marks, tabled, tabled_with}
use Rattle.saturate.specs.Indexes.{Listing, AreListed, IsIndexed, IsListedUnderOne, listed}
use Rattle.saturate.specs.Inputs.{is_query_number}
use Rattle.saturate.specs.Runs.{clauses, numbers_from, numbers_of, first_processed, first_waiting, beginning, weight, kept_count}
use Rattle.saturate.specs.States.{IsConsistent}
use Rattle.saturate.proofs.TableLaws.{table_of}
use Rattle.saturate.proofs.IndexStepLaws.{indexed_begun, input_listed, input_at}

numbers_after : (first count : ℕ) → numbers_from first (suc count) ≡ numbers_from first count ++ (first + count) ∷ []
numbers_after first zero = let e : first ≡ first + 0 = omega arith in ap (λ (n : ℕ). n ∷ []) e
numbers_after first (suc count) =
    ap (λ (ns : List ℕ). first ∷ ns)
    (numbers_after (first + 1) count
    ∙ (let e : first + 1 + count ≡ first + suc count = omega arith in ap (λ (n : ℕ). numbers_from (first + 1) count ++ n ∷ []) e))

pub numbers_more : (count : ℕ) → numbers_from 0 (count + 1) ≡ numbers_from 0 count ++ count ∷ []
numbers_more count =
    let e : count + 1 ≡ suc count = omega arith in
    let z : 0 + count ≡ count = omega arith in
    ap (numbers_from 0) e ∙ numbers_after 0 count ∙ ap (λ (n : ℕ). numbers_from 0 count ++ n ∷ []) z

pub mapped_more : {X : Type 0} (f : ℕ → X) (count : ℕ) → map f (numbers_from 0 (count + 1)) ≡ map f (numbers_from 0 count) ++ f count ∷ []
mapped_more f count = ap (map f) (numbers_more count) ∙ map-append f (numbers_from 0 count) (count ∷ [])

pub filtered_with : (p : ℕ → Bool) (count : ℕ) → p count ≡ true → filter p (numbers_from 0 (count + 1)) ≡ filter p (numbers_from 0 count) ++ count ∷ []
filtered_with p count passes =
    ap (filter p) (numbers_more count) ∙ filter-append p (numbers_from 0 count) (count ∷ [])
    ∙ ap (λ (b : Bool). filter p (numbers_from 0 count) ++ (if b then count ∷ [] else [])) passes

pub filtered_without : (p : ℕ → Bool) (count : ℕ) → p count ≡ false → filter p (numbers_from 0 (count + 1)) ≡ filter p (numbers_from 0 count)
filtered_without p count fails =
    ap (filter p) (numbers_more count) ∙ filter-append p (numbers_from 0 count) (count ∷ [])
    ∙ ap (λ (b : Bool). filter p (numbers_from 0 count) ++ (if b then count ∷ [] else [])) fails ∙ append-nil (filter p (numbers_from 0 count))

pub signs_equal : (a b : Bool) → beq b a ≡ true → same_sign a b ≡ true
signs_equal true true e = refl
signs_equal true false e = e
signs_equal false true e = e
signs_equal false false e = refl

pub signs_differ : (a b : Bool) → beq b a ≡ false → same_sign a b ≡ false
signs_differ true true e = e
signs_differ true false e = refl
signs_differ false true e = refl
signs_differ false false e = e

-- ---- what is kept of each clause

pub there_is : {X : Type 0} (xs : List X) (n : ℕ) → n < length xs → nth xs n ≡ None → ⊥
there_is xs n below none = let x = some_item xs n below in let e : None ≡ Some x.0 = sym none ∙ nth-some xs n x.0 below x.1 in cc

pub clauses_more : {X : Type 0} (f : Literals → X) (inputs : List InputClause) (number : ℕ) (input : InputClause) → nth inputs number ≡ Some input
    → map f (clauses_of (take (number + 1) inputs)) ≡ map f (clauses_of (take number inputs)) ++ f input.clause ∷ []
clauses_more f inputs number input at =
    let there = nth_index inputs number input at in
    ap (λ (xs : List InputClause). map f (clauses_of xs))
    (take_more inputs number input there.0 ∙ ap (λ (x : InputClause). take number inputs ++ x ∷ []) (sym there.1))
    ∙ ap (map f) (map-append (λ (i : InputClause). i.clause) (take number inputs) (input ∷ []))
    ∙ map-append f (clauses_of (take number inputs)) (input.clause ∷ [])

pub tabled_inputs : (inputs : List InputClause) (number : ℕ) (input : InputClause) → nth inputs number ≡ Some input
    → tabled (clauses_of (take (number + 1) inputs)) ≡ tabled_with (tabled (clauses_of (take number inputs))) input.clause
tabled_inputs inputs number input at =
    ap₂ table_of (clauses_more fingerprints inputs number input at) (clauses_more marks inputs number input at)

-- one input more is listed
pub input_next : (inputs : List InputClause) (old new : Listing) (number : ℕ) → AreListed inputs old number → number < length inputs
    → IsListedUnderOne old new (clause_at (clauses_of inputs) number) number → AreListed inputs new (number + 1)
input_next inputs old new number before below under =
    let x = some_item inputs number below in
    let at = nth-some inputs number x.0 below x.1 in
    input_listed inputs old new number x.0 before at (subst (λ (c : Literals). IsListedUnderOne old new c number) (input_at inputs number x.0 at) under)

-- ---- the beginning

numbers_count : (first count : ℕ) → length (numbers_from first count) ≡ count
numbers_count first zero = refl
numbers_count first (suc count) = let rest = numbers_count (first + 1) count in omega arith

numbers_below : (first count : ℕ) → Each (λ n. n < first + count) (numbers_from first count)
numbers_below first zero = tt
numbers_below first (suc count) = (
  omega arith,
  each_map (λ n. n < first + 1 + count) (λ n. n < first + suc count) (λ n h. omega arith) (numbers_from (first + 1) count) (numbers_below (first + 1) count),
)

all_below : (inputs : List InputClause) → Each (λ n. n < length inputs) (numbers_of inputs)
all_below inputs =
    each_map (λ n. n < 0 + length inputs) (λ n. n < length inputs) (λ n h. omega arith) (numbers_of inputs) (numbers_below 0 (length inputs))

processed_below : (inputs : List InputClause) (mode : Mode) → Each (λ n. n < length inputs) (first_processed inputs mode)
processed_below inputs Support = each_filter (λ n. n < length inputs) (λ number. same_sign false (is_query_number inputs number)) (numbers_of inputs) (all_below inputs)
processed_below inputs Full = tt

waiting_below : (inputs : List InputClause) (mode : Mode) → Each (λ n. n < length inputs) (first_waiting inputs mode)
waiting_below inputs Support = each_filter (λ n. n < length inputs) (λ number. same_sign true (is_query_number inputs number)) (numbers_of inputs) (all_below inputs)
waiting_below inputs Full = all_below inputs

none_derived : (inputs : List InputClause) (numbers : List ℕ) → Each (λ n. n < length inputs) numbers → filter (nat_le (length inputs)) numbers ≡ []
none_derived inputs [] each = refl
none_derived inputs (n ∷ numbers) each =
    ap (λ (b : Bool). if b then n ∷ filter (nat_le (length inputs)) numbers else filter (nat_le (length inputs)) numbers) (lt-leb (length inputs) n each.0)
    ∙ none_derived inputs numbers each.1

pub begins : (inputs : List InputClause) (mode : Mode) (state : State) → state.reached ≡ beginning inputs mode → state.weights ≡ map weight (clauses_of inputs)
    → state.fingerprints ≡ tabled (clauses_of inputs) → AreListed inputs (listed state.listed) (length inputs) → state.kept ≡ 0 → Each IsPlain (clauses_of inputs) → IsConsistent state
begins inputs mode state is weights prints lists kept plain =
    let all : clauses (beginning inputs mode) ≡ clauses_of inputs = append-nil (clauses_of inputs) in
    let counted : length (clauses (beginning inputs mode)) ≡ length inputs = ap length all ∙ length-map inputs (λ (i : InputClause). i.clause) in
    let numbers = first_processed inputs mode ++ (first_waiting inputs mode ++ []) in
    let below : Each (λ n. n < length inputs) numbers =
    each_append (λ n. n < length inputs) (first_processed inputs mode) (first_waiting inputs mode ++ []) (processed_below inputs mode)
    (each_append (λ n. n < length inputs) (first_waiting inputs mode) [] (waiting_below inputs mode) tt) in
    record {
      weights = weights ∙ sym (ap (λ (r : Reached). map weight (clauses r)) is ∙ ap (map weight) all);
      fingerprints = prints ∙ sym (ap (λ (r : Reached). tabled (clauses r)) is ∙ ap tabled all);
      indexed = subst (IsIndexed (listed state.listed)) (sym is) (indexed_begun inputs (listed state.listed) mode lists);
      kept = kept ∙ sym (ap kept_count is ∙ ap length (none_derived inputs numbers below));
      steps = ap (λ (r : Reached). length r.steps) is
          ∙ length-map (numbers_of inputs) Step.Input ∙ numbers_count 0 (length inputs) ∙ sym (ap (λ (r : Reached). length (clauses r)) is ∙ counted);
      named = subst (λ (r : Reached). Each (λ number. number < length (clauses r)) r.waiting) (sym is)
          (each_map (λ n. n < length inputs) (λ n. n < length (clauses (beginning inputs mode))) (λ n h. omega (arith, counted)) (first_waiting inputs mode) (waiting_below inputs mode));
      plain = subst (λ (r : Reached). Each IsPlain (clauses r)) (sym is) (subst (Each IsPlain) (sym all) plain);
    }
