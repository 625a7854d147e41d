-- A search that ends with enough answers or crowded has come just to the limit.
use Rattle.std.proofs.Common.{◌≡◌, ◌⊎◌, inl, inr, ◌<◌, ◌≤◌, ℕ, ◌+◌, nat_eq, nat_le, List, [], ◌∷◌, ◌++◌, length, Bool, true, false, not, sym, ap, ◌∙◌, subst, arith}
use Rattle.std.proofs.lemmas.Bool.Decides.{leb_tells}
use Rattle.std.proofs.lemmas.List.{length-append, length-map, append-nil}
use Rattle.sigma_base.specs.Lists.{Each, each_map}
use Rattle.kif_tree.specs.declared.clause.InputClause.{InputClause}
use Rattle.calculus.specs.Answers.{Among}
use Rattle.infer.specs.declared.conclusion.Conclusion.{Conclusion}
use Rattle.infer.specs.Checks.{clauses_of}
use Rattle.saturate.specs.declared.arrival.Arrival.{Arrival}
use Rattle.saturate.specs.declared.arrival.Arrival.TheVariants as arrival
use Rattle.saturate.specs.declared.ended.Ended.{Ended}
use Rattle.saturate.specs.declared.ended.Ended.TheVariants as ended
use Rattle.saturate.specs.declared.limits.Limits.{Limits}
use Rattle.saturate.specs.declared.limits.Mode.{Mode}
use Rattle.saturate.specs.declared.reached.Reached.{Reached}
use Rattle.saturate.specs.Runs.{is_derived, kept_count, first_processed, first_waiting, beginning, arrived, ended_where, end_with, renumbered, without, taken, given_processed, IsRest, Runs}
use Rattle.saturate.specs.Ends.{kept}
use Rattle.saturate.proofs.ListLaws.{count, count-append, count-one, count-none, count-filter, count-without}
use Rattle.saturate.proofs.StepLaws.{Stands, stands_beginning, Leads, Keeps, Between, run_keeps}
use Rattle.saturate.proofs.SoundLaws.{new_is_derived}

-- fewer answers, and fewer kept clauses, than end a search
record IsUnder (limits : Limits) (r : Reached) : Type 0 where
  found : length r.found < limits.answers
  kept : kept_count r < limits.kept

-- where it ends with one of the two, just as many
record IsFull (limits : Limits) (end : Ended) (r : Reached) : Type 0 where
  pub enough : end ≡ ended.Enough → length r.found ≡ limits.answers
  pub crowded : end ≡ ended.Crowded → length (kept r) ≡ limits.kept

-- ---- how many are kept

kept_parts : (r : Reached) (processed waiting aside : List ℕ)
    → count (is_derived r) (processed ++ (waiting ++ aside)) ≡ count (is_derived r) processed + (count (is_derived r) waiting + count (is_derived r) aside)
kept_parts r processed waiting aside =
    count-append (is_derived r) processed (waiting ++ aside)
    ∙ ap (λ (n : ℕ). count (is_derived r) processed + n) (count-append (is_derived r) waiting aside)

kept_taken : (r : Reached) (given : ℕ) → kept_count (taken r given) ≤ kept_count r
kept_taken r given =
    let old = kept_parts r r.processed r.waiting r.aside in
    let new = kept_parts r r.processed (without given r.waiting) r.aside in
    let less = count-filter (is_derived r) (λ other. not (nat_eq given other)) r.waiting in
    omega (arith, old, new, less)

kept_processed : (r : Reached) (given : ℕ) → Among given r.waiting → kept_count (given_processed r given) ≤ kept_count r
kept_processed r given waits =
    let old = kept_parts r r.processed r.waiting r.aside in
    let new = kept_parts r (r.processed ++ given ∷ []) (without given r.waiting) r.aside in
    let first = count-append (is_derived r) r.processed (given ∷ []) in
    let less = count-without (is_derived r) given r.waiting waits in
    omega (arith, old, new, first, less)

one_waits : (r : Reached) (number : ℕ) → is_derived r number ≡ true
    → count (is_derived r) (r.processed ++ ((r.waiting ++ number ∷ []) ++ r.aside)) ≡ kept_count r + 1
one_waits r number derived =
    let old = kept_parts r r.processed r.waiting r.aside in
    let new = kept_parts r r.processed (r.waiting ++ number ∷ []) r.aside in
    let first = count-append (is_derived r) r.waiting (number ∷ []) in
    let one = count-one (is_derived r) number derived in
    omega (arith, old, new, first, one)

one_aside : (r : Reached) (number : ℕ) → is_derived r number ≡ true
    → count (is_derived r) (r.processed ++ (r.waiting ++ (r.aside ++ number ∷ []))) ≡ kept_count r + 1
one_aside r number derived =
    let old = kept_parts r r.processed r.waiting r.aside in
    let new = kept_parts r r.processed r.waiting (r.aside ++ number ∷ []) in
    let first = count-append (is_derived r) r.aside (number ∷ []) in
    let one = count-one (is_derived r) number derived in
    omega (arith, old, new, first, one)

kept_beginning : (inputs : List InputClause) (mode : Mode) → kept_count (beginning inputs mode) ≡ 0
kept_beginning inputs mode =
    let stands = stands_beginning inputs mode in
    let parts = kept_parts (beginning inputs mode) (first_processed inputs mode) (first_waiting inputs mode) [] in
    let first = none (first_processed inputs mode) stands.processed in
    let second = none (first_waiting inputs mode) stands.waiting in
    omega (arith, parts, first, second)
  where
    many : length (clauses_of inputs ++ []) ≡ length inputs
    many = ap length (append-nil (clauses_of inputs)) ∙ length-map inputs (λ (input : InputClause). input.clause)

    no_input : (n : ℕ) → n < length (clauses_of inputs ++ []) → nat_le (length inputs) n ≡ false
    no_input n below = go (leb_tells (length inputs) n)
      where
        go : ((nat_le (length inputs) n ≡ true) × (length inputs ≤ n)) ⊎ ((nat_le (length inputs) n ≡ false) × (n < length inputs)) → nat_le (length inputs) n ≡ false
        go (inl above) = let less = above.1 in absurd (omega (arith, many, below, less))
        go (inr apart) = apart.0

    none : (numbers : List ℕ) → Each (λ number. number < length (clauses_of inputs ++ [])) numbers → count (is_derived (beginning inputs mode)) numbers ≡ 0
    none numbers each =
        count-none (is_derived (beginning inputs mode)) numbers
        (each_map (λ number. number < length (clauses_of inputs ++ [])) (λ number. nat_le (length inputs) number ≡ false) no_input numbers each)

-- ---- steps

-- the count is below the bound, or comes up to it where the search ends
counted_leads : (P : Reached → Type 0) (E : Ended → Reached → Type 0) (r : Reached) (bound n : ℕ) (end : Ended)
    → (n < bound → P r) → (bound ≤ n → E end r) → Leads P E r (ended_where (nat_le bound n) end)
counted_leads P E r bound n end under full = go (leb_tells bound n)
  where
    go : ((nat_le bound n ≡ true) × (bound ≤ n)) ⊎ ((nat_le bound n ≡ false) × (n < bound)) → Leads P E r (ended_where (nat_le bound n) end)
    go (inl above) = subst (λ (b : Bool). Leads P E r (ended_where b end)) (sym above.0) (full above.1)
    go (inr below) = subst (λ (b : Bool). Leads P E r (ended_where b end)) (sym below.0) (under below.1)

not_crowded : ended.Enough ≡ ended.Crowded → ⊥
not_crowded e = cc

not_enough : ended.Crowded ≡ ended.Enough → ⊥
not_enough e = cc

neither_enough : ended.Contradiction ≡ ended.Enough → ⊥
neither_enough e = cc

neither_crowded : ended.Contradiction ≡ ended.Crowded → ⊥
neither_crowded e = cc

module _ (inputs : List InputClause) (limits : Limits) (r : Reached) (stands : Stands inputs r) (under : IsUnder limits r)
    (given partner : ℕ) (conclusion : Conclusion) where
  under_arrived : (a : Arrival)
      → Leads (IsUnder limits) (IsFull limits) (arrived r (renumbered given partner conclusion) a) (end_with limits (arrived r (renumbered given partner conclusion) a) a)
  under_arrived arrival.Contradiction = record { enough = λ e. absurd (neither_enough e); crowded = λ e. absurd (neither_crowded e) }
  under_arrived arrival.Dropped = under
  under_arrived arrival.Found =
      let new = arrived r (renumbered given partner conclusion) arrival.Found in
      let one : length (r.found ++ length r.steps ∷ []) ≡ length r.found + 1 = length-append r.found (length r.steps ∷ []) in
      let before : length r.found < limits.answers = under.found in
      counted_leads (IsUnder limits) (IsFull limits) new limits.answers (length (r.found ++ length r.steps ∷ [])) ended.Enough
      (λ below. record { found = below; kept = under.kept })
      (λ above. record { enough = λ e. omega (arith, one, before, above); crowded = λ e. absurd (not_crowded e) })
  under_arrived arrival.Aside =
      let new = arrived r (renumbered given partner conclusion) arrival.Aside in
      let one = one_aside r (length r.steps) (new_is_derived inputs r stands) in
      let before : kept_count r < limits.kept = under.kept in
      counted_leads (IsUnder limits) (IsFull limits) new limits.kept (kept_count new) ended.Crowded
      (λ below. record { found = under.found; kept = below })
      (λ above. record { enough = λ e. absurd (not_enough e); crowded = λ e. omega (arith, one, before, above) })
  under_arrived arrival.Waits =
      let new = arrived r (renumbered given partner conclusion) arrival.Waits in
      let one = one_waits r (length r.steps) (new_is_derived inputs r stands) in
      let before : kept_count r < limits.kept = under.kept in
      counted_leads (IsUnder limits) (IsFull limits) new limits.kept (kept_count new) ended.Crowded
      (λ below. record { found = under.found; kept = below })
      (λ above. record { enough = λ e. absurd (not_enough e); crowded = λ e. omega (arith, one, before, above) })

module _ (inputs : List InputClause) (limits : Limits) (answers : 1 ≤ limits.answers) (some_kept : 1 ≤ limits.kept) where
  under_or_full : Keeps inputs limits (IsUnder limits) (λ given. IsUnder limits) (IsFull limits)
  under_or_full = record {
    begins = record { found = answers; kept = (let none = kept_beginning inputs limits.mode in omega (arith, none, some_kept)) };
    drops = λ r given stands under waits dropped. record { found = under.found; kept = (let less = kept_taken r given in let before : kept_count r < limits.kept = under.kept in omega (arith, less, before)) };
    gives = λ r given stands under waits. record { found = under.found; kept = (let less = kept_processed r given waits in let before : kept_count r < limits.kept = under.kept in omega (arith, less, before)) };
    comes = λ r given partner list conclusion a stands under parents among is. under_arrived inputs limits r stands under given partner conclusion a;
    closes = λ r given under. under;
  }

  full_at : (turns : ℕ) (r : Reached) (end : Ended) → Runs inputs limits turns r end → (end ≡ ended.Enough) ⊎ (end ≡ ended.Crowded) → IsFull limits end r
  full_at turns r end runs which = go (run_keeps inputs limits (IsUnder limits) (λ given. IsUnder limits) (IsFull limits) under_or_full turns r end runs)
    where
      no_rest : (e : Ended) → (e ≡ ended.Enough) ⊎ (e ≡ ended.Crowded) → IsRest limits turns r e → ⊥
      no_rest e (inl is) rest = subst (IsRest limits turns r) is rest
      no_rest e (inr is) rest = subst (IsRest limits turns r) is rest

      go : (Between inputs limits (IsUnder limits) (λ given. IsUnder limits) (IsFull limits) under_or_full r × IsRest limits turns r end) ⊎ IsFull limits end r → IsFull limits end r
      go (inl at) = absurd (no_rest end which at.1)
      go (inr full) = full

  -- as many are found as were wanted
  pub enough_found : (turns : ℕ) (r : Reached) (end : Ended) → Runs inputs limits turns r end → end ≡ ended.Enough → length r.found ≡ limits.answers
  enough_found turns r end runs is = (full_at turns r end runs (inl is)).enough is

  -- as many are kept as may be
  pub crowded_kept : (turns : ℕ) (r : Reached) (end : Ended) → Runs inputs limits turns r end → end ≡ ended.Crowded → length (kept r) ≡ limits.kept
  crowded_kept turns r end runs is = (full_at turns r end runs (inr is)).crowded is
