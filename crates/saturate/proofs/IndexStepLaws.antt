-- How an index stays right as clauses come, wait no longer and are processed, and how it begins.
use Rattle.std.proofs.Common.{◌≡◌, ◌⊎◌, inl, inr, ◌<◌, ℕ, zero, suc, ◌+◌, nat_eq, List, [], ◌∷◌, ◌++◌, length, Bool, true, false, not, if◌then◌else◌, Option, Some, refl, sym, ap, ◌∙◌, subst, arith, length-append}
use Rattle.std.proofs.lemmas.Bool.{eq-eqb}
use Rattle.std.proofs.lemmas.Bool.Decides.{eqb_tells}
use Rattle.std.proofs.lemmas.List.{append-nil, length-map}
use Rattle.kif_tree.specs.declared.clause.InputClause.{InputClause}
use Rattle.kif_tree.specs.Clauses.{Literals, same_sign}
use Rattle.calculus.specs.Rules.{nth}
use Rattle.calculus.specs.Evidence.{list_from}
use Rattle.calculus.specs.Answers.{Among}
use Rattle.calculus.proofs.PlaceLaws.{none_some, some_same}
use Rattle.calculus.proofs.MemberLaws.{among-left, among-right, among-parted, among-filter, each_at}
use Rattle.infer.specs.declared.conclusion.Conclusion.{Conclusion}
use Rattle.infer.specs.Checks.{clauses_of}
use Rattle.infer.specs.Conclusions.{clause_at}
use Rattle.saturate.specs.declared.limits.Mode.{Mode}
use Rattle.saturate.specs.declared.limits.Mode.TheVariants.{Support, Full}
use Rattle.saturate.specs.declared.reached.Reached.{Reached}
use Rattle.saturate.specs.Covered.{IsNeedless}
use Rattle.saturate.specs.Inputs.{is_query_number}
use Rattle.saturate.specs.Indexes.{Listing, IsListedBy, IsIndexed, AreListed, IsListed, IsListedUnderOne}
use Rattle.saturate.specs.Runs.{clauses, known, numbers_from, numbers_of, beginning, grown, with_waiting, with_aside, with_found, taken, given_processed}
use Rattle.saturate.proofs.CoverLaws.{among_without, known_parts, known_joined, Grows, clause_stays, longer_still, needless_still, grows_same, names_known}
use Rattle.saturate.proofs.ListLaws.{each_of_members, among_filtered}
use Rattle.saturate.proofs.StepLaws.{nth-last, clauses_grown, stands_beginning}

-- the clause of that number is listed
abbrev IsListedAt : Listing → List Literals → ℕ → Type 0
IsListedAt listing all number = IsListedBy listing (clause_at all number) number

-- what stands under a key when one number more is listed
module _ (old new : Listing) (place number : ℕ) (lists : IsListed old new place number) where
  pub listed_before : (other n : ℕ) → Among n (old other) → Among n (new other)
  listed_before other n there = subst (Among n) (sym (lists other)) (go (nat_eq other place))
    where
      go : (b : Bool) → Among n (if b then old other ++ number ∷ [] else old other)
      go true = among-left n (old other) (number ∷ []) there
      go false = there

  pub listed_now : Among number (new place)
  listed_now =
      subst (Among number) (sym (lists place ∙ ap (λ (b : Bool). if b then old place ++ number ∷ [] else old place) (eq-eqb place place refl)))
      (among-right number (old place) (number ∷ []) (inl refl))

  pub listed_either : (other n : ℕ) → Among n (new other) → Among n (old other) ⊎ (n ≡ number)
  listed_either other n there = go (nat_eq other place) (subst (Among n) (lists other) there)
    where
      last : Among n (old other) ⊎ Among n (number ∷ []) → Among n (old other) ⊎ (n ≡ number)
      last (inl h) = inl h
      last (inr (inl e)) = inr e
      last (inr (inr h)) = absurd h

      go : (b : Bool) → Among n (if b then old other ++ number ∷ [] else old other) → Among n (old other) ⊎ (n ≡ number)
      go true h = last (among-parted n (old other) (number ∷ []) h)
      go false h = inl h

-- and what is listed of clauses
module _ (old new : Listing) (clause : Literals) (number : ℕ) (under : IsListedUnderOne old new clause number) where
  pub stays_listed : (other : Literals) (n : ℕ) → IsListedBy old other n → IsListedBy new other n
  stays_listed other n by = record { place = by.place; is_key = by.is_key; among = listed_before old new under.place number under.lists by.place n by.among }

  pub is_listed : IsListedBy new clause number
  is_listed = record { place = under.place; is_key = under.is_key; among = listed_now old new under.place number under.lists }

-- ---- clauses that come

-- what is indexed is no later number
known_below : (listing : Listing) (r : Reached) → IsIndexed listing r → (n : ℕ) → Among n (known r) → n < length (clauses r)
known_below listing r indexed n there =
    let by = each_at (IsListedAt listing (clauses r)) (known r) n there indexed.all in
    indexed.named by.place n by.among

-- clauses are added, and the same numbers are processed
module _ (listing : Listing) (old new : Reached) (indexed : IsIndexed listing old) (grows : Grows old new) (same : new.processed ≡ old.processed) where
  listed_still : (n : ℕ) → Among n (known old) → IsListedAt listing (clauses new) n
  listed_still n was =
      subst (λ (c : Literals). IsListedBy listing c n) (sym (clause_stays old new grows n (known_below listing old indexed n was)))
      (each_at (IsListedAt listing (clauses old)) (known old) n was indexed.all)

  needless_later : (n : ℕ) → n < length (clauses old) → IsNeedless (clauses old) old.processed (clause_at (clauses old) n)
      → IsNeedless (clauses new) new.processed (clause_at (clauses new) n)
  needless_later n below h =
      subst (IsNeedless (clauses new) new.processed) (sym (clause_stays old new grows n below))
      (needless_still old new grows old.processed new.processed (λ m. subst (Among m) (sym same)) (clause_at (clauses old) n) h)

  -- and no other number is known
  pub indexed_same : ((n : ℕ) → Among n (known old) → Among n (known new)) → ((n : ℕ) → Among n (known new) → Among n (known old)) → IsIndexed listing new
  indexed_same still only = record {
    all = each_of_members (IsListedAt listing (clauses new)) (known new) (λ n there. listed_still n (only n there));
    named = λ place n there. longer_still old new grows n (indexed.named place n there);
    right = λ place n there. elim (indexed.right place n there) [
      | inl h ↦ inl (still n h)
      | inr h ↦ inr (needless_later n (indexed.named place n there) h)
    ];
  }

  -- and one number more is known, which is listed
  module _ (longer : Listing) (number : ℕ) (below : number < length (clauses new)) (under : IsListedUnderOne listing longer (clause_at (clauses new) number) number) where
    pub indexed_more : ((n : ℕ) → Among n (known old) → Among n (known new)) → Among number (known new)
        → ((n : ℕ) → Among n (known new) → Among n (known old) ⊎ (n ≡ number)) → IsIndexed longer new
    indexed_more still here only = record {
      all = each_of_members (IsListedAt longer (clauses new)) (known new) (λ n there. elim (only n there) [
        | inl was ↦ stays_listed listing longer (clause_at (clauses new) number) number under (clause_at (clauses new) n) n (listed_still n was)
        | inr e ↦ subst (IsListedAt longer (clauses new)) (sym e) (is_listed listing longer (clause_at (clauses new) number) number under)
      ]);
      named = λ place n there. elim (listed_either listing longer under.place number under.lists place n there) [
        | inl h ↦ longer_still old new grows n (indexed.named place n h)
        | inr e ↦ subst (λ (m : ℕ). m < length (clauses new)) (sym e) below
      ];
      right = λ place n there. elim (listed_either listing longer under.place number under.lists place n there) [
        | inl h ↦ elim (indexed.right place n h) [
          | inl k ↦ inl (still n k)
          | inr k ↦ inr (needless_later n (indexed.named place n h) k)
        ]
        | inr e ↦ inl (subst (λ (m : ℕ). Among m (known new)) (sym e) here)
      ];
    }

-- the clause of the last step
pub grown_clause : (r : Reached) (conclusion : Conclusion) → length r.steps ≡ length (clauses r)
    → clause_at (clauses (grown r conclusion)) (length r.steps) ≡ conclusion.clause
grown_clause r conclusion counted =
    ap (λ (o : Option Literals). list_from o (λ clause. clause))
    (ap (nth (clauses (grown r conclusion))) counted ∙ ap (λ (xs : List Literals). nth xs (length (clauses r))) (clauses_grown r conclusion)
    ∙ nth-last (clauses r) conclusion.clause)

module _ (listing : Listing) (r : Reached) (conclusion : Conclusion) (indexed : IsIndexed listing r) where
  grown_grows : Grows r (grown r conclusion)
  grown_grows = record { inputs = refl; more = conclusion.clause ∷ []; longer = clauses_grown r conclusion }

  pub indexed_grown_alone : IsIndexed listing (grown r conclusion)
  indexed_grown_alone = indexed_same listing r (grown r conclusion) indexed grown_grows refl (λ n h. h) (λ n h. h)

  module _ (longer : Listing) (counted : length r.steps ≡ length (clauses r)) (under : IsListedUnderOne listing longer conclusion.clause (length r.steps)) where
    last_below : length r.steps < length (clauses (grown r conclusion))
    last_below =
        let more = ap length (clauses_grown r conclusion) in
        let parts = length-append (clauses r) (conclusion.clause ∷ []) in
        omega (arith, more, parts, counted)

    last_listed : IsListedUnderOne listing longer (clause_at (clauses (grown r conclusion)) (length r.steps)) (length r.steps)
    last_listed = subst (λ (c : Literals). IsListedUnderOne listing longer c (length r.steps)) (sym (grown_clause r conclusion counted)) under

    -- a number at the end of a list
    ended : (numbers : List ℕ) (n : ℕ) → Among n (numbers ++ length r.steps ∷ []) → Among n numbers ⊎ (n ≡ length r.steps)
    ended numbers n there = elim (among-parted n numbers (length r.steps ∷ []) there) [
      | inl h ↦ inl h
      | inr h ↦ elim h [ inl e ↦ inr e | inr k ↦ absurd k ]
    ]

    at_end : (numbers : List ℕ) → Among (length r.steps) (numbers ++ length r.steps ∷ [])
    at_end numbers = among-right (length r.steps) numbers (length r.steps ∷ []) (inl refl)

    pub indexed_waits : IsIndexed longer (with_waiting (grown r conclusion) (r.waiting ++ length r.steps ∷ []))
    indexed_waits =
        let new = with_waiting (grown r conclusion) (r.waiting ++ length r.steps ∷ []) in
        indexed_more listing r new indexed (record { inputs = refl; more = conclusion.clause ∷ []; longer = clauses_grown r conclusion }) refl longer (length r.steps) last_below last_listed
        (λ n there. known_joined new n (elim (known_parts r n there) [
          | inl h ↦ inl h
          | inr h ↦ elim h [
            | inl k ↦ inr (inl (among-left n r.waiting (length r.steps ∷ []) k))
            | inr k ↦ inr (inr k)
          ]
        ]))
        (known_joined new (length r.steps) (inr (inl (at_end r.waiting))))
        (λ n there. elim (known_parts new n there) [
          | inl h ↦ inl (known_joined r n (inl h))
          | inr h ↦ elim h [
            | inl k ↦ elim (ended r.waiting n k) [ inl was ↦ inl (known_joined r n (inr (inl was))) | inr e ↦ inr e ]
            | inr k ↦ inl (known_joined r n (inr (inr k)))
          ]
        ])

    pub indexed_aside : IsIndexed longer (with_aside (grown r conclusion) (r.aside ++ length r.steps ∷ []))
    indexed_aside =
        let new = with_aside (grown r conclusion) (r.aside ++ length r.steps ∷ []) in
        indexed_more listing r new indexed (record { inputs = refl; more = conclusion.clause ∷ []; longer = clauses_grown r conclusion }) refl longer (length r.steps) last_below last_listed
        (λ n there. known_joined new n (elim (known_parts r n there) [
          | inl h ↦ inl h
          | inr h ↦ elim h [
            | inl k ↦ inr (inl k)
            | inr k ↦ elim k [
              | inl j ↦ inr (inr (inl (among-left n r.aside (length r.steps ∷ []) j)))
              | inr j ↦ inr (inr (inr j))
            ]
          ]
        ]))
        (known_joined new (length r.steps) (inr (inr (inl (at_end r.aside)))))
        (λ n there. elim (known_parts new n there) [
          | inl h ↦ inl (known_joined r n (inl h))
          | inr h ↦ elim h [
            | inl k ↦ inl (known_joined r n (inr (inl k)))
            | inr k ↦ elim k [
              | inl j ↦ elim (ended r.aside n j) [ inl was ↦ inl (known_joined r n (inr (inr (inl was)))) | inr e ↦ inr e ]
              | inr j ↦ inl (known_joined r n (inr (inr (inr j))))
            ]
          ]
        ])

    pub indexed_found : IsIndexed longer (with_found (grown r conclusion) (r.found ++ length r.steps ∷ []))
    indexed_found =
        let new = with_found (grown r conclusion) (r.found ++ length r.steps ∷ []) in
        indexed_more listing r new indexed (record { inputs = refl; more = conclusion.clause ∷ []; longer = clauses_grown r conclusion }) refl longer (length r.steps) last_below last_listed
        (λ n there. known_joined new n (elim (known_parts r n there) [
          | inl h ↦ inl h
          | inr h ↦ elim h [
            | inl k ↦ inr (inl k)
            | inr k ↦ elim k [
              | inl j ↦ inr (inr (inl j))
              | inr j ↦ inr (inr (inr (among-left n r.found (length r.steps ∷ []) j)))
            ]
          ]
        ]))
        (known_joined new (length r.steps) (inr (inr (inr (at_end r.found)))))
        (λ n there. elim (known_parts new n there) [
          | inl h ↦ inl (known_joined r n (inl h))
          | inr h ↦ elim h [
            | inl k ↦ inl (known_joined r n (inr (inl k)))
            | inr k ↦ elim k [
              | inl j ↦ inl (known_joined r n (inr (inr (inl j))))
              | inr j ↦ elim (ended r.found n j) [ inl was ↦ inl (known_joined r n (inr (inr (inr was)))) | inr e ↦ inr e ]
            ]
          ]
        ])

-- ---- the given clause

module _ (listing : Listing) (r : Reached) (given : ℕ) (indexed : IsIndexed listing r) where
  -- it waits no longer, and is known no longer
  taken_known : (n : ℕ) → Among n (known (taken r given)) → Among n (known r)
  taken_known n there = elim (known_parts (taken r given) n there) [
    | inl h ↦ known_joined r n (inl h)
    | inr h ↦ elim h [
      | inl k ↦ known_joined r n (inr (inl (among_filtered (λ other. not (nat_eq given other)) r.waiting n k).among))
      | inr k ↦ known_joined r n (inr (inr k))
    ]
  ]

  known_taken : (n : ℕ) → Among n (known r) → (n ≡ given) ⊎ Among n (known (taken r given))
  known_taken n there = elim (known_parts r n there) [
    | inl h ↦ inr (known_joined (taken r given) n (inl h))
    | inr h ↦ elim h [
      | inl k ↦ elim (among_without given n r.waiting k) [
        | inl e ↦ inl e
        | inr j ↦ inr (known_joined (taken r given) n (inr (inl j)))
      ]
      | inr k ↦ inr (known_joined (taken r given) n (inr (inr k)))
    ]
  ]

  pub indexed_dropped : IsNeedless (clauses r) r.processed (clause_at (clauses r) given) → IsIndexed listing (taken r given)
  indexed_dropped needless = record {
    all = each_of_members (IsListedAt listing (clauses r)) (known (taken r given)) (λ n there.
        each_at (IsListedAt listing (clauses r)) (known r) n (taken_known n there) indexed.all);
    named = indexed.named;
    right = λ place n there. elim (indexed.right place n there) [
      | inl h ↦ elim (known_taken n h) [
        | inl e ↦ inr (subst (λ (m : ℕ). IsNeedless (clauses r) r.processed (clause_at (clauses r) m)) (sym e) needless)
        | inr k ↦ inl k
      ]
      | inr h ↦ inr h
    ];
  }

  -- it is processed, last in the order
  module _ (waits : Among given r.waiting) where
    processed_known : (n : ℕ) → Among n (known (given_processed r given)) → Among n (known r)
    processed_known n there = elim (known_parts (given_processed r given) n there) [
      | inl h ↦ elim (among-parted n r.processed (given ∷ []) h) [
        | inl k ↦ known_joined r n (inl k)
        | inr k ↦ elim k [
          | inl e ↦ known_joined r n (inr (inl (subst (λ (m : ℕ). Among m r.waiting) (sym e) waits)))
          | inr j ↦ absurd j
        ]
      ]
      | inr h ↦ elim h [
        | inl k ↦ known_joined r n (inr (inl (among_filtered (λ other. not (nat_eq given other)) r.waiting n k).among))
        | inr k ↦ known_joined r n (inr (inr k))
      ]
    ]

    known_processed : (n : ℕ) → Among n (known r) → Among n (known (given_processed r given))
    known_processed n there = elim (known_parts r n there) [
      | inl h ↦ known_joined (given_processed r given) n (inl (among-left n r.processed (given ∷ []) h))
      | inr h ↦ elim h [
        | inl k ↦ elim (among_without given n r.waiting k) [
          | inl e ↦ known_joined (given_processed r given) n (inl (among-right n r.processed (given ∷ []) (inl e)))
          | inr j ↦ known_joined (given_processed r given) n (inr (inl j))
        ]
        | inr k ↦ known_joined (given_processed r given) n (inr (inr k))
      ]
    ]

    pub indexed_processed : IsIndexed listing (given_processed r given)
    indexed_processed = record {
      all = each_of_members (IsListedAt listing (clauses r)) (known (given_processed r given)) (λ n there.
          each_at (IsListedAt listing (clauses r)) (known r) n (processed_known n there) indexed.all);
      named = indexed.named;
      right = λ place n there. elim (indexed.right place n there) [
        | inl h ↦ inl (known_processed n h)
        | inr h ↦
            inr (needless_still r (given_processed r given) (grows_same r (given_processed r given) refl refl) r.processed (r.processed ++ given ∷ [])
            (λ m. among-left m r.processed (given ∷ [])) (clause_at (clauses r) n) h)
      ];
    }

-- ---- the beginning

pub input_at : (inputs : List InputClause) (number : ℕ) (input : InputClause) → nth inputs number ≡ Some input → clause_at (clauses_of inputs) number ≡ input.clause
input_at [] number input at = absurd (none_some input at)
input_at (first ∷ inputs) zero input at = ap (λ (i : InputClause). i.clause) (some_same first input at)
input_at (first ∷ inputs) (suc number) input at = input_at inputs number input at

among_numbers : (first count n : ℕ) → n < count → Among (first + n) (numbers_from first count)
among_numbers first zero n below = absurd (omega arith)
among_numbers first (suc count) zero below = let e : first + 0 ≡ first = omega arith in inl e
among_numbers first (suc count) (suc n) below =
    let e : first + 1 + n ≡ first + suc n = omega arith in
    inr (subst (λ (m : ℕ). Among m (numbers_from (first + 1) count)) e (among_numbers (first + 1) count n (omega arith)))

among_inputs : (inputs : List InputClause) (n : ℕ) → n < length inputs → Among n (numbers_of inputs)
among_inputs inputs n below = let e : 0 + n ≡ n = omega arith in subst (λ (m : ℕ). Among m (numbers_of inputs)) e (among_numbers 0 (length inputs) n below)

begun_below : (inputs : List InputClause) (mode : Mode) (n : ℕ) → Among n (known (beginning inputs mode)) → n < length (clauses (beginning inputs mode))
begun_below inputs mode n there =
    names_known inputs (beginning inputs mode) (stands_beginning inputs mode) n (known_parts (beginning inputs mode) n there)

-- each input is processed or waits
known_begun : (inputs : List InputClause) (mode : Mode) (n : ℕ) → n < length inputs → Among n (known (beginning inputs mode))
known_begun inputs Full n below = known_joined (beginning inputs Full) n (inr (inl (among_inputs inputs n below)))
known_begun inputs Support n below = go (is_query_number inputs n) refl
  where
    go : (b : Bool) → is_query_number inputs n ≡ b → Among n (known (beginning inputs Support))
    go true e =
        known_joined (beginning inputs Support) n
        (inr (inl (among-filter (λ number. same_sign true (is_query_number inputs number)) n (ap (same_sign true) e) (numbers_of inputs) (among_inputs inputs n below))))
    go false e =
        known_joined (beginning inputs Support) n
        (inl (among-filter (λ number. same_sign false (is_query_number inputs number)) n (ap (same_sign false) e) (numbers_of inputs) (among_inputs inputs n below)))

module _ (inputs : List InputClause) where
  pub input_listed : (old new : Listing) (number : ℕ) (input : InputClause) → AreListed inputs old number → nth inputs number ≡ Some input
      → IsListedUnderOne old new input.clause number → AreListed inputs new (number + 1)
  input_listed old new number input listed at under =
      let is : clause_at (clauses_of inputs) number ≡ input.clause = input_at inputs number input at in
      record {
        all = λ n below. elim (eqb_tells n number) [
          | inl h ↦
              subst (IsListedAt new (clauses_of inputs)) (sym h.1)
              (subst (λ (c : Literals). IsListedBy new c number) (sym is) (is_listed old new input.clause number under))
          | inr h ↦
              let less : n < number = omega (arith, h.1) in
              stays_listed old new input.clause number under (clause_at (clauses_of inputs) n) n (listed.all n less)
        ];
        named = λ other n there. elim (listed_either old new under.place number under.lists other n there) [
          | inl h ↦ let below = listed.named other n h in omega arith
          | inr e ↦ omega arith
        ];
      }

  pub indexed_begun : (listing : Listing) (mode : Mode) → AreListed inputs listing (length inputs) → IsIndexed listing (beginning inputs mode)
  indexed_begun listing mode listed =
      let r = beginning inputs mode in
      let whole : clauses r ≡ clauses_of inputs = append-nil (clauses_of inputs) in
      let many : length (clauses r) ≡ length inputs = ap length whole ∙ length-map inputs (λ (input : InputClause). input.clause) in
      record {
        all = each_of_members (IsListedAt listing (clauses r)) (known r) (λ n there.
            let below = begun_below inputs mode n there in
            subst (λ (all : List Literals). IsListedAt listing all n) (sym whole) (listed.all n (omega (arith, below, many))));
        named = λ place n there. let below = listed.named place n there in omega (arith, below, many);
        right = λ place n there. inl (known_begun inputs mode n (listed.named place n there));
      }
