-- What is so of each standing of a search, and how to show more: by what the beginning, a turn's begin and each coming clause keep.
use Rattle.std.proofs.Common.{◌≡◌, ◌⊎◌, inl, inr, ◌<◌, ◌≤◌, ℕ, zero, suc, ◌+◌, nat_eq, List, [], ◌∷◌, ◌++◌, map, length, append_assoc, Bool, true, false, not, MatchBool, MatchOption, Option, Some, None, refl, sym, ap, ◌∙◌, subst, arith}
use Rattle.std.proofs.lemmas.List.{length-append, length-map, append-nil}
use Rattle.sigma_base.specs.Lists.{Each, each_append, each_map, each_filter}
use Rattle.kif_tree.specs.declared.clause.InputClause.{InputClause}
use Rattle.kif_tree.specs.Clauses.{Literals, same_sign}
use Rattle.calculus.specs.declared.step.Step.{Step}
use Rattle.calculus.specs.Rules.{nth}
use Rattle.calculus.specs.Evidence.{list_from}
use Rattle.calculus.specs.Answers.{Among}
use Rattle.calculus.proofs.PlaceLaws.{none_some}
use Rattle.calculus.proofs.MemberLaws.{each_at}
use Rattle.infer.specs.declared.conclusion.Conclusion.{Conclusion}
use Rattle.infer.specs.Checks.{clauses_of}
use Rattle.infer.specs.Conclusions.{clause_at, AreConclusions, AreFactors}
use Rattle.infer.specs.Plain.{IsPlainConclusion}
use Rattle.saturate.specs.declared.arrival.Arrival.{Arrival}
use Rattle.saturate.specs.declared.arrival.Arrival.TheVariants as arrival
use Rattle.saturate.specs.declared.ended.Ended.{Ended}
use Rattle.saturate.specs.declared.limits.Limits.{Limits}
use Rattle.saturate.specs.declared.limits.Mode.{Mode}
use Rattle.saturate.specs.declared.limits.Mode.TheVariants.{Support, Full}
use Rattle.saturate.specs.declared.reached.Reached.{Reached}
use Rattle.saturate.specs.Inputs.{is_query_number}
use Rattle.saturate.specs.Runs.{clauses, numbers_from, numbers_of, numbers_where, first_processed, first_waiting, beginning, IsArrival, grown, arrived, end_with, Comes, Way, Stays, Then, Come, renumbered, Factors, Meets, MeetsEach, IsOldest, IsLightest, is_fifth, IsGiven, taken, given_processed, IsDropped, Drops, Works, Turn, Ran, IsRest, Runs}

-- ---- items of longer lists

pub nth-append : {X : Type 0} (xs ys : List X) (n : ℕ) → n < length xs → nth (xs ++ ys) n ≡ nth xs n
nth-append [] ys n h = absurd (omega arith)
nth-append (x ∷ xs) ys zero h = refl
nth-append (x ∷ xs) ys (suc n) h = nth-append xs ys n (omega arith)

pub nth-last : {X : Type 0} (xs : List X) (x : X) → nth (xs ++ x ∷ []) (length xs) ≡ Some x
nth-last [] x = refl
nth-last (y ∷ xs) x = nth-last xs x

-- an item of a list stands at a number below its length
pub nth_below : {X : Type 0} (xs : List X) (n : ℕ) (x : X) → nth xs n ≡ Some x → n < length xs
nth_below [] n x e = absurd (none_some x e)
nth_below (y ∷ xs) zero x e = omega arith
nth_below (y ∷ xs) (suc n) x e = let below = nth_below xs n x e in omega (arith, below)

pub record IsThereAt {X : Type 0} (xs : List X) (n : ℕ) : Type 0 where
  pub item : X
  pub at : nth xs n ≡ Some item

pub there_below : {X : Type 0} (xs : List X) (n : ℕ) → n < length xs → IsThereAt xs n
there_below [] n h = absurd (omega arith)
there_below (x ∷ xs) zero h = record { item = x; at = refl }
there_below (x ∷ xs) (suc n) h = let rest = there_below xs n (omega arith) in record { item = rest.item; at = rest.at }

pub nth_clause_at : (list : List Literals) (n : ℕ) → n < length list → nth list n ≡ Some (clause_at list n)
nth_clause_at list n below =
    let there = there_below list n below in
    there.at ∙ ap (λ (o : Option Literals). Some (list_from o (λ clause. clause))) (sym there.at)

-- ---- what a coming clause changes

-- the clauses that it adds
abbrev pub added : Conclusion → Arrival → List Literals
added conclusion arrival.Contradiction = conclusion.clause ∷ []
added conclusion arrival.Dropped = []
added conclusion arrival.Found = conclusion.clause ∷ []
added conclusion arrival.Aside = conclusion.clause ∷ []
added conclusion arrival.Waits = conclusion.clause ∷ []

pub clauses_grown : (r : Reached) (conclusion : Conclusion) → clauses (grown r conclusion) ≡ clauses r ++ conclusion.clause ∷ []
clauses_grown r conclusion = sym (append_assoc (clauses_of r.inputs) r.derived (conclusion.clause ∷ []))

pub clauses_arrived : (r : Reached) (conclusion : Conclusion) (a : Arrival) → clauses (arrived r conclusion a) ≡ clauses r ++ added conclusion a
clauses_arrived r conclusion arrival.Contradiction = clauses_grown r conclusion
clauses_arrived r conclusion arrival.Dropped = sym (append-nil (clauses r))
clauses_arrived r conclusion arrival.Found = clauses_grown r conclusion
clauses_arrived r conclusion arrival.Aside = clauses_grown r conclusion
clauses_arrived r conclusion arrival.Waits = clauses_grown r conclusion

pub longer_arrived : (r : Reached) (conclusion : Conclusion) (a : Arrival) → length (clauses r) ≤ length (clauses (arrived r conclusion a))
longer_arrived r conclusion a =
    let one = ap length (clauses_arrived r conclusion a) ∙ length-append (clauses r) (added conclusion a) in
    omega (arith, one)

pub length_grown : (r : Reached) (conclusion : Conclusion) → length (clauses (grown r conclusion)) ≡ length (clauses r) + 1
length_grown r conclusion = ap length (clauses_grown r conclusion) ∙ length-append (clauses r) (conclusion.clause ∷ [])

-- an earlier clause stays
pub nth_arrived : (r : Reached) (conclusion : Conclusion) (a : Arrival) (n : ℕ) → n < length (clauses r)
    → nth (clauses (arrived r conclusion a)) n ≡ nth (clauses r) n
nth_arrived r conclusion a n below =
    ap (λ (list : List Literals). nth list n) (clauses_arrived r conclusion a) ∙ nth-append (clauses r) (added conclusion a) n below

pub clause_at_arrived : (r : Reached) (conclusion : Conclusion) (a : Arrival) (n : ℕ) → n < length (clauses r)
    → clause_at (clauses (arrived r conclusion a)) n ≡ clause_at (clauses r) n
clause_at_arrived r conclusion a n below =
    ap (λ (o : Option Literals). list_from o (λ clause. clause)) (nth_arrived r conclusion a n below)

-- ---- what is so of each standing

-- it has as many steps as clauses, and its numbers name clauses
abbrev pub IsNumber : Reached → ℕ → Type 0
IsNumber r number = number < length (clauses r)

pub record Stands (inputs : List InputClause) (r : Reached) : Type 0 where
  pub stay : r.inputs ≡ inputs
  pub counted : length r.steps ≡ length (clauses r)
  pub processed : Each (IsNumber r) r.processed
  pub waiting : Each (IsNumber r) r.waiting
  pub aside : Each (IsNumber r) r.aside
  pub found : Each (IsNumber r) r.found

pub length-numbers : (first count : ℕ) → length (numbers_from first count) ≡ count
length-numbers first zero = refl
length-numbers first (suc count) = let rest = length-numbers (first + 1) count in omega (arith, rest)

numbers_below : (first count bound : ℕ) → first + count ≤ bound → Each (λ number. number < bound) (numbers_from first count)
numbers_below first zero bound h = tt
numbers_below first (suc count) bound h = (omega (arith, h), numbers_below (first + 1) count bound (omega (arith, h)))

pub stands_beginning : (inputs : List InputClause) (mode : Mode) → Stands inputs (beginning inputs mode)
stands_beginning inputs mode = record {
  stay = refl;
  counted = length-map (numbers_of inputs) Step.Input ∙ length-numbers 0 (length inputs) ∙ sym many;
  processed = first_ones mode;
  waiting = second_ones mode;
  aside = tt;
  found = tt;
}
  where
    many : length (clauses_of inputs ++ []) ≡ length inputs
    many = ap length (append-nil (clauses_of inputs)) ∙ length-map inputs (λ (input : InputClause). input.clause)

    all : Each (λ number. number < length (clauses_of inputs ++ [])) (numbers_of inputs)
    all = numbers_below 0 (length inputs) (length (clauses_of inputs ++ [])) (omega (arith, many))

    some_where : (of_query : Bool) → Each (λ number. number < length (clauses_of inputs ++ [])) (numbers_where of_query inputs)
    some_where of_query =
        each_filter (λ number. number < length (clauses_of inputs ++ [])) (λ number. same_sign of_query (is_query_number inputs number)) (numbers_of inputs) all

    first_ones : (m : Mode) → Each (λ number. number < length (clauses_of inputs ++ [])) (first_processed inputs m)
    first_ones Support = some_where false
    first_ones Full = tt

    second_ones : (m : Mode) → Each (λ number. number < length (clauses_of inputs ++ [])) (first_waiting inputs m)
    second_ones Support = some_where true
    second_ones Full = all

module _ (inputs : List InputClause) (r : Reached) (stands : Stands inputs r) where
  pub stands_taken : (number : ℕ) → Stands inputs (taken r number)
  stands_taken number = record {
    stay = stands.stay;
    counted = stands.counted;
    processed = stands.processed;
    waiting = each_filter (IsNumber r) (λ other. not (nat_eq number other)) r.waiting stands.waiting;
    aside = stands.aside;
    found = stands.found;
  }

  pub stands_processed : (number : ℕ) → Among number r.waiting → Stands inputs (given_processed r number)
  stands_processed number waits = record {
    stay = stands.stay;
    counted = stands.counted;
    processed = each_append (IsNumber r) r.processed (number ∷ []) stands.processed (each_at (IsNumber r) r.waiting number waits stands.waiting, tt);
    waiting = (stands_taken number).waiting;
    aside = stands.aside;
    found = stands.found;
  }

  module _ (conclusion : Conclusion) where
    later : (numbers : List ℕ) → Each (IsNumber r) numbers → Each (IsNumber (grown r conclusion)) numbers
    later numbers = each_map (IsNumber r) (IsNumber (grown r conclusion)) (λ n below. let one = length_grown r conclusion in omega (arith, one, below)) numbers

    one_more : (numbers : List ℕ) → Each (IsNumber r) numbers → Each (IsNumber (grown r conclusion)) (numbers ++ length r.steps ∷ [])
    one_more numbers each =
        each_append (IsNumber (grown r conclusion)) numbers (length r.steps ∷ []) (later numbers each)
        ((let one = length_grown r conclusion in let same = stands.counted in omega (arith, one, same)), tt)

    counted_grown : length (r.steps ++ conclusion.step ∷ []) ≡ length (clauses (grown r conclusion))
    counted_grown = length-append r.steps (conclusion.step ∷ []) ∙ ap (λ (n : ℕ). n + 1) stands.counted ∙ sym (length_grown r conclusion)

    pub stands_arrived : (a : Arrival) → Stands inputs (arrived r conclusion a)
    stands_arrived arrival.Contradiction = record {
      stay = stands.stay;
      counted = counted_grown;
      processed = later r.processed stands.processed;
      waiting = later r.waiting stands.waiting;
      aside = later r.aside stands.aside;
      found = later r.found stands.found;
    }
    stands_arrived arrival.Dropped = stands
    stands_arrived arrival.Found = record {
      stay = stands.stay;
      counted = counted_grown;
      processed = later r.processed stands.processed;
      waiting = later r.waiting stands.waiting;
      aside = later r.aside stands.aside;
      found = one_more r.found stands.found;
    }
    stands_arrived arrival.Aside = record {
      stay = stands.stay;
      counted = counted_grown;
      processed = later r.processed stands.processed;
      waiting = later r.waiting stands.waiting;
      aside = one_more r.aside stands.aside;
      found = later r.found stands.found;
    }
    stands_arrived arrival.Waits = record {
      stay = stands.stay;
      counted = counted_grown;
      processed = later r.processed stands.processed;
      waiting = one_more r.waiting stands.waiting;
      aside = later r.aside stands.aside;
      found = later r.found stands.found;
    }

-- ---- where a conclusion comes from

-- the conclusions of the two, or the factors of one
abbrev pub AreListed : Literals → Literals → ℕ → ℕ → List Conclusion → Type 0
AreListed first second given partner list = AreConclusions first second (nat_eq given partner) list ⊎ (AreFactors first list × (partner ≡ given))

pub record Parents (r : Reached) (given partner : ℕ) (list : List Conclusion) : Type 0 where
  pub given_below : given < length (clauses r)
  pub partner_below : partner < length (clauses r)
  pub are : AreListed (clause_at (clauses r) given) (clause_at (clauses r) partner) given partner list
  pub plain : Each IsPlainConclusion list

pub parents_arrived : (r : Reached) (conclusion : Conclusion) (a : Arrival) (given partner : ℕ) (list : List Conclusion)
    → Parents r given partner list → Parents (arrived r conclusion a) given partner list
parents_arrived r conclusion a given partner list parents =
    let longer = longer_arrived r conclusion a in
    let new = clauses (arrived r conclusion a) in
    let given_below : given < length (clauses r) = parents.given_below in
    let partner_below : partner < length (clauses r) = parents.partner_below in
    record {
      given_below = omega (arith, longer, given_below);
      partner_below = omega (arith, longer, partner_below);
      are = subst (λ (second : Literals). AreListed (clause_at new given) second given partner list) (sym (clause_at_arrived r conclusion a partner parents.partner_below))
          (subst (λ (first : Literals). AreListed first (clause_at (clauses r) partner) given partner list) (sym (clause_at_arrived r conclusion a given parents.given_below)) parents.are);
      plain = parents.plain;
    }

-- ---- what leads on

-- where the search goes on, and where it ends
abbrev pub Leads : (Reached → Type 0) → (Ended → Reached → Type 0) → Reached → Option Ended → Type 0
Leads P E r end = MatchOption end (P r) (λ (ending : Ended). E ending r)

then_leads : (First Second : Way) (P M N : Reached → Type 0) (E : Ended → Reached → Type 0)
    → ((old new : Reached) (end : Option Ended) → P old → First old new end → Leads M E new end)
    → ((old new : Reached) (end : Option Ended) → M old → Second old new end → Leads N E new end)
    → (old new : Reached) (end : Option Ended) → P old → Then First Second old new end → Leads N E new end
then_leads First Second P M N E first second old new end holds both =
    go both.stop (first old both.middle both.stop holds both.first) both.second
  where
    go : (stop : Option Ended) → Leads M E both.middle stop
        → MatchOption stop (Second both.middle new end) (λ (ending : Ended). (new ≡ both.middle) × (end ≡ Some ending)) → Leads N E new end
    go None there more = second both.middle new end there more
    go (Some ending) there same =
        subst (λ (e : Option Ended). Leads N E new e) (sym same.1) (subst (λ (r : Reached). E ending r) (sym same.0) there)

stays_leads : (P : Reached → Type 0) (E : Ended → Reached → Type 0) (old new : Reached) (end : Option Ended) → P old → Stays old new end → Leads P E new end
stays_leads P E old new end holds stays =
    subst (λ (e : Option Ended). Leads P E new e) (sym stays.1) (subst P (sym stays.0) holds)

-- What holds of a standing between turns (P), inside the turn of a given clause (Q), and where the search ends inside a turn (E).
pub record Keeps (inputs : List InputClause) (limits : Limits) (P : Reached → Type 0) (Q : ℕ → Reached → Type 0) (E : Ended → Reached → Type 0) : Type 0 where
  pub begins : P (beginning inputs limits.mode)
  pub drops : (r : Reached) (given : ℕ) → Stands inputs r → P r → Among given r.waiting → IsDropped r given → P (taken r given)
  pub gives : (r : Reached) (given : ℕ) → Stands inputs r → P r → Among given r.waiting → Q given (given_processed r given)
  pub comes : (r : Reached) (given partner : ℕ) (list : List Conclusion) (conclusion : Conclusion) (a : Arrival)
      → Stands inputs r → Q given r → Parents r given partner list → Among conclusion list → IsArrival r conclusion.clause a
      → Leads (Q given) E (arrived r (renumbered given partner conclusion) a) (end_with limits (arrived r (renumbered given partner conclusion) a) a)
  pub closes : (r : Reached) (given : ℕ) → Q given r → P r

module _ (inputs : List InputClause) (limits : Limits) (P : Reached → Type 0) (Q : ℕ → Reached → Type 0) (E : Ended → Reached → Type 0)
    (keeps : Keeps inputs limits P Q E) where
  -- inside a turn, with at least so many clauses
  record Works_on (given bound : ℕ) (r : Reached) : Type 0 where
    stands : Stands inputs r
    reaches : bound ≤ length (clauses r)
    holds : Q given r

  record Lists (given bound partner : ℕ) (list : List Conclusion) (r : Reached) : Type 0 where
    works : Works_on given bound r
    parents : Parents r given partner list

  module _ (given bound partner : ℕ) (list : List Conclusion) where
    comes_leads : (conclusion : Conclusion) → Among conclusion list → (old new : Reached) (end : Option Ended) → Lists given bound partner list old
        → Comes limits (renumbered given partner conclusion) old new end → Leads (Lists given bound partner list) E new end
    comes_leads conclusion among old new end at come =
        let c = renumbered given partner conclusion in
        subst (λ (e : Option Ended). Leads (Lists given bound partner list) E new e) (sym come.ends)
        (subst (λ (r : Reached). Leads (Lists given bound partner list) E r (end_with limits r come.arrival)) (sym come.reached)
        (go (end_with limits (arrived old c come.arrival) come.arrival)
        (keeps.comes old given partner list conclusion come.arrival at.works.stands at.works.holds at.parents among come.is)))
      where
        go : (e : Option Ended) → Leads (Q given) E (arrived old (renumbered given partner conclusion) come.arrival) e
            → Leads (Lists given bound partner list) E (arrived old (renumbered given partner conclusion) come.arrival) e
        go None holds =
            let longer = longer_arrived old (renumbered given partner conclusion) come.arrival in
            let reaches : bound ≤ length (clauses old) = at.works.reaches in
            record {
              works = record {
                stands = stands_arrived inputs old at.works.stands (renumbered given partner conclusion) come.arrival;
                reaches = omega (arith, longer, reaches);
                holds = holds;
              };
              parents = parents_arrived old (renumbered given partner conclusion) come.arrival given partner list at.parents;
            }
        go (Some ending) holds = holds

    come_leads : (rest : List Conclusion) → ((conclusion : Conclusion) → Among conclusion rest → Among conclusion list) → (old new : Reached) (end : Option Ended)
        → Lists given bound partner list old → Come limits (map (renumbered given partner) rest) old new end → Leads (Lists given bound partner list) E new end
    come_leads [] among old new end at come = stays_leads (Lists given bound partner list) E old new end at come
    come_leads (conclusion ∷ rest) among old new end at come =
        then_leads (Comes limits (renumbered given partner conclusion)) (Come limits (map (renumbered given partner) rest))
        (Lists given bound partner list) (Lists given bound partner list) (Lists given bound partner list) E
        (comes_leads conclusion (among conclusion (inl refl)))
        (come_leads rest (λ other there. among other (inr there)))
        old new end at come

    listed_leads : (old new : Reached) (end : Option Ended) → Works_on given bound old → Parents old given partner list
        → Come limits (map (renumbered given partner) list) old new end → Leads (Works_on given bound) E new end
    listed_leads old new end works parents come =
        go end (come_leads list (λ conclusion there. there) old new end (record { works = works; parents = parents }) come)
      where
        go : (e : Option Ended) → Leads (Lists given bound partner list) E new e → Leads (Works_on given bound) E new e
        go None at = at.works
        go (Some ending) at = at

  module _ (given bound : ℕ) (given_below : given < bound) where
    below_all : (r : Reached) (number : ℕ) → Works_on given bound r → number < bound → number < length (clauses r)
    below_all r number works less = let reaches : bound ≤ length (clauses r) = works.reaches in omega (arith, reaches, less)

    factors_lead : (old new : Reached) (end : Option Ended) → Works_on given bound old → Factors limits given old new end → Leads (Works_on given bound) E new end
    factors_lead old new end works factors =
        listed_leads given bound given factors.list old new end works
        (record { given_below = below_all old given works given_below; partner_below = below_all old given works given_below; are = inr (factors.are, refl); plain = factors.plain })
        factors.come

    meets_lead : (partner : ℕ) → partner < bound → (old new : Reached) (end : Option Ended) → Works_on given bound old → Meets limits given partner old new end
        → Leads (Works_on given bound) E new end
    meets_lead partner less old new end works meets =
        listed_leads given bound partner meets.list old new end works
        (record { given_below = below_all old given works given_below; partner_below = below_all old partner works less; are = inl meets.are; plain = meets.plain })
        meets.come

    meets_each_lead : (partners : List ℕ) → Each (λ partner. partner < bound) partners → (old new : Reached) (end : Option Ended) → Works_on given bound old
        → MeetsEach limits given partners old new end → Leads (Works_on given bound) E new end
    meets_each_lead [] below old new end works stays = stays_leads (Works_on given bound) E old new end works stays
    meets_each_lead (partner ∷ partners) below old new end works meets =
        then_leads (Meets limits given partner) (MeetsEach limits given partners) (Works_on given bound) (Works_on given bound) (Works_on given bound) E
        (meets_lead partner below.0) (meets_each_lead partners below.1) old new end works meets

  -- between turns
  pub record Between (r : Reached) : Type 0 where
    pub stands : Stands inputs r
    pub holds : P r

  is_waiting : (r : Reached) (turn number : ℕ) → IsGiven r turn number → Among number r.waiting
  is_waiting r turn number given = go (is_fifth turn) given
    where
      go : (fifth : Bool) → MatchBool fifth (IsOldest r number) (IsLightest r number) → Among number r.waiting
      go true first = first.among
      go false first = first.among

  turn_leads : (turn : ℕ) (old new : Reached) (end : Option Ended) → Between old → Turn limits turn old new end → Leads Between E new end
  turn_leads turn old new end between takes = go takes.goes
    where
      waits : Among takes.given old.waiting
      waits = is_waiting old turn takes.given takes.is_given

      stands : Stands inputs (given_processed old takes.given)
      stands = stands_processed inputs old between.stands takes.given waits

      over : (e : Option Ended) → Leads (Works_on takes.given (length (clauses old))) E new e → Leads Between E new e
      over None works = record { stands = works.stands; holds = keeps.closes new takes.given works.holds }
      over (Some ending) works = works

      go : Drops takes.given old new end ⊎ Works limits takes.given old new end → Leads Between E new end
      go (inl drops) =
          subst (λ (e : Option Ended). Leads Between E new e) (sym drops.goes_on)
          (subst Between (sym drops.reached) (record {
            stands = stands_taken inputs old between.stands takes.given;
            holds = keeps.drops old takes.given between.stands between.holds waits drops.drops;
          }))
      go (inr works) =
          let bound = length (clauses old) in
          let below : takes.given < bound = each_at (IsNumber old) old.waiting takes.given waits between.stands.waiting in
          over end
          (then_leads (Factors limits takes.given) (MeetsEach limits takes.given (old.processed ++ takes.given ∷ []))
          (Works_on takes.given bound) (Works_on takes.given bound) (Works_on takes.given bound) E
          (factors_lead takes.given bound below)
          (meets_each_lead takes.given bound below (old.processed ++ takes.given ∷ []) stands.processed)
          (given_processed old takes.given) new end
          (record { stands = stands; reaches = omega arith; holds = keeps.gives old takes.given between.stands between.holds waits })
          works.concludes)

  pub ran_keeps : (turns : ℕ) (r : Reached) → Ran inputs limits turns r → Between r
  ran_keeps zero r is = subst Between (sym is) (record { stands = stands_beginning inputs limits.mode; holds = keeps.begins })
  ran_keeps (suc turns) r goes = turn_leads (suc turns) goes.old r None (ran_keeps turns goes.old goes.before) goes.takes

  -- where a run ends, between turns or inside one
  pub run_keeps : (turns : ℕ) (r : Reached) (end : Ended) → Runs inputs limits turns r end → (Between r × IsRest limits turns r end) ⊎ E end r
  run_keeps turns r end (inl between) = inl (ran_keeps turns r between.ran, between.rest)
  run_keeps turns r end (inr within) = inr (turn_leads turns within.old r (Some end) (ran_keeps within.earlier within.old within.ran) within.takes)

-- ---- what holds of each standing alike

pub record Invariant (inputs : List InputClause) (limits : Limits) (P : Reached → Type 0) : Type 0 where
  pub begins : P (beginning inputs limits.mode)
  pub takes : (r : Reached) (given : ℕ) → Stands inputs r → P r → Among given r.waiting → P (taken r given)
  pub gives : (r : Reached) (given : ℕ) → Stands inputs r → P r → Among given r.waiting → P (given_processed r given)
  pub comes : (r : Reached) (given partner : ℕ) (list : List Conclusion) (conclusion : Conclusion) (a : Arrival)
      → Stands inputs r → P r → Parents r given partner list → Among conclusion list → IsArrival r conclusion.clause a
      → P (arrived r (renumbered given partner conclusion) a)

pub leads_all : (P : Reached → Type 0) (r : Reached) (end : Option Ended) → P r → Leads P (λ ending. P) r end
leads_all P r None holds = holds
leads_all P r (Some ending) holds = holds

-- the parts of a standing and what holds of it
pub record Standing (inputs : List InputClause) (P : Reached → Type 0) (r : Reached) : Type 0 where
  pub stands : Stands inputs r
  pub holds : P r

pub always : (inputs : List InputClause) (limits : Limits) (P : Reached → Type 0) → Invariant inputs limits P
    → (turns : ℕ) (r : Reached) (end : Ended) → Runs inputs limits turns r end → Standing inputs P r
always inputs limits P invariant turns r end runs = go (run_keeps inputs limits P (λ given. Standing inputs P) (λ ending. Standing inputs P) keeps turns r end runs)
  where
    keeps : Keeps inputs limits P (λ given. Standing inputs P) (λ ending. Standing inputs P)
    keeps = record {
      begins = invariant.begins;
      drops = λ r given stands holds waits dropped. invariant.takes r given stands holds waits;
      gives = λ r given stands holds waits. record { stands = stands_processed inputs r stands given waits; holds = invariant.gives r given stands holds waits };
      comes = λ r given partner list conclusion a stands standing parents among is.
          let new = arrived r (renumbered given partner conclusion) a in
          leads_all (Standing inputs P) new (end_with limits new a) (record {
            stands = stands_arrived inputs r stands (renumbered given partner conclusion) a;
            holds = invariant.comes r given partner list conclusion a stands standing.holds parents among is;
          });
      closes = λ r given standing. standing.holds;
    }

    go : (Between inputs limits P (λ given. Standing inputs P) (λ ending. Standing inputs P) keeps r × IsRest limits turns r end) ⊎ Standing inputs P r → Standing inputs P r
    go (inl between) = record { stands = between.0.stands; holds = between.0.holds }
    go (inr standing) = standing
