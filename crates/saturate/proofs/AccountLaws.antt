-- What follows from the processed clauses in one step is covered, and each input is accounted for.
use Rattle.std.proofs.Common.{◌≡◌, ℕ, zero, suc, ◌+◌, ◌<◌, ◌≤◌, List, [], ◌∷◌, ◌++◌, length, Bool, true, false, not, Option, Some, None, MatchBool, inl, inr, ◌⊎◌, refl, sym, ap, ◌∙◌, subst, arith, append_assoc, length-append}
use Rattle.std.proofs.lemmas.List.{append-nil, length-map}
use Rattle.std.proofs.lemmas.Bool.Decides.{eqb_tells}
use Rattle.sigma_base.specs.Lists.{Each, each_append, each_map, each_both}
use Rattle.kif_tree.specs.declared.clause.InputClause.{InputClause}
use Rattle.kif_tree.specs.Clauses.{Literals, same_sign}
use Rattle.calculus.specs.Rules.{nth}
use Rattle.calculus.specs.Evidence.{list_from}
use Rattle.calculus.specs.Answers.{Among}
use Rattle.calculus.proofs.PlaceLaws.{none_some}
use Rattle.calculus.proofs.TruthLaws.{negated}
use Rattle.calculus.proofs.MemberLaws.{among-left, among-right, among-filter, each_at}
use Rattle.unify.specs.Subsumption.{Subsumes}
use Rattle.infer.specs.Checks.{clauses_of}
use Rattle.infer.specs.Conclusions.{clause_at}
use Rattle.saturate.specs.declared.ended.Ended.{Ended}
use Rattle.saturate.specs.declared.limits.Limits.{Limits}
use Rattle.saturate.specs.declared.limits.Mode.{Mode}
use Rattle.saturate.specs.declared.limits.Mode.TheVariants.{Support, Full}
use Rattle.saturate.specs.declared.reached.Reached.{Reached}
use Rattle.saturate.specs.Covered.{is_tautology, IsNeedless}
use Rattle.saturate.specs.Inputs.{is_query_number}
use Rattle.saturate.specs.Runs.{clauses, IsCovered, numbers_from, numbers_of, numbers_where, beginning, Then, Factors, MeetsEach, is_fifth, IsOldest, IsLightest, IsGiven, taken, given_processed, IsDropped, Drops, Works, Turn, Ran}
use Rattle.saturate.specs.Ends.{IsSupported, HasFactorsCovered, HasConclusionsCovered, MeetsCovered, IsAccounted, AreAccounted, IsWholeAccount, IsEarlierAccount, IsInputAccounted, AreInputsAccounted}
use Rattle.saturate.proofs.ListLaws.{each_of_members, among_filtered}
use Rattle.saturate.proofs.StepLaws.{IsNumber, Stands, stands_beginning, stands_taken, stands_processed}
use Rattle.saturate.proofs.SubsumptionLaws.{subsumes_via, tautologies_subsume}
use Rattle.saturate.proofs.CoverLaws.{among_without, Knows, known_parts, known_joined, Grows, grows_same, longer_still, clause_stays, needless_still, Extends, Follows, follows_then, follows_known, extends_follows, Passes, then_passes, then_on, factors_passes, meets_each_passes, factors_covered, factors_still, conclusions_still, meets_each_covered}

-- ---- the account at a later standing

supported_still : (mode : Mode) (old new : Reached) → Grows old new → (n : ℕ) → IsSupported mode old n → IsSupported mode new n
supported_still mode old new grows n s =
    subst (λ (inputs : List InputClause). (mode ≡ Support) × (n < length inputs) × (is_query_number inputs n ≡ false)) (sym grows.inputs) s

meets_still : (mode : Mode) (old new : Reached) → Follows old new → (given : ℕ) → IsNumber old given → (partner : ℕ) → IsNumber old partner × MeetsCovered mode old given partner
    → MeetsCovered mode new given partner
meets_still mode old new follows given below partner (named, inl s) =
    inl (supported_still mode old new follows.grows given s.0, supported_still mode old new follows.grows partner s.1)
meets_still mode old new follows given below partner (named, inr h) = inr (conclusions_still old new follows given partner below named h)

account_still : (mode : Mode) (old new : Reached) → Follows old new → (before : List ℕ) (number : ℕ) → Each (IsNumber old) before → IsNumber old number
    → IsAccounted mode old before number → IsAccounted mode new before number
account_still mode old new follows before number named below a = record {
  factors = factors a.factors;
  conclusions = each_map (λ (n : ℕ). IsNumber old n × MeetsCovered mode old number n) (MeetsCovered mode new number) (meets_still mode old new follows number below)
      (before ++ number ∷ [])
      (each_both (IsNumber old) (MeetsCovered mode old number) (before ++ number ∷ []) (each_append (IsNumber old) before (number ∷ []) named (below, tt)) a.conclusions);
}
  where
    factors : IsSupported mode old number ⊎ HasFactorsCovered old number → IsSupported mode new number ⊎ HasFactorsCovered new number
    factors (inl s) = inl (supported_still mode old new follows.grows number s)
    factors (inr h) = inr (factors_still old new follows number below h)

pub accounts_still : (mode : Mode) (old new : Reached) → Follows old new → (before numbers : List ℕ) → Each (IsNumber old) before → Each (IsNumber old) numbers
    → AreAccounted mode old before numbers → AreAccounted mode new before numbers
accounts_still mode old new follows before [] first second a = tt
accounts_still mode old new follows before (number ∷ numbers) first second a = (
  account_still mode old new follows before number first second.0 a.0,
  accounts_still mode old new follows (before ++ number ∷ []) numbers (each_append (IsNumber old) before (number ∷ []) first (second.0, tt)) second.1 a.1,
)

-- one more clause, processed after the others
accounts_more : (mode : Mode) (r : Reached) (before numbers : List ℕ) (last : ℕ) → AreAccounted mode r before numbers → IsAccounted mode r (before ++ numbers) last
    → AreAccounted mode r before (numbers ++ last ∷ [])
accounts_more mode r before [] last all one = (subst (λ (xs : List ℕ). IsAccounted mode r xs last) (append-nil before) one, tt)
accounts_more mode r before (number ∷ numbers) last all one = (
  all.0,
  accounts_more mode r (before ++ number ∷ []) numbers last all.1
      (subst (λ (xs : List ℕ). IsAccounted mode r xs last) (sym (append_assoc before (number ∷ []) numbers)) one),
)

-- ---- the given clause

-- it is one that waits
pub given_waits : (r : Reached) (turn number : ℕ) → IsGiven r turn number → Among number r.waiting
given_waits r turn number h = go (is_fifth turn) h
  where
    go : (b : Bool) → MatchBool b (IsOldest r number) (IsLightest r number) → Among number r.waiting
    go true k = k.among
    go false k = k.among

module _ (inputs : List InputClause) (old : Reached) (given : ℕ) (stands : Stands inputs old) (waits : Among given old.waiting) where
  abbrev start : Reached
  start = given_processed old given

  names_given : IsNumber old given
  names_given = each_at (IsNumber old) old.waiting given waits stands.waiting

  start_grows : Grows old start
  start_grows = grows_same old start refl refl

  start_follows : Follows old start
  start_follows = follows_known old start start_grows (λ n there. known_joined start n (go n (known_parts old n there)))
    where
      go : (n : ℕ) → Knows old n → Knows start n
      go n (inl h) = inl (among-left n old.processed (given ∷ []) h)
      go n (inr (inl h)) = elim (among_without given n old.waiting h) [
        | inl e ↦ inl (among-right n old.processed (given ∷ []) (inl e))
        | inr k ↦ inr (inl k)
      ]
      go n (inr (inr h)) = inr (inr h)

  -- ---- where it is dropped

  -- what it covered is covered by what made it needless
  by_needless : (general clause : Literals) → clause_at (clauses old) given ≡ general → Subsumes general clause
      → IsNeedless (clauses old) old.processed (clause_at (clauses old) given) → IsCovered (taken old given) clause
  by_needless general clause is subsumes (inl h) = inl (tautologies_subsume general clause subsumes (ap is_tautology (sym is) ∙ h))
  by_needless general clause is subsumes (inr h) = inr (record {
    number = h.number;
    among = known_joined (taken old given) h.number (inl h.among);
    general = h.general;
    at = h.at;
    subsumes = subsumes_via h.general general clause (subst (Subsumes h.general) is h.subsumes) subsumes;
  })

  taken_covers : IsDropped old given → (clause : Literals) → IsCovered old clause → IsCovered (taken old given) clause
  taken_covers dropped clause (inl h) = inl h
  taken_covers dropped clause (inr h) = go (known_parts old h.number h.among)
    where
      kept : Knows (taken old given) h.number → IsCovered (taken old given) clause
      kept k = inr (record { number = h.number; among = known_joined (taken old given) h.number k; general = h.general; at = h.at; subsumes = h.subsumes })

      go : Knows old h.number → IsCovered (taken old given) clause
      go (inl k) = kept (inl k)
      go (inr (inl k)) = elim (among_without given h.number old.waiting k) [
        | inl e ↦
            let is : clause_at (clauses old) given ≡ h.general = ap (λ (o : Option Literals). list_from o (λ c. c))
            (ap (nth (clauses old)) (sym e) ∙ h.at) in
            by_needless h.general clause is h.subsumes dropped.needless
        | inr w ↦ kept (inr (inl w))
      ]
      go (inr (inr k)) = kept (inr (inr k))

  taken_follows : IsDropped old given → Follows old (taken old given)
  taken_follows dropped = record { grows = grows_same old (taken old given) refl refl; covers = taken_covers dropped }

  -- ---- where it is processed

  module _ (limits : Limits) (new : Reached) (end : Option Ended)
      (concludes : Then (Factors limits given) (MeetsEach limits given (old.processed ++ given ∷ [])) start new end) where
    works_passes : Passes inputs start new
    works_passes =
        then_passes inputs (Factors limits given) (MeetsEach limits given (old.processed ++ given ∷ [])) (factors_passes inputs limits given)
        (meets_each_passes inputs limits given (old.processed ++ given ∷ [])) start new end (stands_processed inputs old stands given waits) concludes

    works_follows : Follows old new
    works_follows = follows_then old start new start_follows (extends_follows start new works_passes.extends)

    -- the account of those before
    works_before : (mode : Mode) → IsWholeAccount mode old → AreAccounted mode new [] old.processed
    works_before mode account = accounts_still mode old new works_follows [] old.processed tt stands.processed account

  -- and where the search went on, its own
  works_accounted : (limits : Limits) (mode : Mode) (new : Reached) → Then (Factors limits given) (MeetsEach limits given (old.processed ++ given ∷ [])) start new None
      → IsAccounted mode new old.processed given
  works_accounted limits mode new concludes =
      let b = then_on (Factors limits given) (MeetsEach limits given (old.processed ++ given ∷ [])) start new concludes in
      let one = factors_passes inputs limits given start b.middle None (stands_processed inputs old stands given waits) b.first in
      let rest = meets_each_passes inputs limits given (old.processed ++ given ∷ []) b.middle new None one.stands b.second in
      let still = longer_still start b.middle one.extends.grows in
      let all = each_append (IsNumber old) old.processed (given ∷ []) stands.processed (names_given, tt) in record {
        factors = inr (factors_still b.middle new (extends_follows b.middle new rest.extends) given (still given names_given)
            (factors_covered inputs limits given start b.middle (stands_processed inputs old stands given waits) names_given b.first));
        conclusions = each_map (HasConclusionsCovered new given) (MeetsCovered mode new given) (λ partner h. inr h) (old.processed ++ given ∷ [])
            (meets_each_covered inputs limits given (old.processed ++ given ∷ []) b.middle new one.stands (still given names_given)
            (each_map (IsNumber old) (IsNumber b.middle) still (old.processed ++ given ∷ []) all) b.second);
      }

  -- ---- the inputs

  inputs_named : (number : ℕ) → number < length old.inputs → IsNumber old number
  inputs_named number below =
      let whole : length (clauses old) ≡ length (clauses_of old.inputs) + length old.derived = length-append (clauses_of old.inputs) old.derived in
      let inputs : length (clauses_of old.inputs) ≡ length old.inputs = length-map old.inputs (λ (input : InputClause). input.clause) in
      omega (arith, whole, inputs, below)

  taken_inputs : IsDropped old given → AreInputsAccounted old → AreInputsAccounted (taken old given)
  taken_inputs dropped all number below = go (all number below)
    where
      go : IsInputAccounted old number → IsInputAccounted (taken old given) number
      go (inl h) = inl h
      go (inr (inl h)) = elim (among_without given number old.waiting h) [
        | inl e ↦ inr (inr (subst (λ (n : ℕ). IsNeedless (clauses old) old.processed (clause_at (clauses old) n)) (sym e) dropped.needless))
        | inr k ↦ inr (inl k)
      ]
      go (inr (inr h)) = inr (inr h)

  works_inputs : (new : Reached) → Extends start new → AreInputsAccounted old → AreInputsAccounted new
  works_inputs new extends all number below = go (all number there)
    where
      there : number < length old.inputs
      there = subst (λ (inputs : List InputClause). number < length inputs) extends.grows.inputs below

      processed_there : Among number start.processed → Among number new.processed
      processed_there h = subst (Among number) (sym extends.processed) h

      go : IsInputAccounted old number → IsInputAccounted new number
      go (inl h) = inl (processed_there (among-left number old.processed (given ∷ []) h))
      go (inr (inl h)) = elim (among_without given number old.waiting h) [
        | inl e ↦ inl (processed_there (among-right number old.processed (given ∷ []) (inl e)))
        | inr k ↦ inr (inl (extends.waiting number k))
      ]
      go (inr (inr h)) =
          let stays = clause_stays start new extends.grows number (inputs_named number there) in
          let needless = needless_still start new extends.grows old.processed new.processed
          (λ n k. subst (Among n) (sym extends.processed) (among-left n old.processed (given ∷ []) k)) (clause_at (clauses old) number) h in
          inr (inr (subst (IsNeedless (clauses new) new.processed) (sym stays) needless))

-- ---- a turn

-- what is so between turns
pub record IsAccountKept (begun : List InputClause) (mode : Mode) (r : Reached) : Type 0 where
  pub stands : Stands begun r
  pub account : IsWholeAccount mode r
  pub inputs : AreInputsAccounted r

module _ (inputs : List InputClause) (limits : Limits) (mode : Mode) (turn : ℕ) (old : Reached) (kept : IsAccountKept inputs mode old) where
  turn_on : (new : Reached) → Turn limits turn old new None → IsAccountKept inputs mode new
  turn_on new t = go t.goes
    where
      waits : Among t.given old.waiting
      waits = given_waits old turn t.given t.is_given

      go : Drops t.given old new None ⊎ Works limits t.given old new None → IsAccountKept inputs mode new
      go (inl d) = subst (IsAccountKept inputs mode) (sym d.reached) (record {
        stands = stands_taken inputs old kept.stands t.given;
        account = accounts_still mode old (taken old t.given) (taken_follows inputs old t.given kept.stands waits d.drops) [] old.processed tt
            (kept.stands.processed) kept.account;
        inputs = taken_inputs inputs old t.given kept.stands waits d.drops kept.inputs;
      })
      go (inr w) =
          let passes = works_passes inputs old t.given kept.stands waits limits new None w.concludes in record {
            stands = passes.stands;
            account = subst (AreAccounted mode new []) (sym passes.extends.processed)
                (accounts_more mode new [] old.processed t.given (works_before inputs old t.given kept.stands waits limits new None w.concludes mode kept.account)
                (works_accounted inputs old t.given kept.stands waits limits mode new w.concludes));
            inputs = works_inputs inputs old t.given kept.stands waits new passes.extends kept.inputs;
          }

  -- where the turn ends the search
  pub turn_earlier : (new : Reached) (ending : Ended) → Turn limits turn old new (Some ending) → IsEarlierAccount mode new
  turn_earlier new ending t = go t.goes
    where
      waits : Among t.given old.waiting
      waits = given_waits old turn t.given t.is_given

      go : Drops t.given old new (Some ending) ⊎ Works limits t.given old new (Some ending) → IsEarlierAccount mode new
      go (inl d) = absurd (none_some ending (sym d.goes_on))
      go (inr w) =
          let passes = works_passes inputs old t.given kept.stands waits limits new (Some ending) w.concludes in record {
            earlier = old.processed;
            last = t.given;
            processed = passes.extends.processed;
            accounted = works_before inputs old t.given kept.stands waits limits new (Some ending) w.concludes mode kept.account;
          }

-- ---- the beginning

pub number_below : (first count n : ℕ) → Among n (numbers_from first count) → n < first + count
number_below first zero n there = absurd there
number_below first (suc count) n (inl e) = omega arith
number_below first (suc count) n (inr there) = let rest = number_below (first + 1) count n there in omega (arith, rest)

pub number_among : (first count n : ℕ) → first ≤ n → n < first + count → Among n (numbers_from first count)
number_among first zero n above below = absurd (omega arith)
number_among first (suc count) n above below = elim (eqb_tells n first) [
  | inl h ↦ inl h.1
  | inr h ↦ inr (number_among (first + 1) count n (let other = h.1 in omega (arith, other)) (omega arith))
]

module _ (inputs : List InputClause) where
  number_of : (n : ℕ) → Among n (numbers_of inputs) → n < length inputs
  number_of n there = let below = number_below 0 (length inputs) n there in omega (arith, below)

  all_numbers : (n : ℕ) → n < length inputs → Among n (numbers_of inputs)
  all_numbers n below = number_among 0 (length inputs) n (omega arith) (omega arith)

  abbrev passes : Bool → ℕ → Bool
  passes of_query number = same_sign of_query (is_query_number inputs number)

  where_below : (of_query : Bool) (n : ℕ) → Among n (numbers_where of_query inputs) → n < length inputs
  where_below of_query n there = number_of n (among_filtered (passes of_query) (numbers_of inputs) n there).among

  -- pairs of inputs that are no clauses of the query are excepted
  supported_accounts : (mode : Mode) (r : Reached) (before numbers : List ℕ) → Each (IsSupported mode r) before → Each (IsSupported mode r) numbers
      → AreAccounted mode r before numbers
  supported_accounts mode r before [] first second = tt
  supported_accounts mode r before (number ∷ numbers) first second =
      let all = each_append (IsSupported mode r) before (number ∷ []) first (second.0, tt) in (
        record {
          factors = inl second.0;
          conclusions = each_map (IsSupported mode r) (MeetsCovered mode r number) (λ partner s. inl (second.0, s)) (before ++ number ∷ []) all;
        },
        supported_accounts mode r (before ++ number ∷ []) numbers all second.1,
      )

  beginning_account : (mode : Mode) → IsWholeAccount mode (beginning inputs mode)
  beginning_account Support =
      supported_accounts Support (beginning inputs Support) [] (numbers_where false inputs) tt
      (each_of_members (IsSupported Support (beginning inputs Support)) (numbers_where false inputs)
      (λ n there. (refl, where_below false n there, negated (is_query_number inputs n) (among_filtered (passes false) (numbers_of inputs) n there).passes)))
  beginning_account Full = tt

  beginning_inputs : (mode : Mode) → AreInputsAccounted (beginning inputs mode)
  beginning_inputs Support number below = go (is_query_number inputs number) refl
    where
      go : (b : Bool) → is_query_number inputs number ≡ b → IsInputAccounted (beginning inputs Support) number
      go true e = inr (inl (among-filter (passes true) number e (numbers_of inputs) (all_numbers number below)))
      go false e = inl (among-filter (passes false) number (ap not e) (numbers_of inputs) (all_numbers number below))
  beginning_inputs Full number below = inr (inl (all_numbers number below))

-- ---- the run

pub ran_kept : (inputs : List InputClause) (limits : Limits) (turns : ℕ) (r : Reached) → Ran inputs limits turns r → IsAccountKept inputs limits.mode r
ran_kept inputs limits zero r ran = subst (IsAccountKept inputs limits.mode) (sym ran) (record {
  stands = stands_beginning inputs limits.mode;
  account = beginning_account inputs limits.mode;
  inputs = beginning_inputs inputs limits.mode;
})
ran_kept inputs limits (suc n) r ran = turn_on inputs limits limits.mode (suc n) ran.old (ran_kept inputs limits n ran.old ran.before) r ran.takes
