-- What a search begins with, and what its run keeps.
use Rattle.std.proofs.Common.{◌≡◌, ◌⊎◌, inl, inr, ◌<◌, ◌≤◌, ◌^◌, ◌+◌, ℕ, zero, suc, List, [], ◌∷◌, ◌++◌, map, length, nat_le, codes, Bool, true, false, not, ◌&&◌, if◌then◌else◌, Result, Ok, Err, Option, Some, None, MatchOption, refl, sym, ap, ap₂, ◌∙◌, subst, arith, length-append}
use Rattle.std.proofs.lemmas.List.{map-append}
use Rattle.std.proofs.lemmas.Bool.{leb-true}
use Rattle.std.specs.List.{list_all}
use Rattle.sigma_base.specs.Lists.{Each, each_append}
use Rattle.kif_tree.specs.declared.form.Form.{Form, out-Form}
use Rattle.kif_tree.specs.declared.form.Form.TheVariants as form
use Rattle.kif_tree.specs.declared.form.Form.TheOpen.{Form-F}
use Rattle.kif_tree.specs.declared.clause.Literal.{Literal}
use Rattle.kif_tree.specs.declared.clause.InputClause.{InputClause}
use Rattle.kif_tree.specs.Terms.{Bytes, has_no_row}
use Rattle.kif_tree.specs.Shape.{is_list_layer}
use Rattle.kif_tree.specs.Clauses.{Literals}
use Rattle.kif_tree.proofs.TermLaws.{clean-Word, clean-parts}
use Rattle.calculus.specs.Proper.{IsProper, has_word_heads}
use Rattle.calculus.specs.Closed.{rowless_clause}
use Rattle.calculus.specs.Equality.{equal}
use Rattle.calculus.specs.Answers.{reflexivity_input}
use Rattle.calculus.proofs.TruthLaws.{both}
use Rattle.calculus_programs.proofs.ShapeLaws.{is_word-Word, heads-List, heads_other}
use Rattle.unify.specs.Unifiers.{is_plain}
use Rattle.unify.specs.ClauseSets.{IsSetInput, IsClauseSet}
use Rattle.unify.proofs.PlainLaws.{plain-Variable}
use Rattle.infer.specs.Checks.{clauses_of}
use Rattle.infer.specs.Plain.{IsPlain}
use Rattle.infer.specs.declared.conclusion.Conclusion.{Conclusion}
use Rattle.saturate.specs.declared.arrival.Arrival.{Arrival}
use Rattle.saturate.specs.declared.arrival.Arrival.TheVariants as arrival
use Rattle.saturate.specs.declared.ended.Ended.{Ended}
use Rattle.saturate.specs.declared.ended.Search.{Search}
use Rattle.saturate.specs.declared.limits.Limits.{Limits}
use Rattle.saturate.specs.declared.limits.LimitsError.{LimitsError}
use Rattle.saturate.specs.declared.limits.LimitsError.TheVariants as errors
use Rattle.saturate.specs.declared.reached.Reached.{Reached}
use Rattle.saturate.specs.Inputs.{reflexivity_inputs, numbered_inputs, needs_reflexivity, search_inputs}
use Rattle.saturate.specs.Laws.{AreQueryClauses, AreSearchInputs, RunsAreSound, EndsHold}
use Rattle.saturate.specs.Ends.{EndHolds, IsSound}
use Rattle.saturate.specs.Limits.{is_within, checked}
use Rattle.saturate.specs.Runs.{Way, Stays, Then, arrived, Comes, Come, Factors, Meets, MeetsEach, Drops, Works, Turn, Ran, Runs, IsRun, renumbered, beginning, reached_in}

-- ---- plain inputs

pub proper_plain : (clause : Literals) → IsProper clause → IsPlain clause
proper_plain clause proper = record { lists = proper.lists; plain = all clause proper.headed proper.rowless }
  where
    all : (clause : Literals) → list_all (λ literal. has_word_heads literal.atom) clause ≡ true → rowless_clause clause ≡ true
        → list_all (λ literal. is_plain literal.atom) clause ≡ true
    all [] headed rowless = refl
    all (literal ∷ clause) headed rowless =
        let heads = both (has_word_heads literal.atom) (list_all (λ (l : Literal). has_word_heads l.atom) clause) headed in
        let rows = both (has_no_row literal.atom) (rowless_clause clause) rowless in
        ap₂ ◌&&◌ (ap₂ ◌&&◌ rows.0 heads.0) (all clause heads.1 rows.1)

no_list : (text : Bytes) (parts : List Form) → form.Word text ≡ form.List parts → ⊥
no_list text parts e = let layers : Form-F.Word text ≡ Form-F.List parts = sym (form.outs-Word text) ∙ ap out-Form e ∙ form.outs-List parts in cc

word_plain : (text : Bytes) → is_plain (form.Word text) ≡ true
word_plain text = ap₂ ◌&&◌ (clean-Word true text) (heads_other (form.Word text) (no_list text))

equal_plain : (a : Form) → is_plain a ≡ true → is_plain (equal a a) ≡ true
equal_plain a plain =
    let parts = form.Word (codes "equal") ∷ a ∷ a ∷ [] in
    let word = both (has_no_row (form.Word (codes "equal"))) (has_word_heads (form.Word (codes "equal"))) (word_plain (codes "equal")) in
    let side = both (has_no_row a) (has_word_heads a) plain in
    ap₂ ◌&&◌ (clean-parts true parts ∙ ap₂ ◌&&◌ word.0 (ap₂ ◌&&◌ side.0 (ap₂ ◌&&◌ side.0 refl)))
    (heads-List parts ∙ ap₂ ◌&&◌ (is_word-Word (codes "equal")) (ap₂ ◌&&◌ word.1 (ap₂ ◌&&◌ side.1 (ap₂ ◌&&◌ side.1 refl))))

reflexivity_plain : IsPlain reflexivity_input
reflexivity_plain =
    let a = form.Variable (codes "X1") in
    record {
      lists = ap₂ ◌&&◌ (ap is_list_layer (form.outs-List (form.Word (codes "equal") ∷ a ∷ a ∷ []))) refl;
      plain = ap₂ ◌&&◌ (equal_plain a (plain-Variable (codes "X1"))) refl;
    }

set_plain : (set : List InputClause) → Each IsSetInput set → Each IsPlain (clauses_of set)
set_plain [] each = tt
set_plain (input ∷ set) each = (proper_plain input.clause each.0.proper, set_plain set each.1)

reflexivity_plain_in : (needed : Bool) → Each IsPlain (clauses_of (reflexivity_inputs needed))
reflexivity_plain_in true = (reflexivity_plain, tt)
reflexivity_plain_in false = tt

numbered_plain : (asked n : ℕ) (query : List Literals) → AreQueryClauses asked query → Each IsPlain (clauses_of (numbered_inputs n query))
numbered_plain asked n [] each = tt
numbered_plain asked n (clause ∷ query) each = (proper_plain clause each.0.proper, numbered_plain asked (n + 1) query each.1)

plain_append : (xs ys : List InputClause) → Each IsPlain (clauses_of xs) → Each IsPlain (clauses_of ys) → Each IsPlain (clauses_of (xs ++ ys))
plain_append xs ys first second =
    subst (Each IsPlain) (sym (map-append (λ (i : InputClause). i.clause) xs ys)) (each_append IsPlain (clauses_of xs) (clauses_of ys) first second)

pub inputs_plain : (set : List InputClause) (asked : ℕ) (query : List Literals) → IsClauseSet set → AreQueryClauses asked query
    → Each IsPlain (clauses_of (search_inputs set query))
inputs_plain set asked query is each =
    let needed = needs_reflexivity set query in
    plain_append set (reflexivity_inputs needed ++ numbered_inputs 1 query) (set_plain set is.each)
    (plain_append (reflexivity_inputs needed) (numbered_inputs 1 query) (reflexivity_plain_in needed) (numbered_plain asked 1 query each))

-- ---- few inputs

length_numbered : (n : ℕ) (query : List Literals) → length (numbered_inputs n query) ≡ length query
length_numbered n [] = refl
length_numbered n (clause ∷ query) = let rest = length_numbered (n + 1) query in omega arith

length_reflexivity : (needed : Bool) → length (reflexivity_inputs needed) ≤ 1
length_reflexivity true = omega arith
length_reflexivity false = omega arith

pub inputs_few : (set : List InputClause) (query : List Literals) → IsClauseSet set → length query < 2 ^ 30 → length (search_inputs set query) < 2 ^ 32
inputs_few set query is few =
    let needed = needs_reflexivity set query in
    let all = length-append set (reflexivity_inputs needed ++ numbered_inputs 1 query) in
    let more = length-append (reflexivity_inputs needed) (numbered_inputs 1 query) in
    omega (arith, is.few, few, all, more, length_numbered 1 query, length_reflexivity needed)

-- ---- what the laws ask

pub are_search_inputs : (set : List InputClause) (asked : ℕ) (query : List Literals) → IsClauseSet set → AreQueryClauses asked query
    → AreSearchInputs (search_inputs set query)
are_search_inputs set asked query is each = record { set = set; is_set = is; asked = asked; query = query; are_query = each; are = refl }

-- each limit is at least 1
pub record AreAtLeastOne (limits : Limits) : Type 0 where
  pub turns : 1 ≤ limits.turns
  pub answers : 1 ≤ limits.answers
  pub kept : 1 ≤ limits.kept

within_one : (greatest n : ℕ) → is_within greatest n ≡ true → 1 ≤ n
within_one greatest n h = leb-true 1 n (both (nat_le 1 n) (nat_le n greatest) h).0

some_limit : (error : LimitsError) → (let r : Result (Unit {0}) LimitsError = Err error in r) ≡ Ok tt → ⊥
some_limit error e = cc

abbrev checked_by : Bool → Bool → Bool → Result (Unit {0}) LimitsError
checked_by a b c =
    if not a then Err errors.TurnsOutOfRange
    else if not b then Err errors.AnswersOutOfRange
    else if not c then Err errors.KeptOutOfRange
    else Ok tt

pub limits_checked : (limits : Limits) → checked limits ≡ Ok tt → AreAtLeastOne limits
limits_checked limits is = go (is_within 100000 limits.turns) (is_within 1000 limits.answers) (is_within 200000 limits.kept) refl refl refl is
  where
    go : (a b c : Bool) → is_within 100000 limits.turns ≡ a → is_within 1000 limits.answers ≡ b → is_within 200000 limits.kept ≡ c
        → checked_by a b c ≡ Ok tt → AreAtLeastOne limits
    go true true true turns answers kept e = record {
      turns = within_one 100000 limits.turns turns;
      answers = within_one 1000 limits.answers answers;
      kept = within_one 200000 limits.kept kept;
    }
    go false b c turns answers kept e = absurd (some_limit errors.TurnsOutOfRange e)
    go true false c turns answers kept e = absurd (some_limit errors.AnswersOutOfRange e)
    go true true false turns answers kept e = absurd (some_limit errors.KeptOutOfRange e)

-- ---- a run keeps its inputs

abbrev pub KeepsInputs : Way → Type 0
KeepsInputs W = (old new : Reached) (end : Option Ended) → W old new end → new.inputs ≡ old.inputs

stays_inputs : KeepsInputs Stays
stays_inputs old new end h = ap (λ (r : Reached). r.inputs) h.0

then_inputs : (First Second : Way) → KeepsInputs First → KeepsInputs Second → KeepsInputs (Then First Second)
then_inputs First Second first second old new end h = go h.stop h.second ∙ first old h.middle h.stop h.first
  where
    go : (stop : Option Ended) → MatchOption stop (Second h.middle new end) (λ (ending : Ended). (new ≡ h.middle) × (end ≡ Some ending)) → new.inputs ≡ h.middle.inputs
    go None k = second h.middle new end k
    go (Some ending) k = ap (λ (r : Reached). r.inputs) k.0

arrived_inputs : (r : Reached) (conclusion : Conclusion) (a : Arrival) → (arrived r conclusion a).inputs ≡ r.inputs
arrived_inputs r conclusion arrival.Contradiction = refl
arrived_inputs r conclusion arrival.Dropped = refl
arrived_inputs r conclusion arrival.Found = refl
arrived_inputs r conclusion arrival.Aside = refl
arrived_inputs r conclusion arrival.Waits = refl

comes_inputs : (limits : Limits) (conclusion : Conclusion) → KeepsInputs (Comes limits conclusion)
comes_inputs limits conclusion old new end h = ap (λ (r : Reached). r.inputs) h.reached ∙ arrived_inputs old conclusion h.arrival

come_inputs : (limits : Limits) (list : List Conclusion) → KeepsInputs (Come limits list)
come_inputs limits [] = stays_inputs
come_inputs limits (conclusion ∷ list) = then_inputs (Comes limits conclusion) (Come limits list) (comes_inputs limits conclusion) (come_inputs limits list)

factors_inputs : (limits : Limits) (given : ℕ) → KeepsInputs (Factors limits given)
factors_inputs limits given old new end h = come_inputs limits (map (renumbered given given) h.list) old new end h.come

meets_inputs : (limits : Limits) (given partner : ℕ) → KeepsInputs (Meets limits given partner)
meets_inputs limits given partner old new end h = come_inputs limits (map (renumbered given partner) h.list) old new end h.come

each_inputs : (limits : Limits) (given : ℕ) (partners : List ℕ) → KeepsInputs (MeetsEach limits given partners)
each_inputs limits given [] = stays_inputs
each_inputs limits given (partner ∷ partners) =
    then_inputs (Meets limits given partner) (MeetsEach limits given partners) (meets_inputs limits given partner) (each_inputs limits given partners)

turn_inputs : (limits : Limits) (turn : ℕ) → KeepsInputs (Turn limits turn)
turn_inputs limits turn old new end h = go h.goes
  where
    go : Drops h.given old new end ⊎ Works limits h.given old new end → new.inputs ≡ old.inputs
    go (inl k) = ap (λ (r : Reached). r.inputs) k.reached
    go (inr k) = then_inputs (Factors limits h.given) (MeetsEach limits h.given (old.processed ++ h.given ∷ [])) (factors_inputs limits h.given)
        (each_inputs limits h.given (old.processed ++ h.given ∷ [])) _ new end k.concludes

ran_inputs : (inputs : List InputClause) (limits : Limits) (turns : ℕ) (r : Reached) → Ran inputs limits turns r → r.inputs ≡ inputs
ran_inputs inputs limits zero r ran = ap (λ (s : Reached). s.inputs) ran
ran_inputs inputs limits (suc n) r ran = turn_inputs limits (suc n) ran.old r None ran.takes ∙ ran_inputs inputs limits n ran.old ran.before

pub runs_inputs : (inputs : List InputClause) (limits : Limits) (turns : ℕ) (r : Reached) (end : Ended) → Runs inputs limits turns r end → r.inputs ≡ inputs
runs_inputs inputs limits turns r end (inl h) = ran_inputs inputs limits turns r h.ran
runs_inputs inputs limits turns r end (inr h) = turn_inputs limits turns h.old r (Some end) h.takes ∙ ran_inputs inputs limits h.earlier h.old h.ran

pub run_inputs : (inputs all : List InputClause) (limits : Limits) (search : Search) → inputs ≡ all → IsRun inputs limits search → search.inputs ≡ all
run_inputs inputs all limits search is run = runs_inputs inputs limits search.turns (reached_in search) search.ended run ∙ is

pub same_inputs : (r : Reached) (inputs all : List InputClause) (limits : Limits) → r ≡ beginning inputs limits.mode → inputs ≡ all → r.inputs ≡ all
same_inputs r inputs all limits is same = ap (λ (s : Reached). s.inputs) is ∙ same

-- ---- what a run from checked limits means, by the laws

pub search_is_sound : RunsAreSound → (inputs : List InputClause) (limits : Limits) (search : Search) → IsRun inputs limits search → IsSound (reached_in search)
search_is_sound sound inputs limits search run = sound inputs limits search.turns (reached_in search) search.ended run

pub search_end_holds : EndsHold → (set : List InputClause) (asked : ℕ) (query : List Literals) (limits : Limits) (search : Search) → IsClauseSet set
    → AreQueryClauses asked query → checked limits ≡ Ok tt → IsRun (search_inputs set query) limits search
    → EndHolds limits search.turns (reached_in search) search.ended
search_end_holds holds set asked query limits search is each check run =
    let least = limits_checked limits check in
    holds (search_inputs set query) limits search.turns (reached_in search) search.ended (are_search_inputs set asked query is each) least.answers least.kept run
