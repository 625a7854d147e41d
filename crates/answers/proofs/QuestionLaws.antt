-- A query's clauses are proper, and what limits in their ranges are.
use Rattle.std.proofs.Common.{◌≡◌, inl, inr, ◌≤◌, ℕ, nat_le, List, [], ◌∷◌, length, Bool, true, false, not, if◌then◌else◌, sym, ap, subst, refl}
use Rattle.std.proofs.lemmas.Bool.{leb-true}
use Rattle.std.specs.Prelude.{Result, Ok, Err}
use Rattle.sigma_base.specs.Lists.{Each}
use Rattle.kif_tree.specs.declared.place.Located.{Located}
use Rattle.kif_tree.specs.Terms.{Bytes}
use Rattle.kif_reader.specs.Spelling.{Spells}
use Rattle.calculus.proofs.TruthLaws.{both}
use Rattle.clause_form.specs.declared.query.QueryClauses.{QueryClauses}
use Rattle.clause_form.specs.declared.query.QueryError.{QueryError}
use Rattle.clause_form.specs.declared.query.QueryError.TheVariants as refused
use Rattle.clause_form.specs.Sentences.{IsQueryClause}
use Rattle.clause_form.specs.Queries.{negated_matrix, forms_answer, IsQueryAnswer, IsQueryOf}
use Rattle.clause_form.proofs.AcceptedLaws.{query_of}
use Rattle.clause_form.proofs.TruthLaws.{distribution_is_true}
use Rattle.saturate.specs.declared.limits.Limits.{Limits}
use Rattle.saturate.specs.declared.limits.LimitsError.{LimitsError}
use Rattle.saturate.specs.declared.limits.LimitsError.TheVariants as errors
use Rattle.saturate.specs.Limits.{is_within, checked}
use Rattle.answers.proofs.RefusalLaws.{limits_error}

-- ---- queries

query_no_error : {A : Type 0} (query : QueryClauses) (error : QueryError) → Ok query ≡ Err error → A
query_no_error query error e = absurd (let same : Ok query ≡ Err error = e in cc)

asked_one : (text : Bytes) (query : QueryClauses) (forms : List Located) → Spells 0 text forms → Ok query ≡ forms_answer forms → IsQueryOf text query
asked_one text query [] spells is = query_no_error query refused.NotOneForm is
asked_one text query (located ∷ []) spells is = query_of text located query spells (sym is) (distribution_is_true (negated_matrix located.form))
asked_one text query (first ∷ second ∷ more) spells is = query_no_error query refused.NotOneForm is

pub asked_query : (text : Bytes) (query : QueryClauses) → IsQueryAnswer text (Ok query) → IsQueryOf text query
asked_query text query (inl answer) = asked_one text query answer.forms answer.spells answer.is
asked_query text query (inr answer) = query_no_error query (refused.Syntax answer.error) answer.is

pub asked_clauses : (text : Bytes) (query : QueryClauses) → IsQueryAnswer text (Ok query) → Each (IsQueryClause (length query.asked)) query.clauses
asked_clauses text query answer =
    let q = asked_query text query answer in
    subst (λ (n : ℕ). Each (IsQueryClause n) query.clauses) (ap length (sym q.asks)) q.are

-- ---- limits

pub record AreSome (limits : Limits) : Type 0 where
  pub turns : 1 ≤ limits.turns
  pub answers : 1 ≤ limits.answers
  pub kept : 1 ≤ limits.kept

at_least_one : (greatest n : ℕ) → is_within greatest n ≡ true → 1 ≤ n
at_least_one greatest n h = leb-true 1 n (both (nat_le 1 n) (nat_le n greatest) h).0

pub checked_some : (limits : Limits) → checked limits ≡ Ok tt → AreSome limits
checked_some limits = go (is_within 100000 limits.turns) (is_within 1000 limits.answers) (is_within 200000 limits.kept) refl refl refl
  where
    answer : Bool → Bool → Bool → Result (Unit {0}) LimitsError
    answer turns answers kept = if not turns then Err errors.TurnsOutOfRange else if not answers then Err errors.AnswersOutOfRange else if not kept then Err errors.KeptOutOfRange else Ok tt

    go : (t a k : Bool) → is_within 100000 limits.turns ≡ t → is_within 1000 limits.answers ≡ a → is_within 200000 limits.kept ≡ k → answer t a k ≡ Ok tt → AreSome limits
    go false a k et ea ek e = limits_error errors.TurnsOutOfRange e
    go true false k et ea ek e = limits_error errors.AnswersOutOfRange e
    go true true false et ea ek e = limits_error errors.KeptOutOfRange e
    go true true true et ea ek e = record {
      turns = at_least_one 100000 limits.turns et;
      answers = at_least_one 1000 limits.answers ea;
      kept = at_least_one 200000 limits.kept ek;
    }
