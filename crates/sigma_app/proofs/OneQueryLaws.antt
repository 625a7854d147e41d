-- Why a query gets one status and one text over clauses.
use Rattle.std.proofs.Common.{◌≡◌, ℕ, List, [], ◌∷◌, Bool, Option, Some, None, codes, inl, inr, refl, sym, ap, ◌∙◌, subst}
use Rattle.std.specs.Prelude.{if◌then◌else◌}
use Rattle.kif_tree.specs.declared.clause.InputClause.{InputClause}
use Rattle.kif_tree.specs.declared.place.LoadName.{LoadName}
use Rattle.kif_tree.specs.Terms.{Bytes}
use Rattle.kif_reader.specs.declared.bytes.Spot.{Spot}
use Rattle.kif_reader.specs.declared.kinds.ReadError.{ReadError}
use Rattle.infer.specs.Laws.{EachTwo}
use Rattle.clause_form.specs.declared.query.QueryError.{QueryError}
use Rattle.clause_form.specs.declared.query.QueryError.TheVariants as no_query
use Rattle.saturate.specs.declared.limits.Limits.{Limits}
use Rattle.answers.specs.declared.outcome.Answer.{Answer}
use Rattle.answers.specs.declared.outcome.Outcome.{Outcome}
use Rattle.answers.specs.declared.proof.Proof.{Proof}
use Rattle.answers.specs.Laws.{AreAlikeAnswers, AreAlikeIfThere, AreAlikeOutcomes, OneOutcome, OnePage}
pub use Rattle.answers.proofs.RefusalLaws.{no_query_refused}
use Rattle.answers.proofs.RefusalLaws.{one_error}
use Rattle.sigma_app.specs.Requests.{Asked}
use Rattle.sigma_app.specs.Limits.{IsNumber, AreLimits}
use Rattle.sigma_app.specs.Tool.{Is, query_fault_text, RefusesFault, RefusesQuery, shows_answer, shown_status, RefusesText, AnswersQuery, OnSet}
use Rattle.sigma_app.specs.Laws.{SameOutcome}

pub is_one : (wanted : ℕ) (shown : Bytes) (status other : ℕ) (text page : Bytes) → Is wanted shown status text → Is wanted shown other page → SameOutcome status other text page
is_one wanted shown status other text page a b = (a.done ∙ sym b.done, a.page_is ∙ sym b.page_is)

-- ---- the limits of the options

number_one : (default : ℕ) (text : Option Bytes) (m n : ℕ) → IsNumber default text m → IsNumber default text n → m ≡ n
number_one default None m n a b = a ∙ sym b
number_one default (Some text) m n a b = a.1 ∙ sym b.1

pub limits_one : (asked : Asked) (a b : Limits) → AreLimits asked a → AreLimits asked b → a ≡ b
limits_one asked a b are other =
    let turns : a.turns ≡ b.turns = number_one 2000 asked.turns a.turns b.turns are.turns other.turns in
    let answers : a.answers ≡ b.answers = number_one 1 asked.answers a.answers b.answers are.answers other.answers in
    let kept : a.kept ≡ b.kept = number_one 200000 asked.kept a.kept b.kept are.kept other.kept in
    let some : Some a.mode ≡ Some b.mode = sym are.mode ∙ other.mode in
    let mode : a.mode ≡ b.mode = cc in
    λ i. record { turns = turns i; answers = answers i; kept = kept i; mode = mode i }

-- ---- the text of a query

fault_one : (fault : ReadError) (status other : ℕ) (text page : Bytes) → RefusesFault fault status text → RefusesFault fault other page → SameOutcome status other text page
fault_one fault status other text page a b =
    let at : Some (a.code, a.spot) ≡ Some (b.code, b.spot) = sym a.at ∙ b.at in
    let pair : (a.code, a.spot) ≡ (b.code, b.spot) = cc in
    let shown : query_fault_text a.code a.spot ≡ query_fault_text b.code b.spot = ap (λ (p : ℕ × Spot). query_fault_text p.0 p.1) pair in
    (a.is.done ∙ sym b.is.done, a.is.page_is ∙ shown ∙ sym b.is.page_is)

refused_one : (error : QueryError) (status other : ℕ) (text page : Bytes) → RefusesQuery error status text → RefusesQuery error other page → SameOutcome status other text page
refused_one (no_query.Syntax fault) status other text page a b = fault_one fault status other text page a b
refused_one no_query.NotOneForm status other text page a b = is_one 7 (codes "query 2\n") status other text page a b
refused_one no_query.RowVariable status other text page a b = is_one 7 (codes "query 3\n") status other text page a b
refused_one no_query.PredicateVariable status other text page a b = is_one 7 (codes "query 4\n") status other text page a b
refused_one no_query.HigherOrder status other text page a b = is_one 7 (codes "query 5\n") status other text page a b
refused_one no_query.TooManyClauses status other text page a b = is_one 7 (codes "query 6\n") status other text page a b
refused_one no_query.NoMemory status other text page a b = absurd a

text_one : (query : Bytes) (status other : ℕ) (text page : Bytes) → RefusesText query status text → RefusesText query other page → SameOutcome status other text page
text_one query status other text page a b =
    refused_one b.error status other text page
    (subst (λ (error : QueryError). RefusesQuery error status text) (one_error query a.error b.error a.refused b.refused) a.is) b.is

-- ---- what is shown

alike_shows : (xs ys : List Answer) (c d : Option Proof) → EachTwo AreAlikeAnswers xs ys → AreAlikeIfThere c d → shows_answer xs c ≡ shows_answer ys d
alike_shows [] [] None None answers contradiction = refl
alike_shows [] [] None (Some d) answers contradiction = absurd contradiction
alike_shows [] [] (Some c) None answers contradiction = absurd contradiction
alike_shows [] [] (Some c) (Some d) answers contradiction = refl
alike_shows [] (y ∷ ys) c d answers contradiction = absurd answers
alike_shows (x ∷ xs) [] c d answers contradiction = absurd answers
alike_shows (x ∷ xs) (y ∷ ys) c d answers contradiction = refl

alike_status : (first second : Outcome) → AreAlikeOutcomes first second → shown_status first ≡ shown_status second
alike_status first second alike =
    ap (λ (shown : Bool). if shown then 0 else 1)
    (alike_shows first.answers second.answers first.contradiction second.contradiction alike.answers alike.contradiction)

module _ (one_outcome : OneOutcome) (one_page : OnePage) (query : Bytes) (limits : Limits) (names : List LoadName) (set : List InputClause) (status other : ℕ) (text page : Bytes) where
  answered_one : AnswersQuery query limits names set status text → AnswersQuery query limits names set other page → SameOutcome status other text page
  answered_one a b =
      let alike = one_outcome set query limits a.outcome b.outcome a.asked b.asked in (
        a.shows.done ∙ alike_status a.outcome b.outcome alike ∙ sym b.shows.done,
        a.shows.page_is ∙ one_page names a.outcome b.outcome alike ∙ sym b.shows.page_is,
      )

  pub set_one : OnSet query limits names set status text → OnSet query limits names set other page → SameOutcome status other text page
  set_one (inl a) (inl b) = text_one query status other text page a b
  set_one (inl a) (inr b) = absurd (no_query_refused query b.asked.query a.error b.asked.is_query a.refused)
  set_one (inr a) (inl b) = absurd (no_query_refused query a.asked.query b.error a.asked.is_query b.refused)
  set_one (inr a) (inr b) = answered_one a b
