-- A text is one query or is none for one reason at most; so a good query within the limits is refused for want of memory alone.
use Rattle.std.proofs.Common.{◌≡◌, inl, inr, List, [], ◌∷◌, Bool, true, false, not, if◌then◌else◌, refl, sym, ap, ◌∙◌, Result, Ok, Err}
use Rattle.kif_tree.specs.declared.form.Form.{Form}
use Rattle.kif_tree.specs.declared.place.Located.{Located}
use Rattle.kif_tree.specs.Terms.{Bytes, has_no_row}
use Rattle.kif_tree.specs.Profile.{is_in_profile}
use Rattle.kif_reader.specs.declared.kinds.ReadError.{ReadError}
use Rattle.kif_reader.proofs.ReadingIsOneLaws.{spells_unique}
use Rattle.kif_reader.proofs.OneFaultLaws.{spells_no_fault, fault_unique}
use Rattle.clause_form.specs.declared.query.QueryClauses.{QueryClauses}
use Rattle.clause_form.specs.declared.query.QueryError.{QueryError}
use Rattle.clause_form.specs.declared.query.QueryError.TheVariants as no_query
use Rattle.clause_form.specs.ClauseForms.{passes_limit}
use Rattle.clause_form.specs.Matrices.{distribution}
use Rattle.clause_form.specs.Queries.{asked, negated_matrix, query_clauses, applies_variable, form_answer, forms_answer, IsQueryAnswer}
use Rattle.saturate.specs.declared.limits.LimitsError.{LimitsError}
use Rattle.answers.specs.declared.question.AskError.TheVariants as errors
use Rattle.answers.specs.Laws.{OneQueryAnswer, MemoryIsNoQueryAnswer, GoodIsRefusedForMemory, AskedIsRefusedForMemory}

-- ---- the text

abbrev syntax_answer : ReadError → Result QueryClauses QueryError
syntax_answer error = Err (no_query.Syntax error)

-- a text is a query of one list of clauses, or is refused for one cause
pub query_answer_one : OneQueryAnswer
query_answer_one text a b (inl first) (inl second) =
    first.is ∙ ap forms_answer (spells_unique 0 text first.forms second.forms first.spells second.spells) ∙ sym second.is
query_answer_one text a b (inl first) (inr second) = absurd (spells_no_fault 0 text first.forms second.error first.spells second.first second.is_fault)
query_answer_one text a b (inr first) (inl second) = absurd (spells_no_fault 0 text second.forms first.error second.spells first.first first.is_fault)
query_answer_one text a b (inr first) (inr second) =
    first.is ∙ ap syntax_answer (fault_unique 0 text first.error second.error first.first second.first first.is_fault second.is_fault) ∙ sym second.is

pub one_query : (text : Bytes) (a b : QueryClauses) → IsQueryAnswer text (Ok a) → IsQueryAnswer text (Ok b) → a ≡ b
one_query text a b is other = let same : Ok a ≡ Ok b = query_answer_one text (Ok a) (Ok b) is other in cc

pub one_error : (text : Bytes) (a b : QueryError) → IsQueryAnswer text (Err a) → IsQueryAnswer text (Err b) → a ≡ b
one_error text a b refused other = let same : Err a ≡ Err b = query_answer_one text (Err a) (Err b) refused other in cc

pub no_query_refused : (text : Bytes) (query : QueryClauses) (error : QueryError) → IsQueryAnswer text (Ok query) → IsQueryAnswer text (Err error) → ⊥
no_query_refused text query error is refused =
    let no_way : Ok query ≡ Err error = query_answer_one text (Ok query) (Err error) is refused in cc

form_no_memory : (query : Form) → form_answer query ≡ Err no_query.NoMemory → ⊥
form_no_memory query = go (not (has_no_row query)) (applies_variable query) (not (is_in_profile query)) (passes_limit (distribution (negated_matrix query)))
  where
    here : QueryClauses
    here = record { clauses = query_clauses query; asked = asked query }

    answer : Bool → Bool → Bool → Bool → Result QueryClauses QueryError
    answer row applies outside many = if row then Err no_query.RowVariable else if applies then Err no_query.PredicateVariable else if outside then Err no_query.HigherOrder else if many then Err no_query.TooManyClauses else Ok here

    go : (row applies outside many : Bool) → answer row applies outside many ≡ Err no_query.NoMemory → ⊥
    go true applies outside many e = cc
    go false true outside many e = cc
    go false false true many e = cc
    go false false false true e = cc
    go false false false false e = cc

forms_no_memory : (forms : List Located) → forms_answer forms ≡ Err no_query.NoMemory → ⊥
forms_no_memory [] e = cc
forms_no_memory (located ∷ []) e = form_no_memory located.form e
forms_no_memory (first ∷ second ∷ more) e = cc

pub memory_no_answer : MemoryIsNoQueryAnswer
memory_no_answer text (inl answer) = forms_no_memory answer.forms (sym answer.is)
memory_no_answer text (inr answer) = let no_way : syntax_answer answer.error ≡ Err no_query.NoMemory = sym answer.is in cc

-- ---- the question

pub limits_error : {A : Type 0} (error : LimitsError) → (let answer : Result (Unit {0}) LimitsError = Err error in answer) ≡ Ok tt → A
limits_error error e = absurd (cc)

pub good_refused : GoodIsRefusedForMemory
good_refused text limits query (errors.Limits error) within is_query refused = limits_error error (sym refused ∙ within)
good_refused text limits query (errors.Query error) within is_query refused = absurd (no_query_refused text query error is_query refused.refused)
good_refused text limits query errors.NoMemory within is_query refused = refl

pub asked_refused : AskedIsRefusedForMemory
asked_refused set text limits outcome error asked refused = good_refused text limits asked.query error asked.within asked.is_query refused
