-- Queries that are accepted: their clauses are proper, each with the answer literal last.
use Rattle.std.proofs.Common.{◌≡◌, ℕ, List, [], ◌∷◌, length, Bool, true, false, not, if◌then◌else◌, refl, sym, ap, subst}
use Rattle.std.specs.Prelude.{Result, Ok, Err}
use Rattle.sigma_base.specs.Lists.{Each}
use Rattle.kif_tree.specs.declared.form.Form.{Form}
use Rattle.kif_tree.specs.declared.place.Located.{Located}
use Rattle.kif_tree.specs.Terms.{has_no_row}
use Rattle.kif_tree.specs.Shape.{is_shaped}
use Rattle.kif_tree.specs.Profile.{is_in_profile}
use Rattle.kif_reader.specs.Spelling.{Spells}
use Rattle.kif_reader.proofs.SpellableLaws.{spelled_shaped}
use Rattle.clause_form.specs.ClauseForms.{passes_limit, DistributionIsTrue}
use Rattle.clause_form.specs.Matrices.{distribution}
use Rattle.clause_form.specs.Sentences.{is_sentence, IsQueryClause}
use Rattle.clause_form.specs.Queries.{asked, negated_matrix, query_clauses, applies_variable, form_answer, IsQueryOf}
use Rattle.clause_form.specs.declared.query.QueryClauses.{QueryClauses}
use Rattle.clause_form.specs.declared.query.QueryError.{QueryError}
use Rattle.clause_form.specs.declared.query.QueryError.TheVariants as errors
use Rattle.clause_form.proofs.InputLaws.{sentences_give_query_clauses}
use Rattle.clause_form.proofs.ProfiledLaws.{profiled_are_sentences}

-- what an accepted form is, and what is found
pub record IsAccepted (query : Form) (found : QueryClauses) : Type 0 where
  pub rowless : has_no_row query ≡ true
  pub applied : applies_variable query ≡ false
  pub profiled : is_in_profile query ≡ true
  pub clauses : found.clauses ≡ query_clauses query
  pub asks : found.asked ≡ asked query

unrefused : (b : Bool) → not b ≡ false → b ≡ true
unrefused true h = refl
unrefused false h = absurd (let k : true ≡ false = h in cc)

pub accepted : (query : Form) (found : QueryClauses) → form_answer query ≡ Ok found → IsAccepted query found
accepted query found = go (not (has_no_row query)) (applies_variable query) (not (is_in_profile query)) (passes_limit (distribution (negated_matrix query))) refl refl refl
  where
    here : QueryClauses
    here = record { clauses = query_clauses query; asked = asked query }

    answer : Bool → Bool → Bool → Bool → Result QueryClauses QueryError
    answer row applies outside many = if row then Err errors.RowVariable else if applies then Err errors.PredicateVariable else if outside then Err errors.HigherOrder else if many then Err errors.TooManyClauses else Ok here

    go : (row applies outside many : Bool) → not (has_no_row query) ≡ row → applies_variable query ≡ applies → not (is_in_profile query) ≡ outside → answer row applies outside many ≡ Ok found → IsAccepted query found
    go true applies outside many er ea eo e = absurd (cc)
    go false true outside many er ea eo e = absurd (cc)
    go false false true many er ea eo e = absurd (cc)
    go false false false true er ea eo e = absurd (cc)
    go false false false false er ea eo e =
        let same : here ≡ found = cc in
        record {
          rowless = unrefused (has_no_row query) er;
          applied = ea;
          profiled = unrefused (is_in_profile query) eo;
          clauses = ap (λ (q : QueryClauses). q.clauses) (sym same);
          asks = ap (λ (q : QueryClauses). q.asked) (sym same);
        }

-- a shaped form that is accepted is a sentence
pub accepted_is_sentence : (query : Form) (found : QueryClauses) → is_shaped query ≡ true → form_answer query ≡ Ok found → is_sentence query ≡ true
accepted_is_sentence query found shaped answers =
    let ok = accepted query found answers in
    profiled_are_sentences query shaped ok.profiled ok.rowless ok.applied

pub accepted_clauses : (query : Form) (found : QueryClauses) → is_shaped query ≡ true → form_answer query ≡ Ok found → Each (IsQueryClause (length (asked query))) found.clauses
accepted_clauses query found shaped answers =
    subst (Each (IsQueryClause (length (asked query)))) (sym (accepted query found answers).clauses) (sentences_give_query_clauses query (accepted_is_sentence query found shaped answers))

-- the answer to a text that spells one form, where the distribution of its matrix means what the matrix does
pub query_of : (text : List ℕ) (located : Located) (found : QueryClauses) → Spells 0 text (located ∷ []) → form_answer located.form ≡ Ok found → DistributionIsTrue (negated_matrix located.form) → IsQueryOf text found
query_of text located found spells answers equivalent =
    let ok = accepted located.form found answers in
    record {
      located = located;
      spells = spells;
      clauses = ok.clauses;
      asks = ok.asks;
      equivalent = equivalent;
      are = accepted_clauses located.form found (spelled_shaped 0 text (located ∷ []) spells).0 answers;
    }
