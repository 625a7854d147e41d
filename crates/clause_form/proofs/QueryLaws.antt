-- What a text's answer says of its one form.
use Rattle.std.proofs.Common.{◌≡◌, ◌⊎◌, ℕ, ◌<◌, ◌≤◌, List, [], ◌∷◌, length, get_or, subst}
use Rattle.std.specs.Prelude.{Result, Ok, Err, IfOk, MatchResult}
use Rattle.sigma_base.proofs.SliceLaws.{one_item}
use Rattle.kif_tree.specs.declared.place.Located.{Located}
use Rattle.kif_reader.specs.Spelling.{Spells}
use Rattle.clause_form.specs.Queries.{negated_matrix, form_answer, IsQueryOf}
use Rattle.clause_form.specs.declared.query.QueryClauses.{QueryClauses}
use Rattle.clause_form.specs.declared.query.QueryError.{QueryError}
use Rattle.clause_form.specs.declared.query.QueryError.TheVariants as errors
use Rattle.clause_form.proofs.AcceptedLaws.{query_of}
use Rattle.clause_form.proofs.TruthLaws.{distribution_is_true}

-- the one form that was read
pub spells_alone : (text : List ℕ) (forms : List Located) (located : Located) → 1 ≤ length forms → length forms < 2 → located ≡ get_or forms 0 located
    → Spells 0 text forms → Spells 0 text (located ∷ [])
spells_alone text forms located some one is spells = subst (Spells 0 text) (one_item forms located some one is) spells

pub answered : (text : List ℕ) (located : Located) → Spells 0 text (located ∷ []) → (result : Result QueryClauses QueryError)
    → MatchResult result (λ found. form_answer located.form ≡ Ok found) (λ error. (error ≡ errors.NoMemory) ⊎ (form_answer located.form ≡ Err error))
    → IfOk result (λ found. IsQueryOf text found)
answered text located spells (Ok found) h = query_of text located found spells h (distribution_is_true (negated_matrix located.form))
answered text located spells (Err error) h = tt
