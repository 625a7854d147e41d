-- Why a good query over good files shows an answer, or that there is none.
use Rattle.std.proofs.Common.{◌≡◌, ◌≢◌, ℕ, List, Bool, true, false, ◌⊎◌, inl, inr, subst, length, Ok}
use Rattle.std.specs.Prelude.{MatchBool, if◌then◌else◌}
use Rattle.kif_tree.specs.declared.place.Located.{Located}
use Rattle.kif_tree.specs.declared.place.Place.{Place}
use Rattle.kif_tree.specs.Terms.{Bytes}
use Rattle.clause_form.specs.declared.query.QueryClauses.{QueryClauses}
use Rattle.clause_form.specs.Queries.{IsQueryAnswer}
use Rattle.saturate.specs.declared.limits.Limits.{Limits}
use Rattle.sigma_app.specs.declared.files.Part.{Part}
use Rattle.sigma_app.specs.Files.{Contents, live_size, load_names, SpellParts, HaveForms}
use Rattle.sigma_app.specs.Laws.{GoodQueriesAreAnswered}
use Rattle.sigma_app.specs.Requests.{Asked, Meaning, asks}
use Rattle.sigma_app.specs.Snapshots.{AreFull}
use Rattle.sigma_app.specs.Tool.{Is, usage, live_text, many_text, OnSet, OnQuery, OnTexts, OnParts, OnFiles, OnPaths, OnAsked, OnMeaning}
use Rattle.sigma_app.proofs.OneQueryLaws.{no_query_refused}
use Rattle.sigma_app.proofs.OutcomeLaws.{parts_one, faulty_spelled, spelled_at, whole_one, absent_missed, long_missed, missed_whole}
use Rattle.sigma_app.proofs.RequestLaws.{means_one}

-- ---- the one case that is left

shown_or_none : (shown : Bool) (status : ℕ) → status ≡ (if shown then 0 else 1) → (status ≡ 0) ⊎ (status ≡ 1)
shown_or_none true status is = inl is
shown_or_none false status is = inr is

module _ (asked : Asked) (contents : Contents) (parts : List Part) (forms : List Located) (query : QueryClauses) (status : ℕ) (text : Bytes)
    (have : HaveForms contents asked.paths parts forms) (fits : (place : Place) → AreFull forms place → ⊥) (is_query : IsQueryAnswer asked.query (Ok query)) where
  on_query : (limits : Limits) → OnQuery asked.query limits parts forms status text → (status ≡ 0) ⊎ (status ≡ 1)
  on_query limits (inl over) = on_set over.answers
    where
      on_set : OnSet asked.query limits (load_names parts) over.translated.inputs status text → (status ≡ 0) ⊎ (status ≡ 1)
      on_set (inl refused) = absurd (no_query_refused asked.query query refused.error is_query refused.refused)
      on_set (inr answers) = shown_or_none _ status answers.shows.done
  on_query limits (inr full) = absurd (fits full.place full.full)

  on_texts : (limits : Limits) → OnTexts (OnQuery asked.query limits) parts status text → (status ≡ 0) ⊎ (status ≡ 1)
  on_texts limits (inl fault) =
      let mine = spelled_at fault.earlier fault.part fault.later forms (subst (λ (ps : List Part). SpellParts ps forms) fault.stands have.spelled) in
      absurd (faulty_spelled fault.part status text mine.0 fault.faulty mine.1)
  on_texts limits (inr spelled) =
      on_query limits (subst (λ (fs : List Located). OnQuery asked.query limits parts fs status text) (parts_one parts spelled.forms forms spelled.spelled have.spelled) spelled.follows)

  on_parts : (limits : Limits) → OnParts (OnQuery asked.query limits) parts status text → (status ≡ 0) ⊎ (status ≡ 1)
  on_parts limits on =
      on_texts limits
      (subst (λ (fits : Bool). MatchBool fits (OnTexts (OnQuery asked.query limits) parts status text) (Is 6 (live_text (live_size parts)) status text)) have.fit on)

  on_files : (limits : Limits) → OnFiles (OnQuery asked.query limits) asked.paths contents status text → (status ≡ 0) ⊎ (status ≡ 1)
  on_files limits (inl absent) =
      absurd (missed_whole contents asked.paths absent.path parts absent.reached (absent_missed contents absent.path absent.absent) have.whole)
  on_files limits (inr (inl long)) =
      absurd (missed_whole contents asked.paths long.path parts long.reached (long_missed contents long.path long.body long.held long.long) have.whole)
  on_files limits (inr (inr found)) =
      on_parts limits
      (subst (λ (ps : List Part). OnParts (OnQuery asked.query limits) ps status text) (whole_one contents 1 asked.paths found.parts parts found.whole have.whole) found.on_parts)

  on_paths : (limits : Limits) → OnPaths (OnQuery asked.query limits) asked.paths contents status text → (status ≡ 0) ⊎ (status ≡ 1)
  on_paths limits on =
      on_files limits
      (subst (λ (few : Bool). MatchBool few (OnFiles (OnQuery asked.query limits) asked.paths contents status text) (Is 6 (many_text (length asked.paths)) status text)) have.few on)

  on_asked : status ≢ 2 → OnAsked asked contents status text → (status ≡ 0) ⊎ (status ≡ 1)
  on_asked taken (inl refused) = absurd (taken refused.is.done)
  on_asked taken (inr on) = on_paths on.limits on.on_paths

pub good_query : GoodQueriesAreAnswered
good_query words contents asked parts forms query status text means good have fits is_query (inl has) taken =
    let same = means_one words has.meaning (asks asked) has.means means in
    let on : OnMeaning (asks asked) contents status text = subst (λ (m : Meaning). OnMeaning m contents status text) same has.on_meaning in
    on_asked asked contents parts forms query status text have fits is_query taken
    (subst (λ (refused : Bool). MatchBool refused (Is 2 usage status text) (OnAsked asked contents status text)) good on)
good_query words contents asked parts forms query status text means good have fits is_query (inr none) taken = absurd (taken none.is.done)
