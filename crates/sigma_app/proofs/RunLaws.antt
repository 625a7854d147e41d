-- What the parts of a run of the tool say of the whole run.
use Rattle.std.proofs.Common.{◌≡◌, ℕ, nat_eq, List, length, Bool, true, false, not, ◌&&◌, ◌||◌, if◌then◌else◌, nat_le, Option, ◌⊎◌, inl, inr, refl, sym, ap, ◌∙◌, subst, arith}
use Rattle.std.specs.Prelude.{MatchBool}
use Rattle.std.proofs.lemmas.Bool.{false≢true}
use Rattle.kif_tree.specs.declared.place.LoadName.{LoadName}
use Rattle.kif_tree.specs.declared.place.Located.{Located}
use Rattle.kif_tree.specs.Terms.{Bytes}
use Rattle.sig_io.specs.Causes.{Rose}
use Rattle.clause_form.specs.declared.query.QueryError.{QueryError}
use Rattle.clause_form.specs.declared.query.QueryError.TheVariants as no_query
use Rattle.saturate.specs.declared.limits.Limits.{Limits}
use Rattle.answers.specs.declared.outcome.Outcome.{Outcome}
use Rattle.answers.specs.Laws.{OneOutcome, OutcomesAreProved}
use Rattle.saturate.proofs.SoundLaws.{runs_are_sound}
use Rattle.saturate.proofs.EndsHoldLaws.{ends_hold}
use Rattle.saturate.proofs.OneRunLaws.{one_run}
use Rattle.answers.proofs.OneOutcomeLaws.{one_outcome, one_page}
use Rattle.answers.proofs.ProvedLaws.{outcomes_are_proved}
use Rattle.sigma_app.specs.declared.files.Part.{Part}
use Rattle.sigma_app.specs.Requests.{Asked, Meaning, asks, checks, gives_clauses, exports, drills, Means, paths, is_refused}
use Rattle.sigma_app.specs.Files.{Contents, file_limit, live_limit, live_size, load_names}
use Rattle.sigma_app.specs.Laws.{UsageHasCause}
use Rattle.sigma_app.specs.Limits.{HasValues}
use Rattle.sigma_app.specs.Tool.{Is, usage, live_text, many_text, is_built, reads_files, shows_answer, RefusesQuery, ShowsOutcome, OnSet, OnQuery, OnChecked, OnClauses, Following, OnTexts, OnParts, OnFiles, OnPaths, RefusesLimits, RefusesSize, OnBuilt, Tool, GivesTool}
use Rattle.sigma_app.specs.Run.{IsTrouble, IsCutShort, MayBeRefused, MustBeRefused, Appends, ReportsFault, AppendsPart, IsOwnReply, Obtains, PrintsPart, Printed}
use Rattle.sigma_app.proofs.EvidenceLaws.{shows_proof}
use Rattle.sigma_app.proofs.LimitLaws.{options_have_limits}
use Rattle.sigma_app.proofs.RequestLaws.{options_fit, sizes_fit}

-- whatever the run of a search, what it shows is proved
are_proved : OutcomesAreProved
are_proved = outcomes_are_proved runs_are_sound ends_hold

-- and its outcomes are alike
are_one : OneOutcome
are_one = one_outcome runs_are_sound one_run

-- ---- the statuses of the tool itself

-- none of those that tell of the outside or of memory
record IsOwn (status : ℕ) : Type 0 where
  no_fault : status ≡ 4 → ⊥
  no_write : status ≡ 8 → ⊥
  no_memory : status ≡ 9 → ⊥

-- and not that of refused words
record IsOfFiles (status : ℕ) : Type 0 where
  not_refused : status ≡ 2 → ⊥
  is_own : IsOwn status

two_own : (status : ℕ) → status ≡ 2 → IsOwn status
two_own status two = record { no_fault = λ e. omega arith; no_write = λ e. omega arith; no_memory = λ e. omega arith }

abbrev is_fine : ℕ → Bool
is_fine status = not (nat_eq status 2 || (nat_eq status 4 || (nat_eq status 8 || nat_eq status 9)))

fine : (status wanted : ℕ) → status ≡ wanted → is_fine wanted ≡ true → IsOfFiles status
fine status wanted e h =
    let is : is_fine status ≡ true = ap is_fine e ∙ h in
    record {
      not_refused = λ two. false≢true (sym (ap is_fine two) ∙ is);
      is_own = record {
        no_fault = λ four. false≢true (sym (ap is_fine four) ∙ is);
        no_write = λ eight. false≢true (sym (ap is_fine eight) ∙ is);
        no_memory = λ nine. false≢true (sym (ap is_fine nine) ∙ is);
      };
    }

refused_own : (error : QueryError) (status : ℕ) (text : Bytes) → RefusesQuery error status text → IsOfFiles status
refused_own (no_query.Syntax fault) status text refused = fine status 7 refused.is.done refl
refused_own no_query.NotOneForm status text refused = fine status 7 refused.done refl
refused_own no_query.RowVariable status text refused = fine status 7 refused.done refl
refused_own no_query.PredicateVariable status text refused = fine status 7 refused.done refl
refused_own no_query.HigherOrder status text refused = fine status 7 refused.done refl
refused_own no_query.TooManyClauses status text refused = fine status 7 refused.done refl
refused_own no_query.NoMemory status text refused = absurd refused

shows_own : (names : List LoadName) (outcome : Outcome) (status : ℕ) (text : Bytes) → ShowsOutcome names outcome status text → IsOfFiles status
shows_own names outcome status text shown = by_test (shows_answer outcome.answers outcome.contradiction) shown.done
  where
    by_test : (shows : Bool) → status ≡ (if shows then 0 else 1) → IsOfFiles status
    by_test true e = fine status 0 e refl
    by_test false e = fine status 1 e refl

query_own : (query : Bytes) (limits : Limits) (parts : List Part) (forms : List Located) (status : ℕ) (text : Bytes) → OnQuery query limits parts forms status text → IsOfFiles status
query_own query limits parts forms status text (inl asked) = by_set asked.answers
  where
    by_set : OnSet query limits (load_names parts) asked.translated.inputs status text → IsOfFiles status
    by_set (inl refuses) = refused_own refuses.error status text refuses.is
    by_set (inr shown) = shows_own (load_names parts) shown.outcome status text shown.shows
query_own query limits parts forms status text (inr full) = fine status 6 full.is.done refl

module _ (Next : Following) (status : ℕ) (text : Bytes) (own : (parts : List Part) (forms : List Located) → Next parts forms status text → IsOfFiles status) where
  texts_own : (parts : List Part) → OnTexts Next parts status text → IsOfFiles status
  texts_own parts (inl fault) = fine status 5 fault.faulty.is.done refl
  texts_own parts (inr spelled) = own parts spelled.forms spelled.follows

  parts_own : (parts : List Part) → OnParts Next parts status text → IsOfFiles status
  parts_own parts h = by_size (nat_le (live_size parts) live_limit) h
    where
      by_size : (fits : Bool) → MatchBool fits (OnTexts Next parts status text) (Is 6 (live_text (live_size parts)) status text) → IsOfFiles status
      by_size true x = texts_own parts x
      by_size false x = fine status 6 x.done refl

  files_own : (paths : List Bytes) (contents : Contents) → OnFiles Next paths contents status text → IsOfFiles status
  files_own paths contents (inl absent) = fine status 3 absent.is.done refl
  files_own paths contents (inr (inl long)) = fine status 6 long.is.done refl
  files_own paths contents (inr (inr found)) = parts_own found.parts found.on_parts

  paths_own : (paths : List Bytes) (contents : Contents) → OnPaths Next paths contents status text → IsOfFiles status
  paths_own paths contents h = by_count (nat_le (length paths) file_limit) h
    where
      by_count : (few : Bool) → MatchBool few (OnFiles Next paths contents status text) (Is 6 (many_text (length paths)) status text) → IsOfFiles status
      by_count true x = files_own paths contents x
      by_count false x = fine status 6 x.done refl

checked_own : (parts : List Part) (forms : List Located) (status : ℕ) (text : Bytes) → OnChecked parts forms status text → IsOfFiles status
checked_own parts forms status text (inl shown) = fine status 0 shown.is.done refl
checked_own parts forms status text (inr full) = fine status 6 full.is.done refl

clauses_own : (parts : List Part) (forms : List Located) (status : ℕ) (text : Bytes) → OnClauses parts forms status text → IsOfFiles status
clauses_own parts forms status text (inl shown) = fine status 0 shown.is.done refl
clauses_own parts forms status text (inr full) = fine status 6 full.is.done refl

-- what the status says of the words
record Judged (words : List Bytes) (status : ℕ) : Type 0 where
  is_own : IsOwn status
  refuses : status ≡ 2 → MayBeRefused words
  refused : MustBeRefused words → status ≡ 2

-- what isn't refused, and has values that it may have, doesn't have to be refused
not_refused : (meaning : Meaning) → is_refused meaning ≡ false → HasValues meaning → (is_refused meaning ≡ true) ⊎ (HasValues meaning → ⊥) → ⊥
not_refused meaning good values (inl refused) = false≢true (sym good ∙ refused)
not_refused meaning good values (inr no_values) = no_values values

judged : (words : List Bytes) (contents : Contents) (status : ℕ) (text : Bytes) → Tool words contents status text → Judged words status
judged words contents status text (inl has) = by_test (is_refused has.meaning) refl has.on_meaning
  where
    own : (meaning : Meaning) → Means words meaning → is_refused meaning ≡ false → HasValues meaning → IsOfFiles status → Judged words status
    own meaning means good values of_files = record {
      is_own = of_files.is_own;
      refuses = λ two. absurd (of_files.not_refused two);
      refused = λ must. absurd (not_refused meaning good values (must meaning means));
    }

    -- an option that may not have its value isn't among words that are taken
    by_limits : (asked : Asked) → Means words (asks asked) → RefusesLimits asked status text → Judged words status
    by_limits asked means refuses = record {
      is_own = two_own status refuses.is.done;
      refuses = λ two. inl (λ taken. refuses.none (options_have_limits asked (options_fit words asked taken means)));
      refused = λ must. refuses.is.done;
    }

    -- and neither is a size that a drill may not have
    by_size : (size : Bytes) → Means words (drills size) → RefusesSize size status text → Judged words status
    by_size size means refuses = record {
      is_own = two_own status refuses.is.done;
      refuses = λ two. inl (λ taken. refuses.none (sizes_fit words size taken means));
      refused = λ must. refuses.is.done;
    }

    by_meaning : (meaning : Meaning) → Means words meaning → is_refused meaning ≡ false → OnBuilt meaning contents status text → Judged words status
    by_meaning (asks asked) means good (inl refuses) = by_limits asked means refuses
    by_meaning (asks asked) means good (inr limited) =
        own (asks asked) means good (record { limits = limited.limits; are = limited.are })
        (paths_own (OnQuery asked.query limited.limits) status text (λ parts forms shown. query_own asked.query limited.limits parts forms status text shown) asked.paths contents limited.on_paths)
    by_meaning (checks files) means good h =
        own (checks files) means good tt (paths_own OnChecked status text (λ parts forms shown. checked_own parts forms status text shown) files contents h)
    by_meaning (gives_clauses files) means good h =
        own (gives_clauses files) means good tt (paths_own OnClauses status text (λ parts forms shown. clauses_own parts forms status text shown) files contents h)
    by_meaning (exports files) means good h = own (exports files) means good tt (fine status 10 h.done refl)
    by_meaning (drills size) means good (inl refuses) = by_size size means refuses
    by_meaning (drills size) means good (inr lacks) = own (drills size) means good lacks.may_be (fine status 10 lacks.is.done refl)

    by_test : (refused : Bool) → is_refused has.meaning ≡ refused → MatchBool refused (Is 2 usage status text) (OnBuilt has.meaning contents status text) → Judged words status
    by_test true e is = record { is_own = two_own status is.done; refuses = λ two. inr (has.meaning, has.means, e); refused = λ must. is.done }
    by_test false e built = by_meaning has.meaning has.means e built
judged words contents status text (inr none) = record { is_own = two_own status none.is.done; refuses = λ two. inl none.not_taken; refused = λ must. none.is.done }

-- the usage has a cause in the words
pub usage_caused : UsageHasCause
usage_caused words contents status text tool two = (judged words contents status text tool).refuses two

-- words whose files are read are not refused
read_good : (meaning : Meaning) → reads_files meaning ≡ true → is_refused meaning ≡ false
read_good meaning h = by_test (is_refused meaning) h
  where
    by_test : (refused : Bool) → (not refused && (is_built meaning && nat_le (length (paths meaning)) file_limit)) ≡ true → refused ≡ false
    by_test true e = absurd (false≢true e)
    by_test false e = refl

-- ---- the whole run

module _ (words : List Bytes) (told : Option Contents) (before now status : ℕ) (text : Bytes) (old new : Option Bytes) (sink_before sink_now result : ℕ) where
  trouble : ((result ≡ 8) × Rose sink_before sink_now) ⊎ ((result ≡ 9) × (sink_now ≡ sink_before)) → IsCutShort result
  trouble (inl (eight, rose)) = inl eight
  trouble (inr (nine, quiet)) = inr nine

  abbrev judge : IsOwnReply words told before now status text → Judged words status
  judge reply = judged words reply.gives.contents status text reply.gives.tool

  abbrev given_at : (gives : GivesTool words told status text) → status ≡ result → GivesTool words told result text
  given_at gives e = record { contents = gives.contents; agrees = gives.agrees; tool = subst (λ (s : ℕ). Tool words gives.contents s text) e gives.tool }

  pub answered : Obtains words told before now status text → Printed status text old new sink_before sink_now result → IsTrouble result ⊎ Appends words told old new result
  answered (inl reply) (inl all) = inr (record {
    text = text;
    gives = given_at reply.gives (sym all.is);
    proved = λ asked means zero_is.
        shows_proof are_proved are_one one_page words reply.gives.contents result text zero_is asked means (subst (λ (s : ℕ). Tool words reply.gives.contents s text) (sym all.is) reply.gives.tool);
    appended = all.appended;
  })
  answered (inr reply) (inl all) = inl (inl (all.is ∙ reply.four))
  answered reply (inr part) = inl (inr (trouble part.cause))

  cut_own : IsOwn status → result ≡ status → IsCutShort result → ⊥
  cut_own is_own e (inl eight) = is_own.no_write (sym e ∙ eight)
  cut_own is_own e (inr nine) = is_own.no_memory (sym e ∙ nine)

  cut_four : status ≡ 4 → result ≡ status → IsCutShort result → ⊥
  cut_four four e (inl eight) = omega arith
  cut_four four e (inr nine) = omega arith

  part_of : Obtains words told before now status text → PrintsPart text old new sink_before sink_now result → AppendsPart words told before now old new
  part_of (inl reply) part = (
    text,
    record { status = status; either = inl (record { gives = reply.gives; proved = λ asked means zero_is. shows_proof are_proved are_one one_page words reply.gives.contents status text zero_is asked means reply.gives.tool }, reply.quiet) },
    part.prefix,
  )
  part_of (inr reply) part = (text, record { status = status; either = inr ((reply.four, reply.names), reply.rose) }, part.prefix)

  pub cut_short : Obtains words told before now status text → Printed status text old new sink_before sink_now result → IsCutShort result → AppendsPart words told before now old new
  cut_short (inl reply) (inl all) cut = absurd (cut_own (judge reply).is_own all.is cut)
  cut_short (inr reply) (inl all) cut = absurd (cut_four reply.four all.is cut)
  cut_short reply (inr part) cut = part_of reply part

  pub write_prefix : Obtains words told before now status text → Printed status text old new sink_before sink_now result → result ≡ 8 → AppendsPart words told before now old new
  write_prefix reply printed eight = cut_short reply printed (inl eight)

  pub memory_prefix : Obtains words told before now status text → Printed status text old new sink_before sink_now result → result ≡ 9
      → (new ≡ old) ⊎ AppendsPart words told before now old new
  memory_prefix reply printed nine = inr (cut_short reply printed (inr nine))

  pub usage_only : Obtains words told before now status text → Printed status text old new sink_before sink_now result → result ≡ 2 → MayBeRefused words
  usage_only (inl reply) (inl all) two = (judge reply).refuses (sym all.is ∙ two)
  usage_only (inr reply) (inl all) two = absurd (let four = reply.four in let is = all.is in omega arith)
  usage_only reply (inr part) two = absurd (no_two part.cause)
    where
      no_two : ((result ≡ 8) × Rose sink_before sink_now) ⊎ ((result ≡ 9) × (sink_now ≡ sink_before)) → ⊥
      no_two (inl (eight, rose)) = omega arith
      no_two (inr (nine, quiet)) = omega arith

  pub refused : Obtains words told before now status text → Printed status text old new sink_before sink_now result → MustBeRefused words → (result ≡ 2) ⊎ IsCutShort result
  refused (inl reply) (inl all) must = inl (all.is ∙ (judge reply).refused must)
  refused (inr reply) (inl all) must =
      let fault = reply.names.fault in absurd (not_refused fault.meaning (read_good fault.meaning fault.reads) fault.values (must fault.meaning fault.means))
  refused reply (inr part) must = inr (trouble part.cause)

  pub file_fault : Obtains words told before now status text → Printed status text old new sink_before sink_now result → result ≡ 4 → ReportsFault words told before now old new
  file_fault (inl reply) (inl all) four = absurd ((judge reply).is_own.no_fault (sym all.is ∙ four))
  file_fault (inr reply) (inl all) four =
      record { rose = reply.rose; contents = reply.names.contents; agrees = reply.names.agrees; text = text; fault = reply.names.fault; appended = all.appended }
  file_fault reply (inr part) four = absurd (no_four part.cause)
    where
      no_four : ((result ≡ 8) × Rose sink_before sink_now) ⊎ ((result ≡ 9) × (sink_now ≡ sink_before)) → ⊥
      no_four (inl (eight, rose)) = omega arith
      no_four (inr (nine, quiet)) = omega arith

  pub file_cause : Obtains words told before now status text → Printed status text old new sink_before sink_now result → (now ≡ before) ⊎ (Rose before now × IsTrouble result)
  file_cause (inl reply) printed = inl reply.quiet
  file_cause (inr reply) (inl all) = inr (reply.rose, inl (all.is ∙ reply.four))
  file_cause (inr reply) (inr part) = inr (reply.rose, inr (trouble part.cause))

  pub write_fault : Obtains words told before now status text → Printed status text old new sink_before sink_now result → result ≡ 8 → Rose sink_before sink_now
  write_fault reply (inr part) eight = by_cause part.cause
    where
      by_cause : ((result ≡ 8) × Rose sink_before sink_now) ⊎ ((result ≡ 9) × (sink_now ≡ sink_before)) → Rose sink_before sink_now
      by_cause (inl (same, rose)) = rose
      by_cause (inr (nine, quiet)) = absurd (omega arith)
  write_fault (inl reply) (inl all) eight = absurd ((judge reply).is_own.no_write (sym all.is ∙ eight))
  write_fault (inr reply) (inl all) eight = absurd (let four = reply.four in let is = all.is in omega arith)

  pub write_cause : Printed status text old new sink_before sink_now result → (result ≡ 8 → ⊥) → sink_now ≡ sink_before
  write_cause (inl all) no_eight = all.quiet
  write_cause (inr part) no_eight = by_cause part.cause
    where
      by_cause : ((result ≡ 8) × Rose sink_before sink_now) ⊎ ((result ≡ 9) × (sink_now ≡ sink_before)) → sink_now ≡ sink_before
      by_cause (inl (eight, rose)) = absurd (no_eight eight)
      by_cause (inr (nine, quiet)) = quiet
