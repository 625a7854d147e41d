-- Why the tool has an outcome for words that ask no query.
use Rattle.std.proofs.Common.{◌≡◌, ◌≢◌, ℕ, ◌+◌, ◌≤◌, List, [], ◌∷◌, ◌++◌, length, nat_le, Bool, true, false, Option, Some, None, ◌⊎◌, inl, inr, refl, sym, ap, ◌∙◌, subst, arith}
use Rattle.std.specs.Prelude.{MatchBool}
use Rattle.std.proofs.lemmas.Bool.Decides.{nat_tests}
use Rattle.kif_tree.specs.declared.place.Located.{Located}
use Rattle.kif_tree.specs.declared.place.Place.{Place}
use Rattle.kif_tree.specs.Terms.{Bytes}
use Rattle.sig_io.specs.Told.{body_of}
use Rattle.kif_reader.specs.Laws.{HasReading}
use Rattle.kif_reader.specs.Spelling.{Spells, FirstFault}
use Rattle.kif_reader.specs.declared.bytes.Spot.{Spot}
use Rattle.kif_reader.specs.declared.kinds.ReadError.{ReadError}
use Rattle.kif_reader.specs.declared.kinds.ReadError.TheVariants as unread
use Rattle.kif_reader.proofs.FrontLaws.{by_test}
use Rattle.kif_reader.proofs.SomeReadingLaws.{some_reading}
use Rattle.sigma_app.specs.declared.files.Part.{Part}
use Rattle.sigma_app.specs.CheckPage.{check_page}
use Rattle.sigma_app.specs.ClausesPage.{clauses_page}
use Rattle.sigma_app.specs.Files.{Contents, byte_limit, file_limit, live_limit, AreWhole, live_size, load_names, SpellParts, HaveForms}
use Rattle.sigma_app.specs.Laws.{Outcome, Translating, Asking, AreTranslated, HaveTranslated, ToolAnswers, TranslationsAnswer}
use Rattle.sigma_app.specs.Snapshots.{snapshot_text, AreFull}
use Rattle.sigma_app.specs.Limits.{HasSize}
use Rattle.sigma_app.specs.Requests.{Asked, Meaning, asks, checks, gives_clauses, exports, drills, meaning, is_refused}
use Rattle.sigma_app.specs.Tool.{Is, usage, not_built, absent_text, long_text, live_text, many_text, fault_in, syntax_text, OnChecked, OnClauses, IsSnapshotFull, Following, HasFault, OnTexts, OnParts, OnFiles, OnPaths, OnDrill, OnBuilt, Tool}
use Rattle.sigma_app.proofs.LimitLaws.{size_or_not}
use Rattle.sigma_app.proofs.RequestLaws.{means_one, taken_meaning}

it_is : (wanted : ℕ) (page : Bytes) → Is wanted page wanted page
it_is wanted page = record { done = refl; page_is = refl }

-- ---- the texts

fault_at : (error : ReadError) → error ≢ unread.NoMemory → (code : ℕ) × (spot : Spot) × (fault_in error ≡ Some (code, spot))
fault_at (unread.BadByte spot) real = (1, spot, refl)
fault_at (unread.OpenString spot) real = (2, spot, refl)
fault_at (unread.OpenList spot) real = (3, spot, refl)
fault_at (unread.StrayClose spot) real = (4, spot, refl)
fault_at (unread.BadEscape spot) real = (5, spot, refl)
fault_at (unread.BadWord spot) real = (6, spot, refl)
fault_at (unread.TooDeep spot) real = (7, spot, refl)
fault_at (unread.LogicShape spot) real = (8, spot, refl)
fault_at unread.NoMemory real = absurd (real refl)

abbrev SpelledOrNot : List Part → Type 0
SpelledOrNot parts = ((forms : List Located) × SpellParts parts forms) ⊎ Outcome (HasFault parts)

module _ (part : Part) (parts : List Part) where
  fault_here : (error : ReadError) → error ≢ unread.NoMemory → FirstFault part.number part.text error → Outcome (HasFault (part ∷ parts))
  fault_here error real fault =
      let at = fault_at error real in
      let page = syntax_text part.name at.0 at.1 in (
        5,
        page,
        record {
          earlier = [];
          part = part;
          later = parts;
          stands = refl;
          forms = [];
          spelled = refl;
          faulty = record { error = error; code = at.0; spot = at.1; fault = fault; at = at.2; is = it_is 5 page };
        },
      )

  fault_later : (mine : List Located) → Spells part.number part.text mine → Outcome (HasFault parts) → Outcome (HasFault (part ∷ parts))
  fault_later mine spelled (status, text, has) = (
    status,
    text,
    record {
      earlier = part ∷ has.earlier;
      part = has.part;
      later = has.later;
      stands = ap (λ (ps : List Part). part ∷ ps) has.stands;
      forms = mine ++ has.forms;
      spelled = (mine, has.forms, refl, spelled, has.spelled);
      faulty = has.faulty;
    },
  )

  spelled_by : HasReading part.number part.text → SpelledOrNot parts → SpelledOrNot (part ∷ parts)
  spelled_by (inl (mine, spelled)) (inl (forms, rest)) = inl (mine ++ forms, (mine, forms, refl, spelled, rest))
  spelled_by (inl (mine, spelled)) (inr fault) = inr (fault_later mine spelled fault)
  spelled_by (inr (error, real, fault)) more = inr (fault_here error real fault)

spelled_or_not : (parts : List Part) → SpelledOrNot parts
spelled_or_not [] = inl ([], refl)
spelled_or_not (part ∷ parts) = spelled_by part parts (some_reading part.number part.text) (spelled_or_not parts)

-- ---- the files

-- why a file isn't whole
abbrev IsLong : Contents → Bytes → Type 0
IsLong contents path = (body : Bytes) × (body_of contents path ≡ Some body) × (nat_le (length body) byte_limit ≡ false)

-- the first file that isn't found whole
record Missed (contents : Contents) (at : ℕ) (paths : List Bytes) : Type 0 where
  earlier : List Bytes
  path : Bytes
  later : List Bytes
  parts : List Part
  stands : paths ≡ earlier ++ path ∷ later
  whole : AreWhole contents at earlier parts
  cause : (body_of contents path ≡ None) ⊎ IsLong contents path

abbrev WholeOrNot : Contents → ℕ → List Bytes → Type 0
WholeOrNot contents at paths = ((parts : List Part) × AreWhole contents at paths parts) ⊎ Missed contents at paths

module _ (contents : Contents) (at : ℕ) (path : Bytes) (paths : List Bytes) where
  missed_here : (body_of contents path ≡ None) ⊎ IsLong contents path → Missed contents at (path ∷ paths)
  missed_here cause = record { earlier = []; path = path; later = paths; parts = []; stands = refl; whole = refl; cause = cause }

  part_with : Bytes → Part
  part_with body = record { number = at; name = path; text = body }

  whole_more : (body : Bytes) → body_of contents path ≡ Some body → length body ≤ byte_limit → WholeOrNot contents (at + 1) paths → WholeOrNot contents at (path ∷ paths)
  unfolding part_with
  whole_more body held short (inl (parts, whole)) = inl (part_with body ∷ parts, (record { held = held; short = short; named = refl; numbered = refl }, whole))
  whole_more body held short (inr missed) = inr (record {
    earlier = path ∷ missed.earlier;
    path = missed.path;
    later = missed.later;
    parts = part_with body ∷ missed.parts;
    stands = ap (λ (ps : List Bytes). path ∷ ps) missed.stands;
    whole = (record { held = held; short = short; named = refl; numbered = refl }, missed.whole);
    cause = missed.cause;
  })

  whole_by : (o : Option Bytes) → body_of contents path ≡ o → WholeOrNot contents (at + 1) paths → WholeOrNot contents at (path ∷ paths)
  whole_by None held more = inr (missed_here (inl held))
  whole_by (Some body) held more = by_test (nat_le (length body) byte_limit)
      (λ fits. whole_more body held (grind (arith, nat_tests, fits)) more)
      (λ long. inr (missed_here (inr (body, held, long))))

whole_or_not : (contents : Contents) (at : ℕ) (paths : List Bytes) → WholeOrNot contents at paths
whole_or_not contents at [] = inl ([], refl)
whole_or_not contents at (path ∷ paths) = whole_by contents at path paths (body_of contents path) refl (whole_or_not contents (at + 1) paths)

-- ---- the files and their forms, and what follows on them

module _ (Next : Following) (contents : Contents) (paths : List Bytes) (some : (parts : List Part) (forms : List Located) → HaveForms contents paths parts forms → Outcome (Next parts forms)) where
  texts_by : (parts : List Part) → ((forms : List Located) → SpellParts parts forms → HaveForms contents paths parts forms) → SpelledOrNot parts → Outcome (OnTexts Next parts)
  texts_by parts have (inl (forms, spelled)) =
      let next = some parts forms (have forms spelled) in
      (next.0, next.1, inr (record { forms = forms; spelled = spelled; follows = next.2 }))
  texts_by parts have (inr (status, text, fault)) = (status, text, inl fault)

  size_by : (parts : List Part) (fit : Bool) → (fit ≡ true → (forms : List Located) → SpellParts parts forms → HaveForms contents paths parts forms)
      → Outcome (λ status text. MatchBool fit (OnTexts Next parts status text) (Is 6 (live_text (live_size parts)) status text))
  size_by parts true have = texts_by parts (have refl) (spelled_or_not parts)
  size_by parts false have = (6, live_text (live_size parts), it_is 6 (live_text (live_size parts)))

  parts_some : nat_le (length paths) file_limit ≡ true → (parts : List Part) → AreWhole contents 1 paths parts → Outcome (OnParts Next parts)
  parts_some few parts whole =
      size_by parts (nat_le (live_size parts) live_limit) (λ fit forms spelled. record { few = few; whole = whole; fit = fit; spelled = spelled })

  missed_by : (missed : Missed contents 1 paths) → (body_of contents missed.path ≡ None) ⊎ IsLong contents missed.path → Outcome (OnFiles Next paths contents)
  missed_by missed (inl absent) = (
    3,
    absent_text missed.path,
    inl (record {
      path = missed.path;
      reached = record { earlier = missed.earlier; later = missed.later; parts = missed.parts; stands = missed.stands; whole = missed.whole };
      absent = absent;
      is = it_is 3 (absent_text missed.path);
    }),
  )
  missed_by missed (inr (body, held, long)) = (
    6,
    long_text missed.path,
    inr (inl (record {
      path = missed.path;
      reached = record { earlier = missed.earlier; later = missed.later; parts = missed.parts; stands = missed.stands; whole = missed.whole };
      body = body;
      held = held;
      long = long;
      is = it_is 6 (long_text missed.path);
    })),
  )

  files_by : nat_le (length paths) file_limit ≡ true → WholeOrNot contents 1 paths → Outcome (OnFiles Next paths contents)
  files_by few (inl (parts, whole)) =
      let on_parts = parts_some few parts whole in
      (on_parts.0, on_parts.1, inr (inr (record { parts = parts; whole = whole; on_parts = on_parts.2 })))
  files_by few (inr missed) = missed_by missed missed.cause

  count_by : (few : Bool) → nat_le (length paths) file_limit ≡ few
      → Outcome (λ status text. MatchBool few (OnFiles Next paths contents status text) (Is 6 (many_text (length paths)) status text))
  count_by true e = files_by e (whole_or_not contents 1 paths)
  count_by false e = (6, many_text (length paths), it_is 6 (many_text (length paths)))

  paths_some : Outcome (OnPaths Next paths contents)
  paths_some = count_by (nat_le (length paths) file_limit) refl

-- ---- the words

full_some : (parts : List Part) (forms : List Located) (place : Place) → AreFull forms place → Outcome (IsSnapshotFull parts forms)
full_some parts forms place full =
    let page = snapshot_text (load_names parts) place in
    (6, page, record { place = place; full = full; is = it_is 6 page })

checked_some : (parts : List Part) (forms : List Located) → AreTranslated forms → Outcome (OnChecked parts forms)
checked_some parts forms (inl (place, full)) = let shown = full_some parts forms place full in (shown.0, shown.1, inr shown.2)
checked_some parts forms (inr (translated, have, (list, are))) =
    let page = check_page (load_names parts) list in
    (0, page, inl (record { translated = translated; have = have; list = list; are = are; is = it_is 0 page }))

clauses_some : (parts : List Part) (forms : List Located) → AreTranslated forms → Outcome (OnClauses parts forms)
clauses_some parts forms (inl (place, full)) = let shown = full_some parts forms place full in (shown.0, shown.1, inr shown.2)
clauses_some parts forms (inr (translated, have, (list, are))) =
    let page = clauses_page (load_names parts) translated.inputs in
    (0, page, inl (record { translated = translated; have = have; is = it_is 0 page }))

drill_some : (size : Bytes) → HasSize size ⊎ (HasSize size → ⊥) → Outcome (OnDrill size)
drill_some size (inl may_be) = (10, not_built, inr (record { may_be = may_be; is = it_is 10 not_built }))
drill_some size (inr none) = (2, usage, inl (record { none = none; is = it_is 2 usage }))

-- where the value is a check or asks for clauses, the forms of its files have a translation, or too many clauses
abbrev Readied : Meaning → Contents → Type 0
Readied value contents = (files : List Bytes) → (value ≡ checks files) ⊎ (value ≡ gives_clauses files) → HaveTranslated contents files

-- the value is no query
abbrev IsUnasked : Meaning → Type 0
IsUnasked value = (asked : Asked) → value ≡ asks asked → ⊥

built_some : (value : Meaning) (contents : Contents) → Readied value contents → IsUnasked value → Outcome (OnBuilt value contents)
built_some (asks asked) contents readied unasked = absurd (unasked asked refl)
built_some (checks files) contents readied unasked = paths_some OnChecked contents files (λ parts forms have. checked_some parts forms (readied files (inl refl) parts forms have))
built_some (gives_clauses files) contents readied unasked = paths_some OnClauses contents files (λ parts forms have. clauses_some parts forms (readied files (inr refl) parts forms have))
built_some (exports files) contents readied unasked = (10, not_built, it_is 10 not_built)
built_some (drills size) contents readied unasked = drill_some size (size_or_not size)

refused_by : (value : Meaning) (contents : Contents) → Readied value contents → IsUnasked value → (refused : Bool)
    → Outcome (λ status text. MatchBool refused (Is 2 usage status text) (OnBuilt value contents status text))
refused_by value contents readied unasked true = (2, usage, it_is 2 usage)
refused_by value contents readied unasked false = built_some value contents readied unasked

-- words that mean a value which is a check or asks for clauses
translating : (words : List Bytes) (value : Meaning) (files : List Bytes) → meaning words ≡ Some value → (value ≡ checks files) ⊎ (value ≡ gives_clauses files) → Translating words files
translating words value files means (inl e) = inl (means ∙ ap Some e)
translating words value files means (inr e) = inr (means ∙ ap Some e)

module _ (words : List Bytes) (contents : Contents) (readied : (files : List Bytes) → Translating words files → HaveTranslated contents files) (unasked : Asking words → ⊥) where
  meaning_by : (o : Option Meaning) → meaning words ≡ o → Outcome (Tool words contents)
  meaning_by None none =
      (2, usage, inr (record { not_taken = λ taken. (let some = taken_meaning words taken in let no_way : None ≡ Some some.0 = sym none ∙ some.1 in cc); is = it_is 2 usage }))
  meaning_by (Some value) means =
      let on_meaning =
      refused_by value contents (λ files e. readied files (translating words value files means e)) (λ asked e. unasked (asked, means ∙ ap Some e)) (is_refused value) in
      (on_meaning.0, on_meaning.1, inl (record { meaning = value; means = means; on_meaning = on_meaning.2 }))

-- words for which no translation is needed
pub some_outcome : ToolAnswers
some_outcome words contents none unasked = meaning_by words contents (λ files means. absurd (none files means)) unasked (meaning words) refl

same_checked : (files others : List Bytes) → checks files ≡ checks others → files ≡ others
same_checked files others e = cc

same_given : (files others : List Bytes) → gives_clauses files ≡ gives_clauses others → files ≡ others
same_given files others e = cc

apart : (files others : List Bytes) → checks files ≡ gives_clauses others → ⊥
apart files others e = cc

same_files : (words files others : List Bytes) → Translating words files → Translating words others → files ≡ others
same_files words files others (inl a) (inl b) = same_checked files others (means_one words (checks files) (checks others) a b)
same_files words files others (inl a) (inr b) = absurd (apart files others (means_one words (checks files) (gives_clauses others) a b))
same_files words files others (inr a) (inl b) = absurd (apart others files (means_one words (checks others) (gives_clauses files) b a))
same_files words files others (inr a) (inr b) = same_given files others (means_one words (gives_clauses files) (gives_clauses others) a b)

never_asked : (words files : List Bytes) → Translating words files → Asking words → ⊥
never_asked words files (inl means) (asked, other) = let no_way : checks files ≡ asks asked = means_one words (checks files) (asks asked) means other in cc
never_asked words files (inr means) (asked, other) =
    let no_way : gives_clauses files ≡ asks asked = means_one words (gives_clauses files) (asks asked) means other in cc

-- words for which one is, of forms that have it
pub translated_outcome : TranslationsAnswer
translated_outcome words contents files means have =
    meaning_by words contents (λ others other. subst (HaveTranslated contents) (same_files words files others means other) have) (never_asked words files means) (meaning words) refl
