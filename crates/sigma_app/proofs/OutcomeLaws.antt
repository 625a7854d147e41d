-- Why the tool gives one status and one text for the same words and files.
use Rattle.std.proofs.Common.{◌≡◌, ℕ, ◌+◌, ◌≤◌, List, [], ◌∷◌, ◌++◌, length, nat_le, Bool, true, false, Some, None, inl, inr, sym, ap, ◌∙◌, subst, arith}
use Rattle.std.specs.Prelude.{MatchBool}
use Rattle.std.proofs.lemmas.Bool.{false≢true}
use Rattle.std.proofs.lemmas.Bool.Decides.{nat_tests}
use Rattle.kif_tree.specs.declared.place.Located.{Located}
use Rattle.kif_tree.specs.declared.place.Place.{Place}
use Rattle.kif_tree.specs.Places.{PlacesDiffer}
use Rattle.kif_tree.specs.Terms.{Bytes}
use Rattle.sig_io.specs.Told.{body_of}
use Rattle.kif_reader.specs.Spelling.{Spells}
use Rattle.kif_reader.proofs.ReadingIsOneLaws.{spells_unique}
use Rattle.kif_reader.specs.declared.bytes.Spot.{Spot}
use Rattle.kif_reader.specs.declared.kinds.ReadError.{ReadError}
use Rattle.kif_reader.specs.declared.kinds.ReadError.TheVariants as unread
use Rattle.kif_reader.proofs.OneFaultLaws.{spells_no_fault, fault_unique}
use Rattle.translate.specs.declared.translated.Translated.{Translated}
use Rattle.saturate.specs.declared.limits.Limits.{Limits}
use Rattle.answers.specs.Laws.{OneOutcome, OnePage}
use Rattle.sigma_app.specs.declared.files.Part.{Part}
use Rattle.sigma_app.specs.Requests.{Asked, Meaning, asks, checks, gives_clauses, exports, drills, NamesNone, is_refused}
use Rattle.sigma_app.proofs.RequestLaws.{means_one, nothing_meant}
use Rattle.sigma_app.specs.Files.{Contents, byte_limit, file_limit, live_limit, IsWhole, AreWhole, IsReached, live_size, load_names, SpellParts}
use Rattle.sigma_app.specs.CheckPage.{check_page}
use Rattle.sigma_app.specs.ClausesPage.{clauses_page}
use Rattle.sigma_app.specs.Snapshots.{snapshot_text, AreAllDiagnostics}
use Rattle.sigma_app.proofs.PlaceLaws.{whole_apart}
use Rattle.sigma_app.specs.Tool.{Is, usage, not_built, absent_text, long_text, live_text, many_text, fault_in, syntax_text, OnSet, OnQuery, OnChecked, OnClauses, IsSnapshotFull, Following, IsFaulty, OnTexts, OnParts, OnFiles, OnPaths, OnAsked, OnDrill, OnBuilt, HasMeaning, Tool}
use Rattle.sigma_app.specs.Laws.{SameOutcome, ToolIsOne}
use Rattle.sigma_app.proofs.OneQueryLaws.{is_one, limits_one, set_one}
use Rattle.sigma_app.proofs.TranslationLaws.{translations_one, full_once, not_full, all_diagnostics_one}

named_one : {X : Type 0} (wanted : ℕ) (shown : X → Bytes) (path named : X) (status other : ℕ) (text page : Bytes) → path ≡ named → Is wanted (shown path) status text → Is wanted (shown named) other page
    → SameOutcome status other text page
named_one wanted shown path named status other text page e a b = (a.done ∙ sym b.done, a.page_is ∙ ap shown e ∙ sym b.page_is)

-- ---- the texts

pub parts_one : (parts : List Part) (facts more : List Located) → SpellParts parts facts → SpellParts parts more → facts ≡ more
parts_one [] facts more a b = a ∙ sym b
parts_one (part ∷ parts) facts more a b =
    a.2 ∙ (λ i. spells_unique part.number part.text a.0 b.0 a.3 b.3 i ++ parts_one parts a.1 b.1 a.4 b.4 i) ∙ sym b.2

never : (at : ℕ × Spot) → None ≡ Some at → ⊥
never at e = cc

no_memory : (error : ReadError) (code : ℕ) (spot : Spot) → fault_in error ≡ Some (code, spot) → error ≡ unread.NoMemory → ⊥
no_memory error code spot at is = never (code, spot) (sym (ap fault_in is) ∙ at)

pub faulty_spelled : (part : Part) (status : ℕ) (text : Bytes) (forms : List Located) → IsFaulty part status text → Spells part.number part.text forms → ⊥
faulty_spelled part status text forms faulty spells = spells_no_fault part.number part.text forms faulty.error spells faulty.fault (no_memory faulty.error faulty.code faulty.spot faulty.at)

faulty_one : (part : Part) (status other : ℕ) (text page : Bytes) → IsFaulty part status text → IsFaulty part other page → SameOutcome status other text page
faulty_one part status other text page a b =
    let same : a.error ≡ b.error =
    fault_unique part.number part.text a.error b.error a.fault b.fault (no_memory a.error a.code a.spot a.at) (no_memory b.error b.code b.spot b.at) in
    let at : Some (a.code, a.spot) ≡ Some (b.code, b.spot) = sym a.at ∙ ap fault_in same ∙ b.at in
    let pair : (a.code, a.spot) ≡ (b.code, b.spot) = cc in
    let shown : syntax_text part.name a.code a.spot ≡ syntax_text part.name b.code b.spot = ap (λ (p : ℕ × Spot). syntax_text part.name p.0 p.1) pair in
    (a.is.done ∙ sym b.is.done, a.is.page_is ∙ shown ∙ sym b.is.page_is)

-- the part where the spelled ones end is one
record Stop (earlier : List Part) (part : Part) (later : List Part) : Type 0 where
  forms : List Located
  spelled : SpellParts earlier forms
  status : ℕ
  text : Bytes
  faulty : IsFaulty part status text

heads : (first second : Part) (xs ys : List Part) → first ∷ xs ≡ second ∷ ys → (first ≡ second) × (xs ≡ ys)
heads first second xs ys e = (cc, cc)

stop_one : (earlier before : List Part) (part other : Part) (later following : List Part) → Stop earlier part later → Stop before other following
    → earlier ++ part ∷ later ≡ before ++ other ∷ following → part ≡ other
stop_one [] [] part other later following a b e = (heads part other later following e).0
stop_one [] (first ∷ before) part other later following a b e =
    let same = (heads part first later (before ++ other ∷ following) e).0 in
    absurd (faulty_spelled first a.status a.text b.spelled.0 (subst (λ (p : Part). IsFaulty p a.status a.text) same a.faulty) b.spelled.3)
stop_one (first ∷ earlier) [] part other later following a b e =
    let same = (heads first other (earlier ++ part ∷ later) following e).0 in
    absurd (faulty_spelled first b.status b.text a.spelled.0 (subst (λ (p : Part). IsFaulty p b.status b.text) (sym same) b.faulty) a.spelled.3)
stop_one (first ∷ earlier) (second ∷ before) part other later following a b e =
    stop_one earlier before part other later following
    (record { forms = a.spelled.1; spelled = a.spelled.4; status = a.status; text = a.text; faulty = a.faulty })
    (record { forms = b.spelled.1; spelled = b.spelled.4; status = b.status; text = b.text; faulty = b.faulty })
    (heads first second (earlier ++ part ∷ later) (before ++ other ∷ following) e).1

pub spelled_at : (earlier : List Part) (part : Part) (later : List Part) (facts : List Located) → SpellParts (earlier ++ part ∷ later) facts → (mine : List Located) × Spells part.number part.text mine
spelled_at [] part later facts h = (h.0, h.3)
spelled_at (first ∷ earlier) part later facts h = spelled_at earlier part later h.1 h.4

-- ---- the files

some_same : (a b : Bytes) → Some a ≡ Some b → a ≡ b
some_same a b e = cc

pub whole_one : (contents : Contents) (at : ℕ) (paths : List Bytes) (parts more : List Part) → AreWhole contents at paths parts → AreWhole contents at paths more → parts ≡ more
whole_one contents at [] parts more a b = a ∙ sym b
whole_one contents at (path ∷ paths) [] more a b = absurd a
whole_one contents at (path ∷ paths) (part ∷ parts) [] a b = absurd b
whole_one contents at (path ∷ paths) (part ∷ parts) (other ∷ more) a b =
    let number : part.number ≡ other.number = a.0.numbered ∙ sym b.0.numbered in
    let name : part.name ≡ other.name = a.0.named ∙ sym b.0.named in
    let text : part.text ≡ other.text = some_same part.text other.text (sym a.0.held ∙ b.0.held) in
    let same : part ≡ other = λ i. record { number = number i; name = name i; text = text i } in
    λ i. same i ∷ whole_one contents (at + 1) paths parts more a.1 b.1 i

-- a path whose file isn't found whole
abbrev IsMissed : Contents → Bytes → Type 0
IsMissed contents path = (part : Part) (at : ℕ) → IsWhole contents path at part → ⊥

path_heads : (first second : Bytes) (xs ys : List Bytes) → first ∷ xs ≡ second ∷ ys → (first ≡ second) × (xs ≡ ys)
path_heads first second xs ys e = (cc, cc)

reached_one : (contents : Contents) (at : ℕ) (earlier before : List Bytes) (path other : Bytes) (later following : List Bytes) (parts more : List Part)
    → AreWhole contents at earlier parts → AreWhole contents at before more → IsMissed contents path → IsMissed contents other
    → earlier ++ path ∷ later ≡ before ++ other ∷ following → path ≡ other
reached_one contents at [] [] path other later following parts more a b m n e = (path_heads path other later following e).0
reached_one contents at [] (first ∷ before) path other later following parts [] a b m n e = absurd b
reached_one contents at [] (first ∷ before) path other later following parts (p ∷ more) a b m n e =
    let same = (path_heads path first later (before ++ other ∷ following) e).0 in absurd (m p at (subst (λ (x : Bytes). IsWhole contents x at p) (sym same) b.0))
reached_one contents at (first ∷ earlier) [] path other later following [] more a b m n e = absurd a
reached_one contents at (first ∷ earlier) [] path other later following (p ∷ parts) more a b m n e =
    let same = (path_heads first other (earlier ++ path ∷ later) following e).0 in absurd (n p at (subst (λ (x : Bytes). IsWhole contents x at p) same a.0))
reached_one contents at (first ∷ earlier) (second ∷ before) path other later following [] more a b m n e = absurd a
reached_one contents at (first ∷ earlier) (second ∷ before) path other later following (p ∷ parts) [] a b m n e = absurd b
reached_one contents at (first ∷ earlier) (second ∷ before) path other later following (p ∷ parts) (q ∷ more) a b m n e =
    reached_one contents (at + 1) earlier before path other later following parts more a.1 b.1 m n (path_heads first second (earlier ++ path ∷ later) (before ++ other ∷ following) e).1

stopped_one : (contents : Contents) (paths : List Bytes) (path other : Bytes) → IsReached contents paths path → IsReached contents paths other → IsMissed contents path → IsMissed contents other
    → path ≡ other
stopped_one contents paths path other a b m n = reached_one contents 1 a.earlier b.earlier path other a.later b.later a.parts b.parts a.whole b.whole m n (sym a.stands ∙ b.stands)

pub absent_missed : (contents : Contents) (path : Bytes) → body_of contents path ≡ None → IsMissed contents path
absent_missed contents path e part at whole = let no_way : None ≡ Some part.text = sym e ∙ whole.held in cc

within_limit : (n m : ℕ) → n ≡ m → n ≤ byte_limit → nat_le m byte_limit ≡ true
within_limit n m e h = let here : m ≤ byte_limit = omega (arith, e, h) in grind (arith, nat_tests)

pub long_missed : (contents : Contents) (path body : Bytes) → body_of contents path ≡ Some body → nat_le (length body) byte_limit ≡ false → IsMissed contents path
long_missed contents path body e long part at whole =
    false≢true (sym long ∙ within_limit (length part.text) (length body) (ap length (some_same part.text body (sym whole.held ∙ e))) whole.short)

-- all files are found, or one isn't
pub missed_whole : (contents : Contents) (paths : List Bytes) (path : Bytes) (parts : List Part) → IsReached contents paths path → IsMissed contents path → AreWhole contents 1 paths parts → ⊥
missed_whole contents paths path parts reached missed whole = whole_at 1 reached.earlier parts (subst (λ (ps : List Bytes). AreWhole contents 1 ps parts) reached.stands whole)
  where
    whole_at : (at : ℕ) (earlier : List Bytes) (ps : List Part) → AreWhole contents at (earlier ++ path ∷ reached.later) ps → ⊥
    whole_at at [] [] h = h
    whole_at at [] (p ∷ ps) h = missed p at h.0
    whole_at at (first ∷ earlier) [] h = h
    whole_at at (first ∷ earlier) (p ∷ ps) h = whole_at (at + 1) earlier ps h.1

-- ---- the forms, the texts and the files of a command

module _ (Next : Following) (status other : ℕ) (text page : Bytes) (one : (parts : List Part) (forms : List Located) → PlacesDiffer forms → Next parts forms status text → Next parts forms other page → SameOutcome status other text page) where
  texts_one : (parts : List Part) → ((forms : List Located) → SpellParts parts forms → PlacesDiffer forms) → OnTexts Next parts status text → OnTexts Next parts other page
      → SameOutcome status other text page
  texts_one parts apart (inl a) (inl b) =
      let same =
      stop_one a.earlier b.earlier a.part b.part a.later b.later
      (record { forms = a.forms; spelled = a.spelled; status = status; text = text; faulty = a.faulty })
      (record { forms = b.forms; spelled = b.spelled; status = other; text = page; faulty = b.faulty }) (sym a.stands ∙ b.stands) in
      faulty_one b.part status other text page (subst (λ (p : Part). IsFaulty p status text) same a.faulty) b.faulty
  texts_one parts apart (inl a) (inr b) =
      let mine = spelled_at a.earlier a.part a.later b.forms (subst (λ (ps : List Part). SpellParts ps b.forms) a.stands b.spelled) in absurd (faulty_spelled a.part status text mine.0 a.faulty mine.1)
  texts_one parts apart (inr a) (inl b) =
      let mine = spelled_at b.earlier b.part b.later a.forms (subst (λ (ps : List Part). SpellParts ps a.forms) b.stands a.spelled) in absurd (faulty_spelled b.part other page mine.0 b.faulty mine.1)
  texts_one parts apart (inr a) (inr b) =
      one parts b.forms (apart b.forms b.spelled)
      (subst (λ (forms : List Located). Next parts forms status text) (parts_one parts a.forms b.forms a.spelled b.spelled) a.follows) b.follows

  size_one : (parts : List Part) → ((forms : List Located) → SpellParts parts forms → PlacesDiffer forms) → OnParts Next parts status text → OnParts Next parts other page
      → SameOutcome status other text page
  size_one parts apart a b = by_size (nat_le (live_size parts) live_limit) a b
    where
      by_size : (fits : Bool) → MatchBool fits (OnTexts Next parts status text) (Is 6 (live_text (live_size parts)) status text)
          → MatchBool fits (OnTexts Next parts other page) (Is 6 (live_text (live_size parts)) other page) → SameOutcome status other text page
      by_size true x y = texts_one parts apart x y
      by_size false x y = is_one 6 (live_text (live_size parts)) status other text page x y

  files_one : (paths : List Bytes) (contents : Contents) → OnFiles Next paths contents status text → OnFiles Next paths contents other page → SameOutcome status other text page
  files_one paths contents (inl a) (inl b) =
      named_one 3 absent_text a.path b.path status other text page
      (stopped_one contents paths a.path b.path a.reached b.reached (absent_missed contents a.path a.absent) (absent_missed contents b.path b.absent)) a.is b.is
  files_one paths contents (inl a) (inr (inl b)) =
      let same = stopped_one contents paths a.path b.path a.reached b.reached (absent_missed contents a.path a.absent) (long_missed contents b.path b.body b.held b.long) in
      let no_way : None ≡ Some b.body = sym a.absent ∙ ap (body_of contents) same ∙ b.held in absurd (cc)
  files_one paths contents (inl a) (inr (inr b)) = absurd (missed_whole contents paths a.path b.parts a.reached (absent_missed contents a.path a.absent) b.whole)
  files_one paths contents (inr (inl a)) (inl b) =
      let same = stopped_one contents paths b.path a.path b.reached a.reached (absent_missed contents b.path b.absent) (long_missed contents a.path a.body a.held a.long) in
      let no_way : None ≡ Some a.body = sym b.absent ∙ ap (body_of contents) same ∙ a.held in absurd (cc)
  files_one paths contents (inr (inl a)) (inr (inl b)) =
      named_one 6 long_text a.path b.path status other text page
      (stopped_one contents paths a.path b.path a.reached b.reached (long_missed contents a.path a.body a.held a.long) (long_missed contents b.path b.body b.held b.long)) a.is b.is
  files_one paths contents (inr (inl a)) (inr (inr b)) = absurd (missed_whole contents paths a.path b.parts a.reached (long_missed contents a.path a.body a.held a.long) b.whole)
  files_one paths contents (inr (inr a)) (inl b) = absurd (missed_whole contents paths b.path a.parts b.reached (absent_missed contents b.path b.absent) a.whole)
  files_one paths contents (inr (inr a)) (inr (inl b)) = absurd (missed_whole contents paths b.path a.parts b.reached (long_missed contents b.path b.body b.held b.long) a.whole)
  files_one paths contents (inr (inr a)) (inr (inr b)) =
      size_one b.parts (λ forms spelled. whole_apart contents paths b.parts forms b.whole spelled)
      (subst (λ (ps : List Part). OnParts Next ps status text) (whole_one contents 1 paths a.parts b.parts a.whole b.whole) a.on_parts) b.on_parts

  paths_one : (paths : List Bytes) (contents : Contents) → OnPaths Next paths contents status text → OnPaths Next paths contents other page → SameOutcome status other text page
  paths_one paths contents a b = by_count (nat_le (length paths) file_limit) a b
    where
      by_count : (few : Bool) → MatchBool few (OnFiles Next paths contents status text) (Is 6 (many_text (length paths)) status text)
          → MatchBool few (OnFiles Next paths contents other page) (Is 6 (many_text (length paths)) other page) → SameOutcome status other text page
      by_count true x y = files_one paths contents x y
      by_count false x y = is_one 6 (many_text (length paths)) status other text page x y

-- ---- the forms

full_one : (parts : List Part) (forms : List Located) (status other : ℕ) (text page : Bytes) → IsSnapshotFull parts forms status text → IsSnapshotFull parts forms other page → SameOutcome status other text page
full_one parts forms status other text page a b =
    named_one 6 (λ (place : Place). snapshot_text (load_names parts) place) a.place b.place status other text page (full_once forms a.place b.place a.full b.full) a.is b.is

checked_one : (parts : List Part) (forms : List Located) (status other : ℕ) (text page : Bytes) → PlacesDiffer forms
    → OnChecked parts forms status text → OnChecked parts forms other page → SameOutcome status other text page
checked_one parts forms status other text page apart (inl a) (inl b) =
    let same = translations_one forms a.translated b.translated a.have b.have in
    let list = all_diagnostics_one forms b.translated a.list b.list apart (subst (λ (t : Translated). AreAllDiagnostics forms t a.list) same a.are) b.are in
    named_one 0 (check_page (load_names parts)) a.list b.list status other text page list a.is b.is
checked_one parts forms status other text page apart (inl a) (inr b) = absurd (not_full forms a.translated b.place a.have b.full)
checked_one parts forms status other text page apart (inr a) (inl b) = absurd (not_full forms b.translated a.place b.have a.full)
checked_one parts forms status other text page apart (inr a) (inr b) = full_one parts forms status other text page a b

clauses_one : (parts : List Part) (forms : List Located) (status other : ℕ) (text page : Bytes) → OnClauses parts forms status text → OnClauses parts forms other page → SameOutcome status other text page
clauses_one parts forms status other text page (inl a) (inl b) =
    named_one 0 (λ (t : Translated). clauses_page (load_names parts) t.inputs) a.translated b.translated status other text page (translations_one forms a.translated b.translated a.have b.have) a.is b.is
clauses_one parts forms status other text page (inl a) (inr b) = absurd (not_full forms a.translated b.place a.have b.full)
clauses_one parts forms status other text page (inr a) (inl b) = absurd (not_full forms b.translated a.place b.have a.full)
clauses_one parts forms status other text page (inr a) (inr b) = full_one parts forms status other text page a b

-- ---- the words

drill_one : (size : Bytes) (status other : ℕ) (text page : Bytes) → OnDrill size status text → OnDrill size other page → SameOutcome status other text page
drill_one size status other text page (inl a) (inl b) = is_one 2 usage status other text page a.is b.is
drill_one size status other text page (inl a) (inr b) = absurd (a.none b.may_be)
drill_one size status other text page (inr a) (inl b) = absurd (b.none a.may_be)
drill_one size status other text page (inr a) (inr b) = is_one 10 not_built status other text page a.is b.is

abbrev Judged : Bool → Meaning → Contents → ℕ → Bytes → Type 0
Judged refused meaning contents status text = MatchBool refused (Is 2 usage status text) (OnBuilt meaning contents status text)

module _ (one_outcome : OneOutcome) (one_page : OnePage) where
  query_one : (query : Bytes) (limits : Limits) (parts : List Part) (forms : List Located) (status other : ℕ) (text page : Bytes)
      → OnQuery query limits parts forms status text → OnQuery query limits parts forms other page → SameOutcome status other text page
  query_one query limits parts forms status other text page (inl a) (inl b) =
      let same = translations_one forms a.translated b.translated a.have b.have in
      set_one one_outcome one_page query limits (load_names parts) b.translated.inputs status other text page
      (subst (λ (t : Translated). OnSet query limits (load_names parts) t.inputs status text) same a.answers) b.answers
  query_one query limits parts forms status other text page (inl a) (inr b) = absurd (not_full forms a.translated b.place a.have b.full)
  query_one query limits parts forms status other text page (inr a) (inl b) = absurd (not_full forms b.translated a.place b.have a.full)
  query_one query limits parts forms status other text page (inr a) (inr b) = full_one parts forms status other text page a b

  asked_one : (asked : Asked) (contents : Contents) (status other : ℕ) (text page : Bytes) → OnAsked asked contents status text → OnAsked asked contents other page → SameOutcome status other text page
  asked_one asked contents status other text page (inl a) (inl b) = is_one 2 usage status other text page a.is b.is
  asked_one asked contents status other text page (inl a) (inr b) = absurd (a.none (record { limits = b.limits; are = b.are }))
  asked_one asked contents status other text page (inr a) (inl b) = absurd (b.none (record { limits = a.limits; are = a.are }))
  asked_one asked contents status other text page (inr a) (inr b) =
      paths_one (OnQuery asked.query b.limits) status other text page (λ parts forms apart c d. query_one asked.query b.limits parts forms status other text page c d) asked.paths contents
      (subst (λ (limits : Limits). OnPaths (OnQuery asked.query limits) asked.paths contents status text) (limits_one asked a.limits b.limits a.are b.are) a.on_paths) b.on_paths

  built_one : (meaning : Meaning) (contents : Contents) (status other : ℕ) (text page : Bytes) → OnBuilt meaning contents status text → OnBuilt meaning contents other page → SameOutcome status other text page
  built_one (asks asked) contents status other text page a b = asked_one asked contents status other text page a b
  built_one (checks files) contents status other text page a b =
      paths_one OnChecked status other text page (λ parts forms apart c d. checked_one parts forms status other text page apart c d) files contents a b
  built_one (gives_clauses files) contents status other text page a b =
      paths_one OnClauses status other text page (λ parts forms apart c d. clauses_one parts forms status other text page c d) files contents a b
  built_one (exports files) contents status other text page a b = is_one 10 not_built status other text page a b
  built_one (drills size) contents status other text page a b = drill_one size status other text page a b

  meaning_one : (meaning : Meaning) (contents : Contents) (status other : ℕ) (text page : Bytes) (refused : Bool)
      → Judged refused meaning contents status text → Judged refused meaning contents other page → SameOutcome status other text page
  meaning_one meaning contents status other text page true a b = is_one 2 usage status other text page a b
  meaning_one meaning contents status other text page false a b = built_one meaning contents status other text page a b

  has_one : (words : List Bytes) (contents : Contents) (status other : ℕ) (text page : Bytes) → HasMeaning words contents status text → HasMeaning words contents other page → SameOutcome status other text page
  has_one words contents status other text page a b =
      let same = means_one words a.meaning b.meaning a.means b.means in
      meaning_one b.meaning contents status other text page (is_refused b.meaning) (subst (λ (m : Meaning). Judged (is_refused m) m contents status text) same a.on_meaning) b.on_meaning

  pub tool_one : ToolIsOne
  tool_one words contents status other text page (inl a) (inl b) = inl (has_one words contents status other text page a b)
  tool_one words contents status other text page (inl a) (inr b) = inr (b.not_taken, inr b.is)
  tool_one words contents status other text page (inr a) (inl b) = inr (a.not_taken, inl a.is)
  tool_one words contents status other text page (inr a) (inr b) = inl (is_one 2 usage status other text page a.is b.is)

pub others_usage : (words : List Bytes) (contents : Contents) (status : ℕ) (text : Bytes) → NamesNone words → Tool words contents status text → Is 2 usage status text
others_usage words contents status text none (inl has) = let no_way : None ≡ Some has.meaning = sym (nothing_meant words none) ∙ has.means in absurd (cc)
others_usage words contents status text none (inr not_taken) = not_taken.is
