-- What the tool answers: a status and a text, from the words and what the files hold.
use Rattle.std.specs.Prelude.{◌≡◌, ℕ, nat_le, Bool, true, false, List, [], ◌∷◌, ◌++◌, length, Option, Some, None, is_some, MatchBool, IfSome, codes, decimal, ◌⊎◌, not, ◌&&◌, if◌then◌else◌, Err}
use Rattle.kif_tree.specs.declared.place.Located.{Located}
use Rattle.kif_tree.specs.declared.place.Place.{Place}
use Rattle.kif_tree.specs.declared.clause.InputClause.{InputClause}
use Rattle.kif_tree.specs.declared.place.LoadName.{LoadName}
use Rattle.kif_tree.specs.Terms.{Bytes}
use Rattle.kif_reader.specs.declared.bytes.Spot.{Spot}
use Rattle.kif_reader.specs.declared.kinds.ReadError.{ReadError}
use Rattle.kif_reader.specs.declared.kinds.ReadError.TheVariants as unread
use Rattle.kif_reader.specs.Spelling.{Spells, FirstFault}
use Rattle.sig_io.specs.Told.{body_of}
use Rattle.diagnose.specs.declared.diagnostic.Diagnostic.{Diagnostic}
use Rattle.translate.specs.declared.translated.Translated.{Translated}
use Rattle.clause_form.specs.declared.query.QueryError.{QueryError}
use Rattle.clause_form.specs.declared.query.QueryError.TheVariants as no_query
use Rattle.clause_form.specs.Queries.{IsQueryAnswer}
use Rattle.saturate.specs.declared.limits.Limits.{Limits}
use Rattle.answers.specs.declared.outcome.Answer.{Answer}
use Rattle.answers.specs.declared.outcome.Outcome.{Outcome}
use Rattle.answers.specs.declared.proof.Proof.{Proof}
use Rattle.answers.specs.Pages.{page}
use Rattle.answers.specs.Questions.{IsAsked}
use Rattle.sigma_app.specs.Requests as requests
use Rattle.sigma_app.specs.Requests.{Asked, Meaning, asks, checks, gives_clauses, exports, drills, Means, IsTaken, is_refused}
use Rattle.sigma_app.specs.declared.files.Part.{Part}
use Rattle.sigma_app.specs.declared.gather.Gathering.{Gathering}
use Rattle.sigma_app.specs.declared.gather.Gathering.TheVariants as gathering
use Rattle.sigma_app.specs.declared.forms.Reading.{Reading}
use Rattle.sigma_app.specs.declared.forms.Reading.TheVariants.{Forms, Stopped}
use Rattle.sigma_app.specs.Files.{Contents, byte_limit, file_limit, live_limit, AreWhole, IsReached, live_size, load_names, SpellParts}
use Rattle.sigma_app.specs.Limits.{AreLimits, HasLimits, HasSize, HasValues}
use Rattle.sigma_app.specs.CheckPage.{check_page}
use Rattle.sigma_app.specs.ClausesPage.{clauses_page}
use Rattle.sigma_app.specs.Snapshots.{snapshot_text, HaveTranslation, AreFull, AreAllDiagnostics}
use Rattle.sigma_app.specs.declared.check.Translation.{Translation}
use Rattle.sigma_app.specs.declared.check.Translation.TheVariants as translation

-- ---- texts

abbrev pub usage : Bytes
usage =
    codes "usage: sigma ask [--turns N] [--answers N] [--kept N] [--mode support|full] QUERY FILE...\n"
    ++ (codes "       sigma check FILE...\n"
    ++ (codes "       sigma clauses FILE...\n"
    ++ (codes "       sigma export FILE...\n"
    ++ (codes "       sigma drill N\n"
    ++ codes "       sigma serve --port P --workers N --store FILE\n"))))

abbrev pub absent_text : Bytes → Bytes
absent_text path = codes "absent " ++ (path ++ 10 ∷ [])

abbrev pub fault_text : Bytes → Bytes
fault_text path = codes "file fault " ++ (path ++ 10 ∷ [])

abbrev pub many_text : ℕ → Bytes
many_text count = codes "limit files " ++ (decimal count ++ 10 ∷ [])

abbrev pub long_text : Bytes → Bytes
long_text path = codes "limit file " ++ (path ++ 10 ∷ [])

abbrev pub live_text : ℕ → Bytes
live_text size = codes "limit live " ++ (decimal size ++ 10 ∷ [])

abbrev pub not_built : Bytes
not_built = codes "not built\n"

-- the code of a fault and its place; want of memory is none
abbrev pub fault_in : ReadError → Option (ℕ × Spot)
fault_in (unread.BadByte spot) = Some (1, spot)
fault_in (unread.OpenString spot) = Some (2, spot)
fault_in (unread.OpenList spot) = Some (3, spot)
fault_in (unread.StrayClose spot) = Some (4, spot)
fault_in (unread.BadEscape spot) = Some (5, spot)
fault_in (unread.BadWord spot) = Some (6, spot)
fault_in (unread.TooDeep spot) = Some (7, spot)
fault_in (unread.LogicShape spot) = Some (8, spot)
fault_in unread.NoMemory = None

-- `syntax CODE NAME:LINE:COLUMN`
abbrev pub syntax_text : Bytes → ℕ → Spot → Bytes
syntax_text path code spot =
    codes "syntax " ++ (decimal code ++ (32 ∷ (path ++ (58 ∷ (decimal spot.line ++ (58 ∷ (decimal spot.column ++ 10 ∷ [])))))))

-- ---- one reply

pub record Is (wanted : ℕ) (page : Bytes) (status : ℕ) (text : Bytes) : Type 0 where
  pub done : status ≡ wanted
  pub page_is : text ≡ page

-- ---- the translation of the forms of all files

-- with the form at a place there are more clauses than a snapshot may have
pub record IsSnapshotFull (parts : List Part) (forms : List Located) (status : ℕ) (text : Bytes) : Type 0 where
  pub place : Place
  pub full : AreFull forms place
  pub is : Is 6 (snapshot_text (load_names parts) place) status text

-- ---- a query

-- `query 1 syntax CODE LINE:COLUMN`
abbrev pub query_fault_text : ℕ → Spot → Bytes
query_fault_text code spot =
    codes "query 1 syntax " ++ (decimal code ++ (32 ∷ (decimal spot.line ++ (58 ∷ (decimal spot.column ++ 10 ∷ [])))))

-- the text has a fault
pub record RefusesFault (fault : ReadError) (status : ℕ) (text : Bytes) : Type 0 where
  pub code : ℕ
  pub spot : Spot
  pub at : fault_in fault ≡ Some (code, spot)
  pub is : Is 7 (query_fault_text code spot) status text

-- why a query is refused: its code, and for a text with a fault what that is; want of memory is no cause
abbrev pub RefusesQuery : QueryError → ℕ → Bytes → Type 0
RefusesQuery (no_query.Syntax fault) status text = RefusesFault fault status text
RefusesQuery no_query.NotOneForm status text = Is 7 (codes "query 2\n") status text
RefusesQuery no_query.RowVariable status text = Is 7 (codes "query 3\n") status text
RefusesQuery no_query.PredicateVariable status text = Is 7 (codes "query 4\n") status text
RefusesQuery no_query.HigherOrder status text = Is 7 (codes "query 5\n") status text
RefusesQuery no_query.TooManyClauses status text = Is 7 (codes "query 6\n") status text
RefusesQuery no_query.NoMemory status text = ⊥

abbrev pub shows_answer : List Answer → Option Proof → Bool
shows_answer [] contradiction = is_some contradiction
shows_answer (answer ∷ answers) contradiction = true

-- 0 where an answer or a contradiction is shown
abbrev pub shown_status : Outcome → ℕ
shown_status outcome = if shows_answer outcome.answers outcome.contradiction then 0 else 1

abbrev pub ShowsOutcome : List LoadName → Outcome → ℕ → Bytes → Type 0
ShowsOutcome names outcome status text = Is (shown_status outcome) (page names outcome) status text

-- the text is no query
pub record RefusesText (query : Bytes) (status : ℕ) (text : Bytes) : Type 0 where
  pub error : QueryError
  pub refused : IsQueryAnswer query (Err error)
  pub is : RefusesQuery error status text

-- what the clauses answer to the query within the limits
pub record AnswersQuery (query : Bytes) (limits : Limits) (names : List LoadName) (set : List InputClause) (status : ℕ) (text : Bytes) : Type 0 where
  pub outcome : Outcome
  pub asked : IsAsked set query limits outcome
  pub shows : ShowsOutcome names outcome status text

-- a query over clauses
abbrev pub OnSet : Bytes → Limits → List LoadName → List InputClause → ℕ → Bytes → Type 0
OnSet query limits names set status text = RefusesText query status text ⊎ AnswersQuery query limits names set status text

-- the query over the clauses of the forms of all files
pub record AsksClauses (query : Bytes) (limits : Limits) (parts : List Part) (forms : List Located) (status : ℕ) (text : Bytes) : Type 0 where
  pub translated : Translated
  pub have : HaveTranslation forms translated
  pub answers : OnSet query limits (load_names parts) translated.inputs status text

abbrev pub OnQuery : Bytes → Limits → List Part → List Located → ℕ → Bytes → Type 0
OnQuery query limits parts forms status text = AsksClauses query limits parts forms status text ⊎ IsSnapshotFull parts forms status text

-- ---- a check, and clauses

-- the page of all diagnostics of the forms of all files
pub record ShowsDiagnostics (parts : List Part) (forms : List Located) (status : ℕ) (text : Bytes) : Type 0 where
  pub translated : Translated
  pub have : HaveTranslation forms translated
  pub list : List Diagnostic
  pub are : AreAllDiagnostics forms translated list
  pub is : Is 0 (check_page (load_names parts) list) status text

-- the page of the clauses of the forms of all files
pub record ShowsClauses (parts : List Part) (forms : List Located) (status : ℕ) (text : Bytes) : Type 0 where
  pub translated : Translated
  pub have : HaveTranslation forms translated
  pub is : Is 0 (clauses_page (load_names parts) translated.inputs) status text

-- what the translation of the forms gives
abbrev pub Translates : List Part → List Located → Translation → Type 0
Translates parts forms (translation.Made translated) = HaveTranslation forms translated
Translates parts forms (translation.Stopped reply) = IsSnapshotFull parts forms reply.status reply.text

-- ---- the texts of the files

-- what a command does with the forms of all files, once these are read
abbrev pub Following : Type 1
Following = List Part → List Located → ℕ → Bytes → Type 0

abbrev pub OnChecked : Following
OnChecked parts forms status text = ShowsDiagnostics parts forms status text ⊎ IsSnapshotFull parts forms status text

abbrev pub OnClauses : Following
OnClauses parts forms status text = ShowsClauses parts forms status text ⊎ IsSnapshotFull parts forms status text

-- nothing follows
abbrev pub Nothing : Following
Nothing parts forms status text = ⊥

-- the text of the part has a fault
pub record IsFaulty (part : Part) (status : ℕ) (text : Bytes) : Type 0 where
  pub error : ReadError
  pub code : ℕ
  pub spot : Spot
  pub fault : FirstFault part.number part.text error
  pub at : fault_in error ≡ Some (code, spot)
  pub is : Is 5 (syntax_text part.name code spot) status text

-- the part is the first whose text has a fault
pub record HasFault (parts : List Part) (status : ℕ) (text : Bytes) : Type 0 where
  pub earlier : List Part
  pub part : Part
  pub later : List Part
  pub stands : parts ≡ earlier ++ part ∷ later
  pub forms : List Located
  pub spelled : SpellParts earlier forms
  pub faulty : IsFaulty part status text

pub record AreSpelled (Next : Following) (parts : List Part) (status : ℕ) (text : Bytes) : Type 0 where
  pub forms : List Located
  pub spelled : SpellParts parts forms
  pub follows : Next parts forms status text

-- over the texts of the files
abbrev pub OnTexts : Following → List Part → ℕ → Bytes → Type 0
OnTexts Next parts status text = HasFault parts status text ⊎ AreSpelled Next parts status text

abbrev pub OnParts : Following → List Part → ℕ → Bytes → Type 0
OnParts Next parts status text = MatchBool (nat_le (live_size parts) live_limit) (OnTexts Next parts status text) (Is 6 (live_text (live_size parts)) status text)

-- what the reading of one part gives
abbrev pub ReadsPart : Part → Reading → Type 0
ReadsPart part (Forms forms) = Spells part.number part.text forms.items
ReadsPart part (Stopped reply) = IsFaulty part reply.status reply.text

-- what the reading of the parts gives
abbrev pub ReadsParts : List Part → Reading → Type 0
ReadsParts parts (Forms forms) = SpellParts parts forms.items
ReadsParts parts (Stopped reply) = HasFault parts reply.status reply.text

-- the forms of these parts, or the reply that ended the work
abbrev pub GathersParts : List Part → Gathering → Type 0
GathersParts parts (gathering.Found found) = (found.parts ≡ parts) × (nat_le (live_size parts) live_limit ≡ true) × SpellParts parts found.forms.items
GathersParts parts (gathering.Stopped reply) = OnParts Nothing parts reply.status reply.text

-- ---- the files

-- the first file that isn't found whole is absent
pub record IsAbsent (contents : Contents) (paths : List Bytes) (status : ℕ) (text : Bytes) : Type 0 where
  pub path : Bytes
  pub reached : IsReached contents paths path
  pub absent : body_of contents path ≡ None
  pub is : Is 3 (absent_text path) status text

-- the first file that isn't found whole has too many bytes
pub record IsTooLong (contents : Contents) (paths : List Bytes) (status : ℕ) (text : Bytes) : Type 0 where
  pub path : Bytes
  pub reached : IsReached contents paths path
  pub body : Bytes
  pub held : body_of contents path ≡ Some body
  pub long : nat_le (length body) byte_limit ≡ false
  pub is : Is 6 (long_text path) status text

pub record AreFound (Next : Following) (paths : List Bytes) (contents : Contents) (status : ℕ) (text : Bytes) : Type 0 where
  pub parts : List Part
  pub whole : AreWhole contents 1 paths parts
  pub on_parts : OnParts Next parts status text

abbrev pub OnFiles : Following → List Bytes → Contents → ℕ → Bytes → Type 0
OnFiles Next paths contents status text = IsAbsent contents paths status text ⊎ (IsTooLong contents paths status text ⊎ AreFound Next paths contents status text)

-- a command over files, by the order of work: the number of files, and then what the files hold
abbrev pub OnPaths : Following → List Bytes → Contents → ℕ → Bytes → Type 0
OnPaths Next paths contents status text =
    MatchBool (nat_le (length paths) file_limit) (OnFiles Next paths contents status text) (Is 6 (many_text (length paths)) status text)

-- ---- the whole tool

-- a query over files, within the limits of its options
pub record OnLimits (asked : Asked) (contents : Contents) (status : ℕ) (text : Bytes) : Type 0 where
  pub limits : Limits
  pub are : AreLimits asked limits
  pub on_paths : OnPaths (OnQuery asked.query limits) asked.paths contents status text

-- an option may not have its value, which the parser's promise doesn't take
pub record RefusesLimits (asked : Asked) (status : ℕ) (text : Bytes) : Type 0 where
  pub none : HasLimits asked → ⊥
  pub is : Is 2 usage status text

abbrev pub OnAsked : Asked → Contents → ℕ → Bytes → Type 0
OnAsked asked contents status text = RefusesLimits asked status text ⊎ OnLimits asked contents status text

-- the size of a drill may not be this, which the parser's promise doesn't take
pub record RefusesSize (size : Bytes) (status : ℕ) (text : Bytes) : Type 0 where
  pub none : HasSize size → ⊥
  pub is : Is 2 usage status text

-- a drill of a size that may be is not built
pub record LacksDrill (size : Bytes) (status : ℕ) (text : Bytes) : Type 0 where
  pub may_be : HasSize size
  pub is : Is 10 not_built status text

abbrev pub OnDrill : Bytes → ℕ → Bytes → Type 0
OnDrill size status text = RefusesSize size status text ⊎ LacksDrill size status text

-- what the words mean is built: a query, a check, or clauses
abbrev pub is_built : Meaning → Bool
is_built (asks asked) = true
is_built (checks paths) = true
is_built (gives_clauses paths) = true
is_built (exports paths) = false
is_built (drills size) = false

-- what the words mean has files read: it is built and isn't refused, and the files are few enough
abbrev pub reads_files : Meaning → Bool
reads_files meaning = not (is_refused meaning) && (is_built meaning && nat_le (length (requests.paths meaning)) file_limit)

-- the other commands are not built
abbrev pub OnBuilt : Meaning → Contents → ℕ → Bytes → Type 0
OnBuilt (asks asked) contents status text = OnAsked asked contents status text
OnBuilt (checks paths) contents status text = OnPaths OnChecked paths contents status text
OnBuilt (gives_clauses paths) contents status text = OnPaths OnClauses paths contents status text
OnBuilt (exports paths) contents status text = Is 10 not_built status text
OnBuilt (drills size) contents status text = OnDrill size status text

-- what words with this meaning get
abbrev pub OnMeaning : Meaning → Contents → ℕ → Bytes → Type 0
OnMeaning meaning contents status text = MatchBool (is_refused meaning) (Is 2 usage status text) (OnBuilt meaning contents status text)

pub record HasMeaning (words : List Bytes) (contents : Contents) (status : ℕ) (text : Bytes) : Type 0 where
  pub meaning : Meaning
  pub means : Means words meaning
  pub on_meaning : OnMeaning meaning contents status text

-- the parser's promise doesn't take the words
pub record AreNotTaken (words : List Bytes) (status : ℕ) (text : Bytes) : Type 0 where
  pub not_taken : IsTaken words → ⊥
  pub is : Is 2 usage status text

-- The status and the text of the tool for the words, where the files hold these contents: what the meaning of the words gets, and for words
-- that the parser's promise doesn't take also the usage.
abbrev pub Tool : List Bytes → Contents → ℕ → Bytes → Type 0
Tool words contents status text = HasMeaning words contents status text ⊎ AreNotTaken words status text

-- the text where files are read, for words whose values may be, and one could not be fetched, before which all are whole
pub record IsFault (words : List Bytes) (contents : Contents) (text : Bytes) : Type 0 where
  pub meaning : Meaning
  pub means : Means words meaning
  pub reads : reads_files meaning ≡ true
  pub values : HasValues meaning
  pub path : Bytes
  pub reached : IsReached contents (requests.paths meaning) path
  pub page : text ≡ fault_text path

-- contents that are those told, where the files tell
abbrev pub Agrees : Option Contents → Contents → Type 0
Agrees told contents = IfSome told (λ files. files ≡ contents)

pub record GivesTool (words : List Bytes) (told : Option Contents) (status : ℕ) (text : Bytes) : Type 0 where
  pub contents : Contents
  pub agrees : Agrees told contents
  pub tool : Tool words contents status text
