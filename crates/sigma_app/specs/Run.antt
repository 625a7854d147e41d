-- What a run of the tool leaves: the status, the bytes that were appended and the counts of faults.
use Rattle.std.specs.Prelude.{◌≡◌, ℕ, ◌<◌, ◌≤◌, true, List, length, nat_le, Option, Some, None, IfSome, MatchBool, ◌⊎◌, false}
use Rattle.std.specs.Io.KnownBytes.{append_known}
use Rattle.kif_tree.specs.Terms.{Bytes}
use Rattle.sig_io.specs.Causes.{Rose}
use Rattle.sig_io.specs.Told.{body_of, WritesPrefix}
use Rattle.sigma_app.specs.declared.files.Body.{Body}
use Rattle.sigma_app.specs.declared.files.Body.TheVariants as body
use Rattle.sigma_app.specs.declared.files.Fetching.{Fetching}
use Rattle.sigma_app.specs.declared.files.Fetching.TheVariants.{Found, Stopped}
use Rattle.sigma_app.specs.declared.gather.Gathering.{Gathering}
use Rattle.sigma_app.specs.declared.gather.Gathering.TheVariants as gathering
use Rattle.sigma_app.specs.Requests.{Asked, Meaning, asks, checks, gives_clauses, exports, drills, Means, IsTaken, is_refused}
use Rattle.sigma_app.specs.Files.{Contents, byte_limit, file_limit, AreWhole, IsReached, HaveForms}
use Rattle.saturate.specs.declared.limits.Limits.{Limits}
use Rattle.sigma_app.specs.Limits.{AreLimits, HasValues}
use Rattle.sigma_app.specs.Evidence.{ShowsProof}
use Rattle.sigma_app.specs.Tool.{Is, usage, not_built, many_text, reads_files, absent_text, long_text, fault_text, IsAbsent, IsTooLong, Following, Nothing, OnQuery, RefusesLimits, OnDrill, OnChecked, OnClauses, OnFiles, Agrees, GivesTool, IsFault}

-- a status that tells of the outside or of memory: a fault of the files, a failed write, want of memory
abbrev pub IsTrouble : ℕ → Type 0
IsTrouble status = (status ≡ 4) ⊎ ((status ≡ 8) ⊎ (status ≡ 9))

-- a failed write, or want of memory
abbrev pub IsCutShort : ℕ → Type 0
IsCutShort status = (status ≡ 8) ⊎ (status ≡ 9)

-- the words may be refused: the parser's promise doesn't take them, or their meaning is refused
abbrev pub MayBeRefused : List Bytes → Type 0
MayBeRefused words = (IsTaken words → ⊥) ⊎ ((meaning : Meaning) × Means words meaning × (is_refused meaning ≡ true))

-- the words have to be refused: what they mean, if anything, is refused, or an option or the size of a drill may not have its value
abbrev pub MustBeRefused : List Bytes → Type 0
MustBeRefused words = (meaning : Meaning) → Means words meaning → (is_refused meaning ≡ true) ⊎ (HasValues meaning → ⊥)

-- no file is read for this: it reads none, or an option or the size of a drill may not have its value
abbrev pub ReadsNone : Meaning → Type 0
ReadsNone meaning = (reads_files meaning ≡ false) ⊎ (HasValues meaning → ⊥)

-- what the words mean, if anything, has no file read
abbrev pub NeedsNoFile : List Bytes → Type 0
NeedsNoFile words = (meaning : Meaning) → Means words meaning → ReadsNone meaning

-- where the words ask a query and an answer is shown, so is a proof over these contents
abbrev pub IsProved : List Bytes → Contents → ℕ → Bytes → Type 0
IsProved words contents status text = (asked : Asked) → Means words (asks asked) → status ≡ 0 → ShowsProof words contents text

-- The status and the text are the tool's for contents that agree with those told, and the answer that they show is proved over these
-- contents. The whole text was appended.
pub record Appends (words : List Bytes) (told : Option Contents) (old new : Option Bytes) (status : ℕ) : Type 0 where
  pub text : Bytes
  pub gives : GivesTool words told status text
  pub proved : IsProved words gives.contents status text
  pub appended : new ≡ append_known old text

-- the count of the files rose, and the text that names the file was appended
pub record ReportsFault (words : List Bytes) (told : Option Contents) (before now : ℕ) (old new : Option Bytes) : Type 0 where
  pub rose : Rose before now
  pub contents : Contents
  pub agrees : Agrees told contents
  pub text : Bytes
  pub fault : IsFault words contents text
  pub appended : new ≡ append_known old text

-- a text of the tool's own, with the proof of what it shows
pub record IsOwnText (words : List Bytes) (told : Option Contents) (status : ℕ) (text : Bytes) : Type 0 where
  pub gives : GivesTool words told status text
  pub proved : IsProved words gives.contents status text

-- the text that names a file which could not be fetched
pub record IsFaultText (words : List Bytes) (told : Option Contents) (text : Bytes) : Type 0 where
  pub contents : Contents
  pub agrees : Agrees told contents
  pub fault : IsFault words contents text

-- a text of another status: the tool's own where the count of the files stayed, that of a fault where it rose
pub record IsMeant (words : List Bytes) (told : Option Contents) (before now : ℕ) (text : Bytes) : Type 0 where
  pub status : ℕ
  pub either : (IsOwnText words told status text × (now ≡ before)) ⊎ (((status ≡ 4) × IsFaultText words told text) × Rose before now)

-- a prefix of a text of another status was appended
abbrev pub AppendsPart : List Bytes → Option Contents → ℕ → ℕ → Option Bytes → Option Bytes → Type 0
AppendsPart words told before now old new = (text : Bytes) × IsMeant words told before now text × WritesPrefix old new text

-- ---- the parts of a run

abbrev pub MayHaveRisen : ℕ → ℕ → Type 0
MayHaveRisen before now = (now ≡ before) ⊎ Rose before now

-- contents that agree with what is told, over which the relation holds
pub record Over (told : Option Contents) (P : Contents → Type 0) : Type 0 where
  pub contents : Contents
  pub agrees : Agrees told contents
  pub holds : P contents

-- the file of the path could not be fetched, and those before it are whole
pub record Fails (paths : List Bytes) (told : Option Contents) (status : ℕ) (text : Bytes) : Type 0 where
  pub path : Bytes
  pub reached : Over told (λ contents. IsReached contents paths path)
  pub is : Is 4 (fault_text path) status text

-- no fetch failed, and the relation holds over contents that agree; or one failed
abbrev pub OnFetches : List Bytes → Option Contents → ℕ → ℕ → (Contents → Type 0) → ℕ → Bytes → Type 0
OnFetches paths told before now P status text = ((now ≡ before) × Over told P) ⊎ (Rose before now × Fails paths told status text)

-- what one fetch gives: a text within the limit, or the reply that ends the work
abbrev pub FetchesOne : Bytes → Option Contents → ℕ → ℕ → Body → Type 0
FetchesOne path told before now (body.Text text) = (now ≡ before) × (length text ≤ byte_limit) × IfSome told (λ files. body_of files path ≡ Some text)
FetchesOne path told before now (body.Stopped reply) =
    ((now ≡ before) × (Is 3 (absent_text path) reply.status reply.text × IfSome told (λ files. body_of files path ≡ None)))
    ⊎ (((now ≡ before) × (Is 6 (long_text path) reply.status reply.text × IfSome told (λ files. (bytes : Bytes) × (body_of files path ≡ Some bytes) × (byte_limit < length bytes))))
    ⊎ (Rose before now × Is 4 (fault_text path) reply.status reply.text))

-- all files were found, or the first that wasn't ended the work
abbrev pub Fetches : List Bytes → Option Contents → ℕ → ℕ → Fetching → Type 0
Fetches paths told before now (Found parts) = (now ≡ before) × Over told (λ contents. AreWhole contents 1 paths parts)
Fetches paths told before now (Stopped reply) =
    OnFetches paths told before now (λ contents. IsAbsent contents paths reply.status reply.text ⊎ IsTooLong contents paths reply.status reply.text) reply.status reply.text

-- few files, and what follows on their forms
abbrev pub OnFewFiles : Following → List Bytes → Option Contents → ℕ → ℕ → ℕ → Bytes → Type 0
OnFewFiles Next paths told before now status text = OnFetches paths told before now (λ contents. OnFiles Next paths contents status text) status text

-- nothing is fetched where the files are too many
abbrev pub OnNamedFiles : Following → List Bytes → Option Contents → ℕ → ℕ → ℕ → Bytes → Type 0
OnNamedFiles Next paths told before now status text =
    MatchBool (nat_le (length paths) file_limit) (OnFewFiles Next paths told before now status text) ((now ≡ before) × Is 6 (many_text (length paths)) status text)

-- the files have these forms, or a reply ended the work
abbrev pub Gathers : List Bytes → Option Contents → ℕ → ℕ → Gathering → Type 0
Gathers paths told before now (gathering.Found found) = (now ≡ before) × Over told (λ contents. HaveForms contents paths found.parts found.forms.items)
Gathers paths told before now (gathering.Stopped reply) = OnNamedFiles Nothing paths told before now reply.status reply.text

-- the limits of the options, and what follows on few files
pub record OnLimited (asked : Asked) (told : Option Contents) (before now : ℕ) (status : ℕ) (text : Bytes) : Type 0 where
  pub limits : Limits
  pub are : AreLimits asked limits
  pub on_files : OnNamedFiles (OnQuery asked.query limits) asked.paths told before now status text

-- nothing is fetched where an option may not have its value
abbrev pub OnAsk : Asked → Option Contents → ℕ → ℕ → ℕ → Bytes → Type 0
OnAsk asked told before now status text = ((now ≡ before) × RefusesLimits asked status text) ⊎ OnLimited asked told before now status text

-- a request that isn't refused
abbrev pub OnGoodRequest : Meaning → Option Contents → ℕ → ℕ → ℕ → Bytes → Type 0
OnGoodRequest (asks asked) told before now status text = OnAsk asked told before now status text
OnGoodRequest (checks paths) told before now status text = OnNamedFiles OnChecked paths told before now status text
OnGoodRequest (gives_clauses paths) told before now status text = OnNamedFiles OnClauses paths told before now status text
OnGoodRequest (exports paths) told before now status text = (now ≡ before) × Is 10 not_built status text
OnGoodRequest (drills size) told before now status text = (now ≡ before) × OnDrill size status text

abbrev pub OnRequest : Meaning → Option Contents → ℕ → ℕ → ℕ → Bytes → Type 0
OnRequest meaning told before now status text = MatchBool (is_refused meaning) ((now ≡ before) × Is 2 usage status text) (OnGoodRequest meaning told before now status text)

-- the tool's own reply
pub record IsOwnReply (words : List Bytes) (told : Option Contents) (before now status : ℕ) (text : Bytes) : Type 0 where
  pub quiet : now ≡ before
  pub gives : GivesTool words told status text

-- the reply where a file could not be fetched
pub record IsFaultReply (words : List Bytes) (told : Option Contents) (before now status : ℕ) (text : Bytes) : Type 0 where
  pub rose : Rose before now
  pub four : status ≡ 4
  pub names : IsFaultText words told text

abbrev pub Obtains : List Bytes → Option Contents → ℕ → ℕ → ℕ → Bytes → Type 0
Obtains words told before now status text = IsOwnReply words told before now status text ⊎ IsFaultReply words told before now status text

pub record PrintsAll (status : ℕ) (text : Bytes) (old new : Option Bytes) (before now result : ℕ) : Type 0 where
  pub is : result ≡ status
  pub appended : new ≡ append_known old text
  pub quiet : now ≡ before

pub record PrintsPart (text : Bytes) (old new : Option Bytes) (before now result : ℕ) : Type 0 where
  pub prefix : WritesPrefix old new text
  pub cause : ((result ≡ 8) × Rose before now) ⊎ ((result ≡ 9) × (now ≡ before))

abbrev pub Printed : ℕ → Bytes → Option Bytes → Option Bytes → ℕ → ℕ → ℕ → Type 0
Printed status text old new before now result = PrintsAll status text old new before now result ⊎ PrintsPart text old new before now result
