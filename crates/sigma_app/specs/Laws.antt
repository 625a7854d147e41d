-- Laws of the definitions.
use Rattle.std.specs.Prelude.{◌≡◌, ◌≢◌, false, ◌⊎◌, ℕ, List, Ok}
use Rattle.kif_tree.specs.Terms.{Bytes}
use Rattle.clause_form.specs.declared.query.QueryClauses.{QueryClauses}
use Rattle.clause_form.specs.Queries.{IsQueryAnswer}
use Rattle.diagnose.specs.declared.diagnostic.Diagnostic.{Diagnostic}
use Rattle.translate.specs.declared.translated.Translated.{Translated}
use Rattle.unify.specs.ClauseSets.{IsClauseSet}
use Rattle.sigma_app.specs.Snapshots.{HaveTranslation, AreFull, AreAllDiagnostics}
use Rattle.kif_tree.specs.declared.place.Located.{Located}
use Rattle.kif_tree.specs.declared.place.Place.{Place}
use Rattle.sigma_app.specs.declared.files.Part.{Part}
use Rattle.sigma_app.specs.Requests.{Asked, asks, checks, gives_clauses, Means, IsTaken, NamesNone, is_refused}
use Rattle.sigma_app.specs.Files.{Contents, SpellParts, HaveForms}
use Rattle.sigma_app.specs.Tool.{Is, usage, Tool}
use Rattle.sigma_app.specs.Run.{MayBeRefused}

-- a status and a text for which this holds
abbrev pub Outcome : (ℕ → Bytes → Type 0) → Type 0
Outcome Gives = (status : ℕ) × (text : Bytes) × Gives status text

-- the words mean a check of these files, or ask for their clauses
abbrev pub Translating : List Bytes → List Bytes → Type 0
Translating words files = Means words (checks files) ⊎ Means words (gives_clauses files)

-- the words ask a query
abbrev pub Asking : List Bytes → Type 0
Asking words = (asked : Asked) × Means words (asks asked)

-- the tool has an outcome for every list of words for which no translation is needed, whatever the files hold
abbrev pub ToolAnswers : Type 0
ToolAnswers = (words : List Bytes) (contents : Contents) → ((files : List Bytes) → Translating words files → ⊥) → (Asking words → ⊥) → Outcome (Tool words contents)

-- The words ask a query that is one, over files that are there, within the limits and spelled, whose clauses are not too many: where the tool
-- doesn't refuse the words, it shows an answer or a contradiction, or that there is none.
abbrev pub GoodQueriesAreAnswered : Type 0
GoodQueriesAreAnswered = (words : List Bytes) (contents : Contents) (asked : Asked) (parts : List Part) (forms : List Located)
    (query : QueryClauses) (status : ℕ) (text : Bytes)
    → Means words (asks asked) → is_refused (asks asked) ≡ false
    → HaveForms contents asked.paths parts forms → ((place : Place) → AreFull forms place → ⊥) → IsQueryAnswer asked.query (Ok query)
    → Tool words contents status text → status ≢ 2 → (status ≡ 0) ⊎ (status ≡ 1)

-- the tool refuses words only where the parser's promise doesn't take them or their meaning is refused
abbrev pub UsageHasCause : Type 0
UsageHasCause = (words : List Bytes) (contents : Contents) (status : ℕ) (text : Bytes) → Tool words contents status text → status ≡ 2 → MayBeRefused words

-- What the forms of the texts give is a set of clauses to ask. So the laws on what a set answers say of the page of a query what they say of
-- its outcome, whatever the status.
abbrev pub TranslationsAreSets : Type 0
TranslationsAreSets = (parts : List Part) (forms : List Located) (translated : Translated)
    → SpellParts parts forms → HaveTranslation forms translated → IsClauseSet translated.inputs

-- the forms have a translation and a list of diagnostics, or more clauses than a snapshot may have
abbrev pub AreTranslated : List Located → Type 0
AreTranslated forms =
    ((place : Place) × AreFull forms place)
    ⊎ ((translated : Translated) × HaveTranslation forms translated × ((list : List Diagnostic) × AreAllDiagnostics forms translated list))

-- the forms of the files, where all is well with these, are such forms
abbrev pub HaveTranslated : Contents → List Bytes → Type 0
HaveTranslated contents files = (parts : List Part) (forms : List Located) → HaveForms contents files parts forms → AreTranslated forms

-- The tool has an outcome for a check of such files, and for their clauses. That all forms are such is no law of the definitions: it is
-- known of those for which a run of the tool found it.
abbrev pub TranslationsAnswer : Type 0
TranslationsAnswer = (words : List Bytes) (contents : Contents) (files : List Bytes) → Translating words files → HaveTranslated contents files → Outcome (Tool words contents)

abbrev pub SameOutcome : ℕ → ℕ → Bytes → Bytes → Type 0
SameOutcome status other text page = (status ≡ other) × (text ≡ page)

-- For the same words and files, the status and the text are the same. Only where the parser's promise doesn't take the words there are two
-- outcomes, and then one of them is the usage.
abbrev pub ToolIsOne : Type 0
ToolIsOne = (words : List Bytes) (contents : Contents) (status other : ℕ) (text page : Bytes)
    → Tool words contents status text → Tool words contents other page
    → SameOutcome status other text page ⊎ ((IsTaken words → ⊥) × (Is 2 usage status text ⊎ Is 2 usage other page))

-- where there is no word, or the first names no command, the usage is the one outcome
abbrev pub OthersGetUsage : Type 0
OthersGetUsage = (words : List Bytes) (contents : Contents) (status : ℕ) (text : Bytes) → NamesNone words → Tool words contents status text → Is 2 usage status text
