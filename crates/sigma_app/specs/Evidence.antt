-- What a page of answers rests on: proofs, the places that they cite, and their ground evidence.
use Rattle.std.specs.Prelude.{◌≡◌, ◌≢◌, ℕ, List, ◌∷◌, ◌++◌, Option, Some, None}
use Rattle.sigma_base.specs.Lists.{Each}
use Rattle.kif_tree.specs.declared.clause.InputClause.{InputClause}
use Rattle.kif_tree.specs.declared.place.Place.{Place}
use Rattle.kif_tree.specs.declared.place.Located.{Located}
use Rattle.kif_tree.specs.Terms.{Bytes}
use Rattle.kif_tree.specs.Clauses.{Literals}
use Rattle.kif_reader.specs.Spelling.{Spells}
use Rattle.calculus.specs.declared.step.Step.{Step}
use Rattle.calculus.specs.Rules.{nth}
use Rattle.calculus.specs.Answers.{Among}
use Rattle.translate.specs.declared.translated.Translated.{Translated}
use Rattle.saturate.specs.declared.limits.Limits.{Limits}
use Rattle.answers.specs.declared.outcome.Answer.{Answer}
use Rattle.answers.specs.declared.outcome.Outcome.{Outcome}
use Rattle.answers.specs.declared.proof.Proof.{Proof}
use Rattle.answers.specs.declared.proof.ProofLine.{ProofLine}
use Rattle.answers.specs.Pages.{page}
use Rattle.answers.specs.Questions as questions
use Rattle.sigma_app.specs.declared.files.Part.{Part}
use Rattle.sigma_app.specs.Requests.{Asked, asks, Means}
use Rattle.sigma_app.specs.Limits.{AreLimits}
use Rattle.sigma_app.specs.Files.{Contents, AreWhole, load_names, SpellParts}
use Rattle.sigma_app.specs.Snapshots.{HaveTranslation}

-- ---- cited lines

-- a clause of that variant of the form at the place, as the forms are translated
pub record IsTranslated (translated : Translated) (place : Place) (variant : ℕ) (clause : Literals) : Type 0 where
  pub input : InputClause
  pub among : Among input translated.inputs
  pub placed : input.place ≡ Some place
  pub counted : input.variant ≡ variant
  pub is : input.clause ≡ clause

-- The one part with the number that the place names has a text that spells, as the form of the number that the place names,
-- a form that begins in its line and column, and the clause is of that variant of the form.
pub record Holds (parts : List Part) (translated : Translated) (place : Place) (variant : ℕ) (clause : Literals) : Type 0 where
  pub before : List Part
  pub part : Part
  pub following : List Part
  pub stands : parts ≡ before ++ part ∷ following
  pub named : part.number ≡ place.constituent
  pub only : Each (λ other. other.number ≢ place.constituent) (before ++ following)
  pub forms : List Located
  pub spelled : Spells part.number part.text forms
  pub located : Located
  pub among : Among located forms
  pub at : located.place ≡ place
  pub gives : IsTranslated translated place variant clause

-- the step is an input, and its place, its variant and the clause of the line hold
pub record IsHeld (parts : List Part) (translated : Translated) (inputs : List InputClause) (step : Step) (line : ProofLine) (place : Place) : Type 0 where
  pub number : ℕ
  pub is_input : step ≡ Step.Input number
  pub input : InputClause
  pub stands : nth inputs number ≡ Some input
  pub holds : Holds parts translated place input.variant line.clause

-- each line of the proof that shows a place
abbrev pub AreHeld : List Part → Translated → List InputClause → Proof → Type 0
AreHeld parts translated inputs proof =
    (n : ℕ) (step : Step) (line : ProofLine) (place : Place) → nth proof.steps n ≡ Some step → nth proof.lines n ≡ Some line
    → line.place ≡ Some place → IsHeld parts translated inputs step line place

abbrev pub AreHeldIfThere : List Part → Translated → List InputClause → Option Proof → Type 0
AreHeldIfThere parts translated inputs None = Unit {0}
AreHeldIfThere parts translated inputs (Some proof) = AreHeld parts translated inputs proof

-- ---- the page

-- The text is the page of the outcome. Each answer of it has a proof: a derivation that ends in just what is shown, whose cited lines hold
-- its premises, and whose evidence refutes; and so has a contradiction.
pub record IsShown (query : Bytes) (parts : List Part) (translated : Translated) (text : Bytes) (outcome : Outcome) : Type 0 where
  pub page_is : text ≡ page (load_names parts) outcome
  pub proved : questions.IsProved translated.inputs query outcome
  pub held : Each (λ (answer : Answer). AreHeld parts translated outcome.inputs answer.proof) outcome.answers
  pub contradiction_held : AreHeldIfThere parts translated outcome.inputs outcome.contradiction

-- The words ask a query over files, all of which are there, and the clauses of their forms answer to it. Outcomes may differ in the names of
-- variables inside the substitutions of their proofs. Of every one of them the text is the page, and what it shows is proved.
pub record ShowsProof (words : List Bytes) (contents : Contents) (text : Bytes) : Type 0 where
  pub asked : Asked
  pub means : Means words (asks asked)
  pub limits : Limits
  pub are_limits : AreLimits asked limits
  pub parts : List Part
  pub whole : AreWhole contents 1 asked.paths parts
  pub forms : List Located
  pub spelled : SpellParts parts forms
  pub translated : Translated
  pub have : HaveTranslation forms translated
  pub outcome : Outcome
  pub answers : questions.IsAsked translated.inputs asked.query limits outcome
  pub every : (other : Outcome) → questions.IsAsked translated.inputs asked.query limits other → IsShown asked.query parts translated text other
