-- Laws of the definitions.
use Rattle.std.specs.Prelude.{◌≡◌, ◌≢◌, ◌⊎◌, ℕ, List, [], ◌∷◌, ◌++◌, true, false, codes}
use Rattle.std.specs.Bool.{Decides}
use Rattle.sigma_base.specs.Lists.{Each}
use Rattle.kif_tree.specs.declared.form.Form.{Form}
use Rattle.kif_tree.specs.declared.place.Located.{Located}
use Rattle.kif_tree.specs.Printed.{form_text}
use Rattle.kif_tree.specs.Shape.{has_word, is_shaped}
use Rattle.kif_reader.specs.Chunks.{is_numeral, IsNumeral}
use Rattle.kif_reader.specs.Reading.{Progress, Starts, Met, Finished}
use Rattle.kif_reader.specs.Runs.{Gives, TellsTokens, TellsFault}
use Rattle.kif_reader.specs.Spellable.{IsSpellable}
use Rattle.kif_reader.specs.Spelling.{Lexed, Reads, Spells, FirstFault}
use Rattle.kif_reader.specs.declared.kinds.LexError.{LexError}
use Rattle.kif_reader.specs.declared.kinds.Token.{Token}
use Rattle.kif_reader.specs.declared.kinds.ReadError.{ReadError}
use Rattle.kif_reader.specs.declared.kinds.ReadError.TheVariants as errors

-- ---- a text is read in one way

-- a text spells forms, or has a first fault
abbrev pub HasReading : ℕ → List ℕ → Type 0
HasReading constituent text = ((forms : List Located) × Spells constituent text forms) ⊎ ((error : ReadError) × (error ≢ errors.NoMemory) × FirstFault constituent text error)

-- each text does, whatever memory there is
abbrev pub EachHasReading : Type 0
EachHasReading = (constituent : ℕ) (text : List ℕ) → HasReading constituent text

-- a text spells one list of forms at most, with their places
abbrev pub SpellsOnce : Type 0
SpellsOnce = (constituent : ℕ) (text : List ℕ) (first second : List Located) → Spells constituent text first → Spells constituent text second → first ≡ second

-- a text that spells forms has no fault
abbrev pub SpelledHasNoFault : Type 0
SpelledHasNoFault = (constituent : ℕ) (text : List ℕ) (forms : List Located) (error : ReadError) → Spells constituent text forms → FirstFault constituent text error → error ≢ errors.NoMemory → ⊥

-- a text has one first fault at most, with its place
abbrev pub OneFirstFault : Type 0
OneFirstFault = (constituent : ℕ) (text : List ℕ) (first second : ReadError) → FirstFault constituent text first → FirstFault constituent text second → first ≢ errors.NoMemory → second ≢ errors.NoMemory → first ≡ second

-- the tokens at the front of a text are those with which the whole text begins
abbrev pub FrontIsOfWhole : Type 0
FrontIsOfWhole = (text : List ℕ) (tokens whole : List Lexed) (before all rest : List ℕ) → Reads text tokens before rest → Reads text whole all [] → (more : List Lexed) × (whole ≡ tokens ++ more)

-- ---- the forms that texts spell

-- their leaves are of their kinds
abbrev pub SpelledIsSpellable : Type 0
SpelledIsSpellable = (constituent : ℕ) (text : List ℕ) (forms : List Located) → Spells constituent text forms → Each (λ (located : Located). IsSpellable located.form) forms

-- the word of answer literals doesn't occur in them
abbrev pub SpelledHasNoAnswer : Type 0
SpelledHasNoAnswer = (constituent : ℕ) (text : List ℕ) (forms : List Located) → Spells constituent text forms → Each (λ (located : Located). has_word (codes "!answer") located.form ≡ false) forms

-- each has its shape
abbrev pub SpelledIsShaped : Type 0
SpelledIsShaped = (constituent : ℕ) (text : List ℕ) (forms : List Located) → Spells constituent text forms → Each (λ (located : Located). is_shaped located.form ≡ true) forms

-- the form alone, at the start of a text
abbrev pub alone : ℕ → Form → List Located
alone constituent form = record { form = form; place = record { constituent = constituent; form = 1; line = 1; column = 1 } } ∷ []

-- the printed text of each spells just that form
abbrev pub PrintedSpellsAgain : Type 0
PrintedSpellsAgain = (constituent other : ℕ) (text : List ℕ) (forms : List Located) → Spells constituent text forms → Each (λ (located : Located). Spells other (form_text located.form) (alone other located.form)) forms

-- ---- the tokens that are taken of a text

-- those that a new reader gives, one after the other, are the first ones of the text's cut, where they say
abbrev pub GivesTheTokens : Type 0
GivesTheTokens = (text : List ℕ) (start now : Progress) (tokens : List Token) → Starts text start → Gives tokens start now → TellsTokens text tokens now.before now.rest

-- each token of a cut stands in the text behind the bytes that it names
abbrev pub TokensStand : Type 0
TokensStand = (text : List ℕ) (tokens : List Lexed) (before rest : List ℕ) → Reads text tokens before rest → Each (λ (token : Lexed). (behind : List ℕ) × (text ≡ token.before ++ (token.bytes ++ behind))) tokens

-- where it ends, they are those of the cut of the whole text
abbrev pub EndsAtTheEnd : Type 0
EndsAtTheEnd = (text : List ℕ) (start now last : Progress) (tokens : List Token) → Starts text start → Gives tokens start now → Finished now last → TellsTokens text tokens last.before []

-- where it meets a fault, behind them no token can be taken, for that reason, at that place
abbrev pub MeetsTheFault : Type 0
MeetsTheFault = (text : List ℕ) (start now last : Progress) (tokens : List Token) (error : LexError) → Starts text start → Gives tokens start now → Met error now last → TellsFault text tokens error

-- a text has one first fault of a token at most, with its place, however its parentheses nest
abbrev pub OneLexFault : Type 0
OneLexFault = (text : List ℕ) (tokens others : List Token) (error other : LexError) → TellsFault text tokens error → TellsFault text others other → error ≡ other

-- where the whole text is cut into tokens, none has a fault
abbrev pub WholeHasNoLexFault : Type 0
WholeHasNoLexFault = (text : List ℕ) (tokens others : List Token) (before : List ℕ) (error : LexError) → TellsTokens text tokens before [] → TellsFault text others error → ⊥

-- ---- numerals

-- the test of the definitions decides what is a numeral
abbrev pub NumeralDecides : Type 0
NumeralDecides = (text : List ℕ) → Decides (is_numeral text) (IsNumeral text)
