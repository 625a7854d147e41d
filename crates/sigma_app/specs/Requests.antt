-- What the words of a command line ask for: the values that the parser of command lines promises for them.
use Rattle.std.specs.Prelude.{◌≡◌, ◌↔◌, ◌⊎◌, nat_lt, List, [], ◌∷◌, map, length, Option, Some, None, option_map, option_and_then, Bool, true, false, ◌||◌, Result, Ok, Err, codes, ℕ, IfSome, ◌≤◌}
use Rattle.std.specs.Option.{option_map_or}
use Rattle.std.specs.List.{list_any}
use Rattle.std.specs.Str.{bytes_eq}
use Rattle.std.specs.Str.Parse.{IsNumeral, digits_value, without_leading_plus}
use Rattle.std.specs.Borrow.{Bor}
use Rattle.clap.specs.ValueTests.{accepts}
use Rattle.clap.specs.Words.{Row, takes, matches_of, first_of, all_of}
use Rattle.sigma_base.specs.Lists.{Each}
use Rattle.kif_tree.specs.Terms.{Bytes}
use Rattle.sig_io.specs.Named.{AreDistinct}
use Rattle.sigma_app.specs.Commands.{named, app, modes}
use Rattle.sigma_app.specs.declared.commands.CommandName.{CommandName}
use Rattle.sigma_app.specs.declared.commands.CommandName.TheVariants as command
use Rattle.sigma_app.specs.declared.requests.Ask.{Ask}
use Rattle.sigma_app.specs.declared.requests.Request.{Request}
use Rattle.sigma_app.specs.declared.requests.Request.TheVariants as request
use Rattle.sigma_app.specs.declared.requests.WordsError.{WordsError}
use Rattle.sigma_app.specs.declared.requests.WordsError.TheVariants.{Usage, NoMemory}

-- what is asked, of which files, and the options as they are written
pub record Asked : Type 0 where
  pub query : Bytes
  pub paths : List Bytes
  pub turns : Option Bytes
  pub answers : Option Bytes
  pub kept : Option Bytes
  pub mode : Option Bytes

-- what a command line asks for
pub data Meaning : Type 0 where
  asks : Asked → Meaning
  checks : List Bytes → Meaning
  gives_clauses : List Bytes → Meaning
  exports : List Bytes → Meaning
  drills : Bytes → Meaning

-- ---- the values of a command's words

abbrev pub paths_of : List Row → Option (List Bytes)
paths_of rows = all_of (codes "files") rows

abbrev pub asked_of : List Row → Bytes → List Bytes → Asked
asked_of rows query paths = record {
  query = query;
  paths = paths;
  turns = first_of (codes "turns") rows;
  answers = first_of (codes "answers") rows;
  kept = first_of (codes "kept") rows;
  mode = first_of (codes "mode") rows;
}

-- the words after the command's name, by what was found in them
abbrev pub meaning_by : CommandName → List Row → Option Meaning
meaning_by command.Ask rows = option_and_then (λ query. option_map (λ paths. asks (asked_of rows query paths)) (paths_of rows)) (first_of (codes "query") rows)
meaning_by command.Check rows = option_map checks (paths_of rows)
meaning_by command.Clauses rows = option_map gives_clauses (paths_of rows)
meaning_by command.Export rows = option_map exports (paths_of rows)
meaning_by command.Drill rows = option_map drills (first_of (codes "size") rows)

-- ---- command lines

-- what the words mean: the first names the command, and the parser promises the values that it finds in the others
unfoldable pub meaning : List Bytes → Option Meaning
meaning [] = None
meaning (word ∷ rest) = option_and_then (λ name. meaning_by name (matches_of (app name) rest)) (named word)

-- The first word names a command, and the parser promises to take the others: `takes` is its own statement, and words that it
-- takes are refused for want of memory alone.
unfoldable pub is_taken : List Bytes → Bool
is_taken [] = false
is_taken (word ∷ rest) = option_map_or (λ name. takes (app name) rest) (named word) false

abbrev pub Means : List Bytes → Meaning → Type 0
Means words value = meaning words ≡ Some value

abbrev pub IsTaken : List Bytes → Type 0
IsTaken words = is_taken words ≡ true

-- ---- what is refused although its words are read

-- the files, in the order in which they were written
abbrev pub paths : Meaning → List Bytes
paths (asks asked) = asked.paths
paths (checks files) = files
paths (gives_clauses files) = files
paths (exports files) = files
paths (drills size) = []

-- the greatest number of bytes of a query
abbrev pub query_limit : ℕ
query_limit = 8388608

-- the query has more bytes than its limit
abbrev pub is_long : Meaning → Bool
is_long (asks asked) = nat_lt query_limit (length asked.query)
is_long (checks files) = false
is_long (gives_clauses files) = false
is_long (exports files) = false
is_long (drills size) = false

-- some path stands at two places
abbrev pub stand_twice : List Bytes → Bool
stand_twice [] = false
stand_twice (path ∷ rest) = list_any (bytes_eq path) rest || stand_twice rest

abbrev pub is_refused : Meaning → Bool
is_refused value = is_long value || stand_twice (paths value)

-- ---- what the code reads

abbrev pub texts : List (Bor Bytes) → List Bytes
texts = map (λ s. s.now)

abbrev pub text_if : Option (Bor Bytes) → Option Bytes
text_if = option_map (λ s. s.now)

-- the texts that are lent
abbrev pub asked_value : Ask → Asked
asked_value ask = record {
  query = ask.query.now;
  paths = texts ask.files.items;
  turns = text_if ask.turns;
  answers = text_if ask.answers;
  kept = text_if ask.kept;
  mode = text_if ask.mode;
}

abbrev pub meaning_of : Request → Meaning
meaning_of (request.Ask ask) = asks (asked_value ask)
meaning_of (request.Check files) = checks (texts files.items)
meaning_of (request.Clauses files) = gives_clauses (texts files.items)
meaning_of (request.Export files) = exports (texts files.items)
meaning_of (request.Drill size) = drills size.now

-- the request is what the words mean, and words that the parser promises to take are refused for want of memory alone
abbrev pub ReadsWords : List Bytes → Result Request WordsError → Type 0
ReadsWords words (Ok r) = Means words (meaning_of r)
ReadsWords words (Err Usage) = IsTaken words → ⊥
ReadsWords words (Err NoMemory) = Unit {0}

-- ---- laws

-- words mean one thing at most
abbrev pub MeansOne : Type 0
MeansOne = (words : List Bytes) (a b : Meaning) → Means words a → Means words b → a ≡ b

-- the first word names no command, or there is none
abbrev pub NamesNone : List Bytes → Type 0
NamesNone [] = Unit {0}
NamesNone (word ∷ rest) = named word ≡ None

-- such words mean nothing
abbrev pub OthersMeanNothing : Type 0
OthersMeanNothing = (words : List Bytes) → NamesNone words → meaning words ≡ None

-- words that the parser promises to take mean something
abbrev pub TakenMeans : Type 0
TakenMeans = (words : List Bytes) → IsTaken words → (value : Meaning) × Means words value

-- words of each command, as an author writes them
abbrev pub usage : List (List Bytes)
usage =
    (codes "ask" ∷ codes "(p ?X)" ∷ codes "a.kif" ∷ [])
    ∷ (codes "ask" ∷ codes "--turns" ∷ codes "100000" ∷ codes "--answers" ∷ codes "1" ∷ codes "--kept" ∷ codes "200000" ∷ codes "--mode" ∷ codes "full"
    ∷ codes "(p ?X)" ∷ codes "a.kif" ∷ codes "b.kif" ∷ [])
    ∷ (codes "check" ∷ codes "a.kif" ∷ codes "b.kif" ∷ [])
    ∷ (codes "clauses" ∷ codes "a.kif" ∷ [])
    ∷ (codes "export" ∷ codes "a.kif" ∷ [])
    ∷ (codes "drill" ∷ codes "2000" ∷ [])
    ∷ []

-- they are taken, so what is said of words that are taken is said of some
abbrev pub TakesUsage : Type 0
TakesUsage = Each IsTaken usage

-- an option for the mode takes the two words and no others
abbrev pub TakesTwoModes : Type 0
TakesTwoModes = (word : Bytes) → (accepts false modes word ≡ true) ↔ ((word ≡ codes "support") ⊎ (word ≡ codes "full"))

-- the text is a number from 1 to the most in decimal, with a plus in front or none
abbrev pub IsUpTo : ℕ → Bytes → Type 0
IsUpTo most text =
    let digits = without_leading_plus text in
    IsNumeral 10 digits × (1 ≤ digits_value 10 digits) × (digits_value 10 digits ≤ most)

-- the options have the values that they may have
pub record HasOptions (asked : Asked) : Type 0 where
  pub turns : IfSome asked.turns (IsUpTo 100000)
  pub answers : IfSome asked.answers (IsUpTo 1000)
  pub kept : IfSome asked.kept (IsUpTo 200000)
  pub mode : IfSome asked.mode (λ word. (word ≡ codes "support") ⊎ (word ≡ codes "full"))

abbrev pub OptionsFit : Type 0
OptionsFit = (words : List Bytes) (asked : Asked) → IsTaken words → Means words (asks asked) → HasOptions asked

abbrev pub SizesFit : Type 0
SizesFit = (words : List Bytes) (size : Bytes) → IsTaken words → Means words (drills size) → IsUpTo 2000 size

-- no path stands twice exactly where the paths differ
abbrev pub TwiceIsExact : Type 0
TwiceIsExact = (files : List Bytes) → (stand_twice files ≡ false) ↔ AreDistinct files
