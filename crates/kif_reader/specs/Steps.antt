-- What the reading of one token does to the forms so far and to the lists that are open.
use Rattle.std.specs.Prelude.{◌≡◌, ℕ, ◌<◌, ◌+◌, ◌⊎◌, List, [], ◌∷◌, ◌++◌, length, map}
use Rattle.std.specs.List.{flat_map}
use Rattle.kif_tree.specs.declared.form.Form.{Form}
use Rattle.kif_tree.specs.declared.form.Form.TheVariants as form
use Rattle.kif_tree.specs.declared.place.Located.{Located}
use Rattle.kif_reader.specs.Spelling.{Lexed, spelling, bare, BeginsAt}
use Rattle.kif_reader.specs.declared.bytes.Spot.{Spot}
use Rattle.kif_reader.specs.declared.kinds.TokenKind.{TokenKind}
use Rattle.kif_reader.specs.declared.kinds.TokenKind.TheVariants.{Left, Right, Word, Variable, Row, Numeral, Quoted}
use Rattle.kif_reader.specs.declared.kinds.ReadError.{ReadError}
use Rattle.kif_reader.specs.declared.kinds.ReadError.TheVariants as errors
use Rattle.kif_reader.specs.declared.kinds.Open.{Open}

-- a list that is open, with the parts so far
pub record SpellsOpen (open_list : Open) (tokens : List Lexed) : Type 0 where
  pub spelled : map bare tokens ≡ (Left, 40 ∷ []) ∷ flat_map spelling open_list.parts
  pub place : BeginsAt open_list.line open_list.column tokens

abbrev pub SpellsOpens : List Open → List Lexed → Type 0
SpellsOpens [] tokens = tokens ≡ []
SpellsOpens (open_list ∷ more) tokens =
    (mine : List Lexed) × (rest : List Lexed) × (tokens ≡ mine ++ rest) × SpellsOpen open_list mine × SpellsOpens more rest

-- the form was put behind the parts of the innermost open list, or behind the forms
pub record AddsPart (form : Form) (forms new_forms : List Located) (open_lists new_open : List Open) : Type 0 where
  pub front : List Open
  pub last : Open
  pub old_is : open_lists ≡ front ++ last ∷ []
  pub new_is : new_open ≡ front ++ record last { parts = last.parts ++ form ∷ [] } ∷ []
  pub same : new_forms ≡ forms

pub record AddsForm (constituent : ℕ) (form : Form) (at_line at_column : ℕ) (forms new_forms : List Located) (open_lists new_open : List Open) : Type 0 where
  pub none : open_lists ≡ []
  pub same : new_open ≡ []
  pub new_is : new_forms ≡ forms ++ record { form = form; place = record { constituent = constituent; form = length forms + 1; line = at_line; column = at_column } } ∷ []

abbrev pub Adds : ℕ → Form → ℕ → ℕ → List Located → List Located → List Open → List Open → Type 0
Adds constituent form line column forms new_forms open_lists new_open =
    AddsForm constituent form line column forms new_forms open_lists new_open ⊎ AddsPart form forms new_forms open_lists new_open

-- what a token does to the forms and open lists
pub record FollowsLeft (at_line at_column : ℕ) (forms new_forms : List Located) (open_lists new_open : List Open) : Type 0 where
  pub room : length open_lists < 200
  pub new_is : new_open ≡ open_lists ++ record { line = at_line; column = at_column; parts = [] } ∷ []
  pub same : new_forms ≡ forms

pub record FollowsRight (constituent : ℕ) (forms new_forms : List Located) (open_lists new_open : List Open) : Type 0 where
  pub front : List Open
  pub last : Open
  pub old_is : open_lists ≡ front ++ last ∷ []
  pub adds : Adds constituent (form.List last.parts) last.line last.column forms new_forms front new_open

pub record FollowsLeaf (constituent : ℕ) (kind : TokenKind) (bytes : List ℕ) (at_line at_column : ℕ) (forms new_forms : List Located) (open_lists new_open : List Open) : Type 0 where
  pub part : Form
  pub spelled : spelling part ≡ (kind, bytes) ∷ []
  pub adds : Adds constituent part at_line at_column forms new_forms open_lists new_open

abbrev pub Follows : ℕ → TokenKind → List ℕ → ℕ → ℕ → List Located → List Located → List Open → List Open → Type 0
Follows constituent Left bytes line column forms new_forms open_lists new_open = FollowsLeft line column forms new_forms open_lists new_open
Follows constituent Right bytes line column forms new_forms open_lists new_open = FollowsRight constituent forms new_forms open_lists new_open
Follows constituent Word bytes line column forms new_forms open_lists new_open = FollowsLeaf constituent Word bytes line column forms new_forms open_lists new_open
Follows constituent Variable bytes line column forms new_forms open_lists new_open = FollowsLeaf constituent Variable bytes line column forms new_forms open_lists new_open
Follows constituent Row bytes line column forms new_forms open_lists new_open = FollowsLeaf constituent Row bytes line column forms new_forms open_lists new_open
Follows constituent Numeral bytes line column forms new_forms open_lists new_open = FollowsLeaf constituent Numeral bytes line column forms new_forms open_lists new_open
Follows constituent Quoted bytes line column forms new_forms open_lists new_open = FollowsLeaf constituent Quoted bytes line column forms new_forms open_lists new_open

-- the token is a parenthesis that may not stand at this level
pub record RefusesAt (kind wanted : TokenKind) (depth at_level at_line at_column : ℕ) (spot : Spot) : Type 0 where
  pub kind_is : kind ≡ wanted
  pub level_is : depth ≡ at_level
  pub line : spot.line ≡ at_line
  pub column : spot.column ≡ at_column

abbrev pub Refuses : TokenKind → ℕ → ℕ → ℕ → ReadError → Type 0
Refuses kind depth line column (errors.StrayClose spot) = RefusesAt kind Right depth 0 line column spot
Refuses kind depth line column (errors.TooDeep spot) = RefusesAt kind Left depth 200 line column spot
Refuses kind depth line column errors.NoMemory = Unit {0}
Refuses kind depth line column (errors.BadByte spot) = ⊥
Refuses kind depth line column (errors.OpenString spot) = ⊥
Refuses kind depth line column (errors.OpenList spot) = ⊥
Refuses kind depth line column (errors.BadEscape spot) = ⊥
Refuses kind depth line column (errors.BadWord spot) = ⊥
Refuses kind depth line column (errors.LogicShape spot) = ⊥
