-- What tokens spell, and the first fault of a text.
use Rattle.std.specs.Prelude.{◌≡◌, ℕ, ◌+◌, ◌-◌, ◌==◌, nat_lt, List, [], ◌∷◌, ◌++◌, take, drop, map, if◌then◌else◌, Option, Some, None, slice_get}
use Rattle.std.specs.List.{flat_map}
use Rattle.kif_tree.specs.declared.form.Form.{Form, fold-Form}
use Rattle.kif_tree.specs.declared.form.Form.TheOpen.{Form-F}
use Rattle.kif_tree.specs.declared.place.Located.{Located}
use Rattle.kif_tree.specs.Shape.{first_forms_fault}
use Rattle.kif_reader.specs.Bytes.{IsPlace}
use Rattle.kif_reader.specs.Chunks.{◌>>=◌}
use Rattle.kif_reader.specs.Cut.{Piece, Blank, Comment, Lexeme, joined, Cuts, quoted, IsFault}
use Rattle.kif_reader.specs.Reading.{mark_len}
use Rattle.kif_reader.specs.declared.kinds.TokenKind.{TokenKind}
use Rattle.kif_reader.specs.declared.kinds.TokenKind.TheVariants.{Left, Right, Word, Variable, Row, Numeral, Quoted}
use Rattle.kif_reader.specs.declared.kinds.Fault.{Fault}
use Rattle.kif_reader.specs.declared.kinds.Fault.TheVariants as faults
use Rattle.kif_reader.specs.declared.kinds.ReadError.{ReadError}
use Rattle.kif_reader.specs.declared.kinds.ReadError.TheVariants as errors

-- a token with the bytes that stand before it
pub record Lexed : Type 0 where
  pub kind : TokenKind
  pub bytes : List ℕ
  pub before : List ℕ

-- the tokens among pieces, behind these bytes
abbrev pub tokens_of : List ℕ → List Piece → List Lexed
tokens_of before [] = []
tokens_of before (Blank byte ∷ pieces) = tokens_of (before ++ byte ∷ []) pieces
tokens_of before (Comment body ∷ pieces) = tokens_of (before ++ 59 ∷ body) pieces
tokens_of before (Lexeme kind bytes ∷ pieces) = record { kind = kind; bytes = bytes; before = before } ∷ tokens_of (before ++ bytes) pieces

-- how many lists are open; there is no such number behind a stray `)` and behind a `(` that opens level 201
abbrev pub level_behind : TokenKind → ℕ → Option ℕ
level_behind Left n = if nat_lt n 200 then Some (n + 1) else None
level_behind Right n = if n == 0 then None else Some (n - 1)
level_behind Word n = Some n
level_behind Variable n = Some n
level_behind Row n = Some n
level_behind Numeral n = Some n
level_behind Quoted n = Some n

abbrev pub level : ℕ → List Lexed → Option ℕ
level n [] = Some n
level n (token ∷ tokens) = level_behind token.kind n >>= (λ m. level m tokens)

-- the tokens of a form
abbrev pub Spelled : Type 0
Spelled = List (TokenKind × List ℕ)

abbrev pub spelling_step : Form-F Spelled → Spelled
spelling_step (Form-F.Word text) = (Word, text) ∷ []
spelling_step (Form-F.Variable text) = (Variable, 63 ∷ text) ∷ []
spelling_step (Form-F.Row text) = (Row, 64 ∷ text) ∷ []
spelling_step (Form-F.Numeral text) = (Numeral, text) ∷ []
spelling_step (Form-F.Quoted text) = (Quoted, quoted text) ∷ []
spelling_step (Form-F.List parts) = ((Left, 40 ∷ []) ∷ flat_map (λ part. part) parts) ++ (Right, 41 ∷ []) ∷ []

unfoldable pub spelling : Form → Spelled
spelling = fold-Form Spelled spelling_step

abbrev pub bare : Lexed → TokenKind × List ℕ
bare token = (token.kind, token.bytes)

-- the first token stands at this place
abbrev pub BeginsAt : ℕ → ℕ → List Lexed → Type 0
BeginsAt line column [] = ⊥
BeginsAt line column (token ∷ tokens) = IsPlace line column token.before

-- the tokens spell the form of this number, where it stands
pub record SpellsForm (constituent number : ℕ) (located : Located) (tokens : List Lexed) : Type 0 where
  pub spelled : map bare tokens ≡ spelling located.form
  pub place : BeginsAt located.place.line located.place.column tokens
  pub number_is : located.place.form ≡ number
  pub constituent_is : located.place.constituent ≡ constituent

-- forms, the first of this number
abbrev pub SpellsForms : ℕ → ℕ → List Located → List Lexed → Type 0
SpellsForms constituent number [] tokens = tokens ≡ []
SpellsForms constituent number (located ∷ more) tokens =
    (mine : List Lexed) × (rest : List Lexed) × (tokens ≡ mine ++ rest) × SpellsForm constituent number located mine × SpellsForms constituent (number + 1) more rest

-- the text up to a rest is cut into pieces with these tokens
pub record Reads (text : List ℕ) (tokens : List Lexed) (before rest : List ℕ) : Type 0 where
  pub pieces : List Piece
  pub cuts : Cuts (drop (mark_len text) text) pieces rest
  pub taken : before ≡ take (mark_len text) text ++ joined pieces
  pub is : tokens ≡ tokens_of (take (mark_len text) text) pieces

-- the forms of located forms
abbrev pub forms_of : List Located → List Form
forms_of forms = map (λ located. located.form) forms

-- the whole text is cut into tokens that nest well and spell these forms, each at its place
pub record SpellsAll (constituent : ℕ) (text : List ℕ) (forms : List Located) (tokens : List Lexed) : Type 0 where
  pub before : List ℕ
  pub reads : Reads text tokens before []
  pub nests : level 0 tokens ≡ Some 0
  pub spelled : SpellsForms constituent 1 forms tokens

-- the text spells these forms, where they stand, and none of them has a fault of shape
pub record Spells (constituent : ℕ) (text : List ℕ) (forms : List Located) : Type 0 where
  pub tokens : List Lexed
  pub spelled : SpellsAll constituent text forms tokens
  pub shaped : first_forms_fault (forms_of forms) ≡ None

-- ---- the first fault

-- Behind tokens that nest well, blanks and comments no token can be taken.
pub record LexFault (fault : Fault) (at_line at_column : ℕ) (text : List ℕ) : Type 0 where
  pub tokens : List Lexed
  pub before : List ℕ
  pub inner : List ℕ
  pub rest : List ℕ
  pub depth : ℕ
  pub reads : Reads text tokens before (inner ++ rest)
  pub nests : level 0 tokens ≡ Some depth
  pub met : IsFault fault inner rest
  pub place : IsPlace at_line at_column (before ++ inner)

-- Behind tokens that leave so many lists open this parenthesis is next, which may not stand there.
pub record NestFault (depth byte : ℕ) (at_line at_column : ℕ) (text : List ℕ) : Type 0 where
  pub tokens : List Lexed
  pub before : List ℕ
  pub rest : List ℕ
  pub reads : Reads text tokens before (byte ∷ rest)
  pub nests : level 0 tokens ≡ Some depth
  pub place : IsPlace at_line at_column before

-- The whole text is cut into tokens: behind those that leave nothing open comes a `(` that no later token closes.
pub record LeavesOpen (at_line at_column : ℕ) (text : List ℕ) : Type 0 where
  pub closed : List Lexed
  pub outermost : Lexed
  pub inner : List Lexed
  pub before : List ℕ
  pub depth : ℕ
  pub reads : Reads text (closed ++ outermost ∷ inner) before []
  pub balanced : level 0 closed ≡ Some 0
  pub opens : outermost.kind ≡ Left
  pub unclosed : level 0 inner ≡ Some depth
  pub nests : level 0 (closed ++ outermost ∷ inner) ≡ Some (1 + depth)
  pub place : IsPlace at_line at_column outermost.before

-- The whole text spells forms, of which one has a fault of shape: the first such fault begins at this token.
pub record ShapeFault (constituent : ℕ) (at_line at_column : ℕ) (text : List ℕ) : Type 0 where
  pub forms : List Located
  pub tokens : List Lexed
  pub spelled : SpellsAll constituent text forms tokens
  pub number : ℕ
  pub first : first_forms_fault (forms_of forms) ≡ Some number
  pub token : Lexed
  pub stands : slice_get tokens number ≡ Some token
  pub place : IsPlace at_line at_column token.before

-- the first fault of the text; want of memory says nothing of it
abbrev pub FirstFault : ℕ → List ℕ → ReadError → Type 0
FirstFault constituent text (errors.BadByte spot) = LexFault faults.BadByte spot.line spot.column text
FirstFault constituent text (errors.OpenString spot) = LexFault faults.OpenString spot.line spot.column text
FirstFault constituent text (errors.OpenList spot) = LeavesOpen spot.line spot.column text
FirstFault constituent text (errors.StrayClose spot) = NestFault 0 41 spot.line spot.column text
FirstFault constituent text (errors.BadEscape spot) = LexFault faults.BadEscape spot.line spot.column text
FirstFault constituent text (errors.BadWord spot) = LexFault faults.BadWord spot.line spot.column text
FirstFault constituent text (errors.TooDeep spot) = NestFault 200 40 spot.line spot.column text
FirstFault constituent text (errors.LogicShape spot) = ShapeFault constituent spot.line spot.column text
FirstFault constituent text errors.NoMemory = Unit {0}
