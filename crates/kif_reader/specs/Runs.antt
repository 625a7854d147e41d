-- Tokens that are taken one after the other.
use Rattle.std.specs.Prelude.{◌≡◌, ℕ, List, [], ◌∷◌, ◌++◌}
use Rattle.std.specs.List.{AllZip}
use Rattle.kif_reader.specs.Bytes.{IsPlace}
use Rattle.kif_reader.specs.Cut.{IsFault}
use Rattle.kif_reader.specs.Reading.{Progress, Took, fault_of, spot_of}
use Rattle.kif_reader.specs.Spelling.{Lexed, Reads}
use Rattle.kif_reader.specs.declared.kinds.LexError.{LexError}
use Rattle.kif_reader.specs.declared.kinds.Token.{Token}

-- from the old state on the tokens were taken, up to the new one
abbrev pub Gives : List Token → Progress → Progress → Type 0
Gives [] old new = old ≡ new
Gives (token ∷ tokens) old new = (next : Progress) × Took token old next × Gives tokens next new

-- the token is that of the cut, and names the place of its first byte
pub record IsTold (token : Token) (lexed : Lexed) : Type 0 where
  pub kind : token.kind ≡ lexed.kind
  pub bytes : token.text.now ≡ lexed.bytes
  pub place : IsPlace token.line token.column lexed.before

-- the text up to a rest is cut into pieces with these tokens
pub record TellsTokens (text : List ℕ) (tokens : List Token) (before rest : List ℕ) : Type 0 where
  pub lexed : List Lexed
  pub reads : Reads text lexed before rest
  pub told : AllZip IsTold tokens lexed

-- behind these tokens, blanks and comments no token can be taken
pub record TellsFault (text : List ℕ) (tokens : List Token) (error : LexError) : Type 0 where
  pub before : List ℕ
  pub inner : List ℕ
  pub rest : List ℕ
  pub told : TellsTokens text tokens before (inner ++ rest)
  pub met : IsFault (fault_of error) inner rest
  pub place : IsPlace (spot_of error).line (spot_of error).column (before ++ inner)
