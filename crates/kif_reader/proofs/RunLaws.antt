-- The tokens that are taken of a text are those of its cut.
use Rattle.std.proofs.Common.{◌≡◌, ℕ, List, [], ◌∷◌, ◌++◌, take, sym, ap, ◌∙◌, refl, subst, append_assoc, append-nil}
use Rattle.std.specs.List.{AllZip}
use Rattle.std.proofs.lemmas.List.{take-append-drop}
use Rattle.sigma_base.specs.Lists.{Each}
use Rattle.kif_reader.specs.Bytes.{IsPlace}
use Rattle.kif_reader.specs.Cut.{Piece, Blank, Comment, Lexeme, joined}
use Rattle.kif_reader.specs.Reading.{Progress, Starts, Took, Met, Finished, mark_len, spot_of}
use Rattle.kif_reader.specs.Runs.{Gives, IsTold, TellsTokens, TellsFault}
use Rattle.kif_reader.specs.Spelling.{Lexed, Reads, tokens_of}
use Rattle.kif_reader.specs.declared.kinds.LexError.{LexError}
use Rattle.kif_reader.specs.declared.kinds.Token.{Token}
use Rattle.kif_reader.proofs.ReadLaws.{reads_idle}
use Rattle.kif_reader.proofs.StepLaws.{reads_took, reads_finished}

reads_start : (text : List ℕ) (new : Progress) → Starts text new → Reads text [] new.before new.rest
reads_start text new starts = record { pieces = []; cuts = record { whole = sym starts.rest; stand = tt }; taken = starts.before ∙ sym (append-nil (take (mark_len text) text)); is = refl }

told_push : (tokens : List Token) (lexed : List Lexed) (token : Token) (last : Lexed) → AllZip IsTold tokens lexed → IsTold token last → AllZip IsTold (tokens ++ token ∷ []) (lexed ++ last ∷ [])
told_push [] [] token last all one = (one, tt)
told_push [] (l ∷ ls) token last all one = absurd all
told_push (t ∷ ts) [] token last all one = absurd all
told_push (t ∷ ts) (l ∷ ls) token last all one = (all.0, told_push ts ls token last all.1 one)

-- one token more
tells_more : (text : List ℕ) (tokens : List Token) (token : Token) (old new : Progress) → Took token old new → TellsTokens text tokens old.before old.rest → TellsTokens text (tokens ++ token ∷ []) new.before new.rest
tells_more text tokens token old new took is =
    let last : Lexed = record { kind = token.kind; bytes = token.text.now; before = old.before ++ took.skipped } in
    record {
      lexed = is.lexed ++ last ∷ [];
      reads = reads_took text is.lexed token old new took is.reads;
      told = told_push tokens is.lexed token last is.told (record { kind = refl; bytes = refl; place = took.place });
    }

tells_all : (text : List ℕ) (first tokens : List Token) (old new : Progress) → TellsTokens text first old.before old.rest → Gives tokens old new → TellsTokens text (first ++ tokens) new.before new.rest
tells_all text first [] old new is gives = subst (λ ts. TellsTokens text ts new.before new.rest) (sym (append-nil first)) (subst (λ (p : Progress). TellsTokens text first p.before p.rest) gives is)
tells_all text first (token ∷ tokens) old new is gives =
    subst (λ ts. TellsTokens text ts new.before new.rest) (append_assoc first (token ∷ []) tokens) (tells_all text (first ++ token ∷ []) tokens gives.0 new (tells_more text first token old gives.0 gives.1 is) gives.2)

pub gives_tokens : (text : List ℕ) (start now : Progress) (tokens : List Token) → Starts text start → Gives tokens start now → TellsTokens text tokens now.before now.rest
gives_tokens text start now tokens starts gives = tells_all text [] tokens start now (record { lexed = []; reads = reads_start text start starts; told = tt }) gives

pub gives_whole : (text : List ℕ) (start now last : Progress) (tokens : List Token) → Starts text start → Gives tokens start now → Finished now last → TellsTokens text tokens last.before []
gives_whole text start now last tokens starts gives ends =
    let is = gives_tokens text start now tokens starts gives in
    record { lexed = is.lexed; reads = subst (λ b. Reads text is.lexed b []) (sym ends.taken) (reads_finished text is.lexed now last ends is.reads); told = is.told }

pub gives_fault : (text : List ℕ) (start now last : Progress) (tokens : List Token) (error : LexError) → Starts text start → Gives tokens start now → Met error now last → TellsFault text tokens error
gives_fault text start now last tokens error starts gives met =
    let is = gives_tokens text start now tokens starts gives in
    record {
      before = now.before ++ met.skipped;
      inner = met.inner;
      rest = last.rest;
      told = record { lexed = is.lexed; reads = reads_idle text is.lexed now.before met.skipped (met.inner ++ last.rest) (subst (Reads text is.lexed now.before) met.left is.reads) met.idle; told = is.told };
      met = met.is;
      place = subst (IsPlace (spot_of error).line (spot_of error).column) (sym (append_assoc now.before met.skipped met.inner)) met.place;
    }

-- ---- where the tokens of a cut stand

abbrev StandsIn : List ℕ → Lexed → Type 0
StandsIn text token = (behind : List ℕ) × (text ≡ token.before ++ (token.bytes ++ behind))

pieces_in : (text before : List ℕ) (pieces : List Piece) (rest : List ℕ) → text ≡ before ++ (joined pieces ++ rest) → Each (StandsIn text) (tokens_of before pieces)
pieces_in text before [] rest e = tt
pieces_in text before (Blank byte ∷ pieces) rest e = pieces_in text (before ++ byte ∷ []) pieces rest (e ∙ sym (append_assoc before (byte ∷ []) (joined pieces ++ rest)))
pieces_in text before (Comment body ∷ pieces) rest e = pieces_in text (before ++ 59 ∷ body) pieces rest (e ∙ ap (λ l. before ++ l) (append_assoc (59 ∷ body) (joined pieces) rest) ∙ sym (append_assoc before (59 ∷ body) (joined pieces ++ rest)))
pieces_in text before (Lexeme kind bytes ∷ pieces) rest e =
    let split = e ∙ ap (λ l. before ++ l) (append_assoc bytes (joined pieces) rest) in
    ((joined pieces ++ rest, split), pieces_in text (before ++ bytes) pieces rest (split ∙ sym (append_assoc before bytes (joined pieces ++ rest))))

pub tokens_stand : (text : List ℕ) (tokens : List Lexed) (before rest : List ℕ) → Reads text tokens before rest → Each (StandsIn text) tokens
tokens_stand text tokens before rest is =
    subst (Each (StandsIn text)) (sym is.is) (pieces_in text (take (mark_len text) text) is.pieces rest (sym (take-append-drop (mark_len text) text) ∙ ap (λ l. take (mark_len text) text ++ l) is.cuts.whole))
