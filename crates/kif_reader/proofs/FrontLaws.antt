-- At each place of a text a piece stands or a fault is met, or the text ends there.
use Rattle.std.proofs.Common.{◌≡◌, ℕ, Bool, true, false, eqb, cond, Option, Some, None, List, [], ◌∷◌, ◌++◌, inl, inr, append_assoc, take, drop, sym, ap, ◌∙◌, refl, subst, arith}
use Rattle.std.specs.List.{prefix_len}
use Rattle.std.proofs.lemmas.List.{take-append-drop}
use Rattle.std.proofs.lemmas.Bool.Decides.{nat_tests}
use Rattle.kif_reader.specs.Bytes.{is_blank, is_chunk_byte, is_string_byte, is_escaped, is_within_line}
use Rattle.kif_reader.specs.Chunks.{kind_of_chunk}
use Rattle.kif_reader.specs.Cut.{Piece, Blank, Comment, Lexeme, bytes_of, Stands, IsInside, IsChunk, EndsAs, IsFault, escaped_byte}
use Rattle.kif_reader.specs.declared.kinds.Fault.{Fault}
use Rattle.kif_reader.specs.declared.kinds.Fault.TheVariants as faults
use Rattle.kif_reader.specs.declared.kinds.StringEnd.{StringEnd}
use Rattle.kif_reader.specs.declared.kinds.StringEnd.TheVariants as ends
use Rattle.kif_reader.specs.declared.kinds.TokenKind.{TokenKind}
use Rattle.kif_reader.specs.declared.kinds.TokenKind.TheVariants.{Left, Right, Quoted}
use Rattle.kif_reader.proofs.PieceLaws.{all_front, stops_behind, chunk_at, token_at, bad_chunk_at}
use Rattle.kif_reader.proofs.StringLaws.{inside_none}

pub data Front (text : List ℕ) : Type 0 where
  Ends : text ≡ [] → Front text
  Stood : (piece : Piece) (follow : List ℕ) → text ≡ bytes_of piece ++ follow → Stands piece follow → Front text
  Faulty : (fault : Fault) (inner tail : List ℕ) → text ≡ inner ++ tail → IsFault fault inner tail → Front text

-- a test passes or fails
pub by_test : {A : Type 0} (test : Bool) → (test ≡ true → A) → (test ≡ false → A) → A
by_test true passes fails = passes refl
by_test false passes fails = fails refl

same_byte : (byte wanted : ℕ) → eqb byte wanted ≡ true → byte ≡ wanted
same_byte byte wanted e = grind (arith, nat_tests, e)

-- ---- strings

-- bytes of a string, and how they end
record StringFront (text : List ℕ) : Type 0 where
  inside : List ℕ
  tail : List ℕ
  end : StringEnd
  is : IsInside inside
  split : text ≡ inside ++ tail
  ends : EndsAs end tail

at_once : (text : List ℕ) (end : StringEnd) → EndsAs end text → StringFront text
at_once text end behind = record { inside = []; tail = text; end = end; is = inside_none; split = refl; ends = behind }

inside_first : (byte : ℕ) (bytes : List ℕ) → is_string_byte byte ≡ true → IsInside bytes → IsInside (escaped_byte byte ++ bytes)
inside_first byte bytes one is = record {
  value = byte ∷ is.value;
  allowed = let all = is.allowed in grind (arith, one, all);
  spelled = ap (λ b. escaped_byte byte ++ b) is.spelled;
}

byte_first : (byte : ℕ) (more : List ℕ) → is_string_byte byte ≡ true → StringFront more → StringFront (escaped_byte byte ++ more)
byte_first byte more one front = record {
  inside = escaped_byte byte ++ front.inside;
  tail = front.tail;
  end = front.end;
  is = inside_first byte front.inside one front.is;
  split = ap (λ b. escaped_byte byte ++ b) front.split ∙ sym (append_assoc (escaped_byte byte) front.inside front.tail);
  ends = front.ends;
}

plain_first : (byte : ℕ) (more : List ℕ) → is_string_byte byte ≡ true → is_escaped byte ≡ false → StringFront more → StringFront (byte ∷ more)
plain_first byte more one plain front = subst (λ b. StringFront (b ++ more)) (ap (λ b. cond b (92 ∷ byte ∷ []) (byte ∷ [])) plain) (byte_first byte more one front)

escape_first : (byte : ℕ) (more : List ℕ) → StringFront more → StringFront (92 ∷ byte ∷ more)
escape_first byte more front = by_test (is_escaped byte)
    (λ marked. subst (λ b. StringFront (b ++ more)) (ap (λ b. cond b (92 ∷ byte ∷ []) (byte ∷ [])) marked) (byte_first byte more (grind (arith, nat_tests, marked)) front))
    (λ plain. at_once (92 ∷ byte ∷ more) ends.BadEscape (record { byte = byte; more = more; is = refl; bad = plain }))

string_first : (byte : ℕ) (more : List ℕ) → StringFront more → StringFront (92 ∷ more) → StringFront (byte ∷ more)
string_first byte more plain marked = by_test (eqb byte 34)
    (λ quote. at_once (byte ∷ more) ends.Quote (record { byte = byte; more = more; is = refl; passes = quote }))
    (λ no_quote. by_test (eqb byte 92)
    (λ mark. subst (λ b. StringFront (b ∷ more)) (sym (same_byte byte 92 mark)) marked)
    (λ no_mark. by_test (is_string_byte byte)
    (λ one. plain_first byte more one (grind (arith, no_quote, no_mark)) plain)
    (λ none. at_once (byte ∷ more) ends.BadByte (record { byte = byte; more = more; is = refl; passes = grind (arith, none) }))))

string_front : (text : List ℕ) → StringFront text
string_front [] = at_once [] ends.Missing (inl refl)
string_front (byte ∷ []) = string_first byte [] (at_once [] ends.Missing (inl refl)) (at_once (92 ∷ []) ends.Missing (inr refl))
string_front (byte ∷ next ∷ more) = string_first byte (next ∷ more) (string_front (next ∷ more)) (escape_first next more (string_front more))

quote_front : (text inside tail : List ℕ) (end : StringEnd) → IsInside inside → text ≡ inside ++ tail → EndsAs end tail → Front (34 ∷ text)
quote_front text inside tail ends.Quote is split behind =
    let quote = same_byte behind.byte 34 behind.passes in
    Stood (Lexeme Quoted (34 ∷ inside ++ 34 ∷ [])) behind.more
    (ap (λ b. 34 ∷ b) (split ∙ ap (λ b. inside ++ b) (behind.is ∙ ap (λ b. b ∷ behind.more) quote) ∙ sym (append_assoc inside (34 ∷ []) behind.more)))
    (inside, is, refl)
quote_front text inside tail ends.Missing is split behind = Faulty faults.OpenString [] (34 ∷ text) refl (refl, record { inside = inside; tail = tail; is = is; cut = behind; spelled = ap (λ b. 34 ∷ b) split })
quote_front text inside tail ends.BadByte is split behind = Faulty faults.BadByte (34 ∷ inside) tail (ap (λ b. 34 ∷ b) split) (inr (record { inside = inside; is = is; spelled = refl }, behind))
quote_front text inside tail ends.BadEscape is split behind = Faulty faults.BadEscape (34 ∷ inside) tail (ap (λ b. 34 ∷ b) split) (record { inside = inside; is = is; spelled = refl }, behind)

-- ---- the other pieces

comment_front : (text : List ℕ) → Front (59 ∷ text)
comment_front text =
    let long = prefix_len is_within_line text in
    Stood (Comment (take long text)) (drop long text) (ap (λ b. 59 ∷ b) (sym (take-append-drop long text))) (all_front is_within_line text, stops_behind is_within_line text)

chunk_kind : (text : List ℕ) (long : ℕ) (kind : Option TokenKind) → IsChunk (take long text) (drop long text) → kind_of_chunk (take long text) ≡ kind → Front text
chunk_kind text long None is e = Faulty faults.BadWord [] text refl (refl, bad_chunk_at text long is e)
chunk_kind text long (Some kind) is e = Stood (Lexeme kind (take long text)) (drop long text) (sym (take-append-drop long text)) (token_at kind text long is e)

chunk_front : (byte : ℕ) (text : List ℕ) → is_chunk_byte byte ≡ true → Front (byte ∷ text)
chunk_front byte text one =
    let long = prefix_len is_chunk_byte (byte ∷ text) in
    chunk_kind (byte ∷ text) long (kind_of_chunk (take long (byte ∷ text))) (chunk_at (byte ∷ text) long (omega arith) one refl) refl

-- where the first byte is none of blanks, semicolons and parentheses
other_front : (byte : ℕ) (text : List ℕ) → is_blank byte ≡ false → eqb byte 59 ≡ false → eqb byte 40 ≡ false → eqb byte 41 ≡ false → Front (byte ∷ text)
other_front byte text blank mark left right = by_test (eqb byte 34)
    (λ quote. let front = string_front text in subst (λ b. Front (b ∷ text)) (sym (same_byte byte 34 quote)) (quote_front text front.inside front.tail front.end front.is front.split front.ends))
    (λ no_quote. by_test (is_chunk_byte byte)
    (chunk_front byte text)
    (λ no_chunk. Faulty faults.BadByte [] (byte ∷ text) refl (inl (refl, record { byte = byte; more = text; is = refl; passes = grind (arith, blank, mark, left, right, no_quote, no_chunk) }))))

first_front : (byte : ℕ) (text : List ℕ) → Front (byte ∷ text)
first_front byte text = by_test (is_blank byte)
    (λ blank. Stood (Blank byte) text refl blank)
    (λ blank. by_test (eqb byte 59)
    (λ mark. subst (λ b. Front (b ∷ text)) (sym (same_byte byte 59 mark)) (comment_front text))
    (λ mark. by_test (eqb byte 40)
    (λ left. Stood (Lexeme Left (byte ∷ [])) text refl (ap (λ b. b ∷ []) (same_byte byte 40 left)))
    (λ left. by_test (eqb byte 41)
    (λ right. Stood (Lexeme Right (byte ∷ [])) text refl (ap (λ b. b ∷ []) (same_byte byte 41 right)))
    (other_front byte text blank mark left))))

pub front_of : (text : List ℕ) → Front text
front_of [] = Ends refl
front_of (byte ∷ text) = first_front byte text
