-- Where a fault of a token is met no piece stands, and one fault alone is met there.
use Rattle.std.proofs.Common.{◌≡◌, ℕ, Bool, true, false, cond, Some, None, List, [], ◌∷◌, ◌++◌, inl, inr, sym, ap, ◌∙◌, refl, subst, arith, append_assoc}
use Rattle.std.specs.List.{list_all}
use Rattle.kif_reader.specs.Bytes.{is_escaped, is_chunk_byte, is_string_byte}
use Rattle.kif_reader.specs.Chunks.{kind_of_chunk}
use Rattle.kif_reader.specs.Cut.{Begins, BeginsBadEscape, IsCutOff, escaped, escaped_byte, Piece, Blank, Comment, Lexeme, bytes_of, Stands, IsChunk, IsFault, BeginsBadChunk, is_outside, is_not_outside, is_not_string_byte}
use Rattle.kif_reader.specs.declared.kinds.TokenKind.TheVariants.{Left, Right, Word, Variable, Row, Numeral, Quoted}
use Rattle.kif_reader.specs.declared.kinds.Fault.{Fault}
use Rattle.kif_reader.specs.declared.kinds.Fault.TheVariants as faults
use Rattle.kif_reader.proofs.UniqueLaws.{CChunk, CQuoted, both, escaped_first, escaped_same, run_unique, chunk_front, piece_front, class, class_of, as_chunk, as_quoted}

-- the first byte of a piece may stand outside of strings and comments
pub record Outside (bytes : List ℕ) : Type 0 where
  pub byte : ℕ
  pub more : List ℕ
  pub split : bytes ≡ byte ∷ more
  pub outside : is_outside byte ≡ true

chunk_outside : (bytes follow : List ℕ) → IsChunk bytes follow → Outside bytes
chunk_outside [] follow is = absurd (omega (arith, is.some))
chunk_outside (x ∷ xs) follow is = let h = (both (is_chunk_byte x) (list_all is_chunk_byte xs) is.all).0 in record { byte = x; more = xs; split = refl; outside = grind (arith, h) }

pub piece_outside : (p : Piece) (follow : List ℕ) → Stands p follow → Outside (bytes_of p)
piece_outside (Blank byte) follow is = record { byte = byte; more = []; split = refl; outside = grind (arith, is) }
piece_outside (Comment body) follow is = record { byte = 59; more = body; split = refl; outside = refl }
piece_outside (Lexeme Left bytes) follow is = record { byte = 40; more = []; split = is; outside = refl }
piece_outside (Lexeme Right bytes) follow is = record { byte = 41; more = []; split = is; outside = refl }
piece_outside (Lexeme Quoted bytes) follow is = record { byte = 34; more = is.0 ++ 34 ∷ []; split = is.2; outside = refl }
piece_outside (Lexeme Word bytes) follow is = chunk_outside bytes follow is.chunk
piece_outside (Lexeme Variable bytes) follow is = chunk_outside bytes follow is.chunk
piece_outside (Lexeme Row bytes) follow is = chunk_outside bytes follow is.chunk
piece_outside (Lexeme Numeral bytes) follow is = chunk_outside bytes follow is.chunk

-- ---- strings that aren't closed

-- neither a quote nor a byte of a string stands first
record Unclosed (tail : List ℕ) : Type 0 where
  no_quote : (a : List ℕ) → tail ≡ 34 ∷ a → ⊥
  no_byte : (v : ℕ) (a : List ℕ) → is_string_byte v ≡ true → tail ≡ escaped_byte v ++ a → ⊥

-- what the code of a fault inside a string says of the bytes there
abbrev Breaks : Fault → List ℕ → Type 0
Breaks faults.BadByte tail = Begins is_not_string_byte tail
Breaks faults.OpenString tail = IsCutOff tail
Breaks faults.BadEscape tail = BeginsBadEscape tail
Breaks faults.BadWord tail = ⊥

first_same : (m n : ℕ) (a b : List ℕ) → m ∷ a ≡ n ∷ b → m ≡ n
first_same m n a b e = cc

rest_same : (m n : ℕ) (a b : List ℕ) → m ∷ a ≡ n ∷ b → a ≡ b
rest_same m n a b e = cc

nothing_first : (n : ℕ) (a : List ℕ) → [] ≡ n ∷ a → ⊥
nothing_first n a e = absurd (cc)

-- a byte that is no byte of a string isn't one of these
bad_byte : (byte : ℕ) → is_not_string_byte byte ≡ true → (other : ℕ) → is_string_byte other ≡ true → byte ≡ other → ⊥
bad_byte byte bad other good e = let no : is_not_string_byte other ≡ true = subst (λ b. is_not_string_byte b ≡ true) e bad in grind (arith, no, good)

bad_byte_unclosed : (tail : List ℕ) → Begins is_not_string_byte tail → Unclosed tail
bad_byte_unclosed tail is = record {
  no_quote = λ a e. bad_byte is.byte is.passes 34 refl (first_same is.byte 34 is.more a (sym is.is ∙ e));
  no_byte = λ v a good. elim (is_escaped v) as (λ t. tail ≡ cond t (92 ∷ v ∷ []) (v ∷ []) ++ a → ⊥) [
    | true ↦ λ e. bad_byte is.byte is.passes 92 refl (first_same is.byte 92 is.more (v ∷ a) (sym is.is ∙ e))
    | false ↦ λ e. bad_byte is.byte is.passes v good (first_same is.byte v is.more a (sym is.is ∙ e))
  ];
}

not_both : (b : Bool) → b ≡ true → b ≡ false → ⊥
not_both b t f = let no : true ≡ false = sym t ∙ f in absurd (cc)

bad_escape_unclosed : (tail : List ℕ) → BeginsBadEscape tail → Unclosed tail
bad_escape_unclosed tail is = record {
  no_quote = λ a e. let h : 92 ≡ 34 = first_same 92 34 (is.byte ∷ is.more) a (sym is.is ∙ e) in absurd (omega (arith, h));
  no_byte = λ v a good. elim (is_escaped v) as (λ t. is_escaped v ≡ t → tail ≡ cond t (92 ∷ v ∷ []) (v ∷ []) ++ a → ⊥) [
    | true ↦ λ t e. let h = first_same is.byte v is.more a (rest_same 92 92 (is.byte ∷ is.more) (v ∷ a) (sym is.is ∙ e)) in not_both (is_escaped v) t (ap is_escaped (sym h) ∙ is.bad)
    | false ↦ λ t e. let h = first_same 92 v (is.byte ∷ is.more) a (sym is.is ∙ e) in not_both (is_escaped v) (ap is_escaped (sym h)) t
  ] refl;
}

cut_off_unclosed : (tail : List ℕ) → IsCutOff tail → Unclosed tail
cut_off_unclosed tail (inl is) = record {
  no_quote = λ a e. nothing_first 34 a (sym is ∙ e);
  no_byte = λ v a good. elim (is_escaped v) as (λ t. tail ≡ cond t (92 ∷ v ∷ []) (v ∷ []) ++ a → ⊥) [
    | true ↦ λ e. nothing_first 92 (v ∷ a) (sym is ∙ e)
    | false ↦ λ e. nothing_first v a (sym is ∙ e)
  ];
}
cut_off_unclosed tail (inr is) = record {
  no_quote = λ a e. let h : 92 ≡ 34 = first_same 92 34 [] a (sym is ∙ e) in absurd (omega (arith, h));
  no_byte = λ v a good. elim (is_escaped v) as (λ t. is_escaped v ≡ t → tail ≡ cond t (92 ∷ v ∷ []) (v ∷ []) ++ a → ⊥) [
    | true ↦ λ t e. nothing_first v a (rest_same 92 92 [] (v ∷ a) (sym is ∙ e))
    | false ↦ λ t e. let h = first_same 92 v [] a (sym is ∙ e) in not_both (is_escaped v) (ap is_escaped (sym h)) t
  ] refl;
}

breaks_unclosed : (fault : Fault) (tail : List ℕ) → Breaks fault tail → Unclosed tail
breaks_unclosed faults.BadByte tail is = bad_byte_unclosed tail is
breaks_unclosed faults.OpenString tail is = cut_off_unclosed tail is
breaks_unclosed faults.BadEscape tail is = bad_escape_unclosed tail is
breaks_unclosed faults.BadWord tail is = absurd is

-- such a string isn't one that a quote ends
never_closed : (xs ys t a : List ℕ) → list_all is_string_byte ys ≡ true → Unclosed t → escaped xs ++ t ≡ escaped ys ++ 34 ∷ a → ⊥
never_closed [] [] t a all is e = is.no_quote a e
never_closed [] (y ∷ ys) t a all is e = is.no_byte y (escaped ys ++ 34 ∷ a) (both (is_string_byte y) (list_all is_string_byte ys) all).0 (e ∙ append_assoc (escaped_byte y) (escaped ys) (34 ∷ a))
never_closed (x ∷ xs) [] t a all is e = escaped_first x (escaped xs ++ t) a (sym (append_assoc (escaped_byte x) (escaped xs) t) ∙ e)
never_closed (x ∷ xs) (y ∷ ys) t a all is e =
    let one = escaped_same x y (escaped xs ++ t) (escaped ys ++ 34 ∷ a) (sym (append_assoc (escaped_byte x) (escaped xs) t) ∙ e ∙ append_assoc (escaped_byte y) (escaped ys) (34 ∷ a)) in
    never_closed xs ys t a (both (is_string_byte y) (list_all is_string_byte ys) all).1 is one.1

-- and it breaks at one place
breaks_unique : (xs ys t u : List ℕ) → list_all is_string_byte xs ≡ true → list_all is_string_byte ys ≡ true → Unclosed t → Unclosed u → escaped xs ++ t ≡ escaped ys ++ u → (xs ≡ ys) × (t ≡ u)
breaks_unique [] [] t u all all' is other e = (refl, e)
breaks_unique [] (y ∷ ys) t u all all' is other e = absurd (is.no_byte y (escaped ys ++ u) (both (is_string_byte y) (list_all is_string_byte ys) all').0 (e ∙ append_assoc (escaped_byte y) (escaped ys) u))
breaks_unique (x ∷ xs) [] t u all all' is other e = absurd (other.no_byte x (escaped xs ++ t) (both (is_string_byte x) (list_all is_string_byte xs) all).0 (sym e ∙ append_assoc (escaped_byte x) (escaped xs) t))
breaks_unique (x ∷ xs) (y ∷ ys) t u all all' is other e =
    let one = escaped_same x y (escaped xs ++ t) (escaped ys ++ u) (sym (append_assoc (escaped_byte x) (escaped xs) t) ∙ e ∙ append_assoc (escaped_byte y) (escaped ys) u) in
    let rest = breaks_unique xs ys t u (both (is_string_byte x) (list_all is_string_byte xs) all).1 (both (is_string_byte y) (list_all is_string_byte ys) all').1 is other one.1 in
    ((λ i. one.0 i ∷ rest.0 i), rest.1)

-- one code tells how it breaks
byte_escape : (t : List ℕ) → Begins is_not_string_byte t → BeginsBadEscape t → ⊥
byte_escape t is other = bad_byte is.byte is.passes 92 refl (first_same is.byte 92 is.more (other.byte ∷ other.more) (sym is.is ∙ other.is))

byte_end : (t : List ℕ) → Begins is_not_string_byte t → IsCutOff t → ⊥
byte_end t is (inl other) = nothing_first is.byte is.more (sym other ∙ is.is)
byte_end t is (inr other) = bad_byte is.byte is.passes 92 refl (first_same is.byte 92 is.more [] (sym is.is ∙ other))

escape_end : (t : List ℕ) → BeginsBadEscape t → IsCutOff t → ⊥
escape_end t is (inl other) = nothing_first 92 (is.byte ∷ is.more) (sym other ∙ is.is)
escape_end t is (inr other) = nothing_first is.byte is.more (rest_same 92 92 [] (is.byte ∷ is.more) (sym other ∙ is.is))

breaks_same : (f g : Fault) (t : List ℕ) → Breaks f t → Breaks g t → f ≡ g
breaks_same faults.BadByte faults.BadByte t is other = refl
breaks_same faults.BadByte faults.OpenString t is other = absurd (byte_end t is other)
breaks_same faults.BadByte faults.BadEscape t is other = absurd (byte_escape t is other)
breaks_same faults.OpenString faults.BadByte t is other = absurd (byte_end t other is)
breaks_same faults.OpenString faults.OpenString t is other = refl
breaks_same faults.OpenString faults.BadEscape t is other = absurd (escape_end t other is)
breaks_same faults.BadEscape faults.BadByte t is other = absurd (byte_escape t other is)
breaks_same faults.BadEscape faults.OpenString t is other = absurd (escape_end t is other)
breaks_same faults.BadEscape faults.BadEscape t is other = refl
breaks_same f faults.BadWord t is other = absurd other
breaks_same faults.BadWord g t is other = absurd is

-- ---- the three causes of a fault

abbrev inner_of : Fault → List ℕ → List ℕ
inner_of faults.BadByte value = 34 ∷ escaped value
inner_of faults.OpenString value = []
inner_of faults.BadEscape value = 34 ∷ escaped value
inner_of faults.BadWord value = []

record AtByte (fault : Fault) (inner whole : List ℕ) : Type 0 where
  fault_is : fault ≡ faults.BadByte
  inner_is : inner ≡ []
  bad : Begins is_not_outside whole

record AtChunk (fault : Fault) (inner whole : List ℕ) : Type 0 where
  fault_is : fault ≡ faults.BadWord
  inner_is : inner ≡ []
  bad : BeginsBadChunk whole

record InString (fault : Fault) (inner whole : List ℕ) : Type 0 where
  value : List ℕ
  tail : List ℕ
  allowed : list_all is_string_byte value ≡ true
  split : whole ≡ 34 ∷ (escaped value ++ tail)
  breaks : Breaks fault tail
  inner_is : inner ≡ inner_of fault value

data Cause (fault : Fault) (inner whole : List ℕ) : Type 0 where
  Byte : AtByte fault inner whole → Cause fault inner whole
  Chunk : AtChunk fault inner whole → Cause fault inner whole
  Str : InString fault inner whole → Cause fault inner whole

cause : (fault : Fault) (inner tail : List ℕ) → IsFault fault inner tail → Cause fault inner (inner ++ tail)
cause faults.BadByte inner tail (inl is) = Byte (record { fault_is = refl; inner_is = is.0; bad = subst (λ l. Begins is_not_outside (l ++ tail)) (sym is.0) is.1 })
cause faults.BadByte inner tail (inr is) = Str (record { value = is.0.is.value; tail = tail; allowed = is.0.is.allowed; split = ap (λ l. l ++ tail) (is.0.spelled ∙ ap (λ l. 34 ∷ l) is.0.is.spelled); breaks = is.1; inner_is = is.0.spelled ∙ ap (λ l. 34 ∷ l) is.0.is.spelled })
cause faults.OpenString inner tail is = Str (record { value = is.1.is.value; tail = is.1.tail; allowed = is.1.is.allowed; split = ap (λ l. l ++ tail) is.0 ∙ is.1.spelled ∙ ap (λ l. 34 ∷ (l ++ is.1.tail)) is.1.is.spelled; breaks = is.1.cut; inner_is = is.0 })
cause faults.BadEscape inner tail is = Str (record { value = is.0.is.value; tail = tail; allowed = is.0.is.allowed; split = ap (λ l. l ++ tail) (is.0.spelled ∙ ap (λ l. 34 ∷ l) is.0.is.spelled); breaks = is.1; inner_is = is.0.spelled ∙ ap (λ l. 34 ∷ l) is.0.is.spelled })
cause faults.BadWord inner tail is = Chunk (record { fault_is = refl; inner_is = is.0; bad = subst (λ l. BeginsBadChunk (l ++ tail)) (sym is.0) is.1 })

-- ---- no piece stands there

outside_both : (b c : ℕ) → is_not_outside b ≡ true → is_outside c ≡ true → b ≡ c → ⊥
outside_both b c bad good e = let no : is_not_outside c ≡ true = subst (λ b. is_not_outside b ≡ true) e bad in grind (arith, no, good)

no_piece_byte : (p : Piece) (a whole : List ℕ) → Stands p a → Begins is_not_outside whole → whole ≡ bytes_of p ++ a → ⊥
no_piece_byte p a whole is bad e =
    let o = piece_outside p a is in
    outside_both bad.byte o.byte bad.passes o.outside (first_same bad.byte o.byte bad.more (o.more ++ a) (sym bad.is ∙ e ∙ ap (λ l. l ++ a) o.split))

-- the class of a piece is told by the first byte
class_at : (p : Piece) (a : List ℕ) (byte : ℕ) (more : List ℕ) → Stands p a → byte ∷ more ≡ bytes_of p ++ a → class_of p ≡ class byte
class_at p a byte more is e =
    let f = piece_front p a is in
    sym f.class_is ∙ ap class (sym (first_same byte f.byte more (f.more ++ a) (e ∙ ap (λ l. l ++ a) f.split)))

no_piece_string : (p : Piece) (a value tail : List ℕ) → Stands p a → class_of p ≡ CQuoted → list_all is_string_byte value ≡ true → Unclosed tail → 34 ∷ (escaped value ++ tail) ≡ bytes_of p ++ a → ⊥
no_piece_string (Blank byte) a value tail is same all open_string e = absurd (cc)
no_piece_string (Comment body) a value tail is same all open_string e = absurd (cc)
no_piece_string (Lexeme kind bytes) a value tail is same all open_string e =
    let string = (as_quoted kind bytes a same is).1 in
    let spelled : bytes ++ a ≡ 34 ∷ (escaped string.1.value ++ 34 ∷ a) = ap (λ l. l ++ a) (string.2 ∙ ap (λ l. 34 ∷ l ++ 34 ∷ []) string.1.spelled) ∙ ap (λ l. 34 ∷ l) (append_assoc (escaped string.1.value) (34 ∷ []) a) in
    never_closed value string.1.value tail a string.1.allowed open_string (rest_same 34 34 (escaped value ++ tail) (escaped string.1.value ++ 34 ∷ a) (e ∙ spelled))

no_piece_chunk : (p : Piece) (a chunk follow : List ℕ) → Stands p a → class_of p ≡ CChunk → IsChunk chunk follow → kind_of_chunk chunk ≡ None → chunk ++ follow ≡ bytes_of p ++ a → ⊥
no_piece_chunk (Blank byte) a chunk follow is same run none e = absurd (cc)
no_piece_chunk (Comment body) a chunk follow is same run none e = absurd (cc)
no_piece_chunk (Lexeme kind bytes) a chunk follow is same run none e =
    let other = as_chunk kind bytes a same is in
    let r = run_unique is_chunk_byte chunk bytes follow a run.all run.longest other.chunk.all other.chunk.longest e in
    let no : None ≡ Some kind = sym none ∙ ap kind_of_chunk r.0 ∙ other.kind in
    absurd (cc)

no_piece_cause : (fault : Fault) (inner whole : List ℕ) (p : Piece) (a : List ℕ) → Cause fault inner whole → Stands p a → whole ≡ bytes_of p ++ a → ⊥
no_piece_cause fault inner whole p a (Byte at) is e = no_piece_byte p a whole is at.bad e
no_piece_cause fault inner whole p a (Str at) is e = no_piece_string p a at.value at.tail is (class_at p a 34 (escaped at.value ++ at.tail) is (sym at.split ∙ e)) at.allowed (breaks_unclosed fault at.tail at.breaks) (sym at.split ∙ e)
no_piece_cause fault inner whole p a (Chunk at) is e =
    let f = chunk_front at.bad.chunk at.bad.follow at.bad.is in
    let front : f.byte ∷ (f.more ++ at.bad.follow) ≡ bytes_of p ++ a = ap (λ l. l ++ at.bad.follow) (sym f.split) ∙ sym at.bad.spelled ∙ e in
    no_piece_chunk p a at.bad.chunk at.bad.follow is (class_at p a f.byte (f.more ++ at.bad.follow) is front ∙ f.class_is) at.bad.is at.bad.none (sym at.bad.spelled ∙ e)

-- where a fault is met no piece stands
pub no_piece : (fault : Fault) (inner tail : List ℕ) (p : Piece) (a : List ℕ) → IsFault fault inner tail → Stands p a → inner ++ tail ≡ bytes_of p ++ a → ⊥
no_piece fault inner tail p a is stands e = no_piece_cause fault inner (inner ++ tail) p a (cause fault inner tail is) stands e

-- nor the end of the text
no_end_cause : (fault : Fault) (inner whole : List ℕ) → Cause fault inner whole → whole ≡ [] → ⊥
no_end_cause fault inner whole (Byte at) e = nothing_first at.bad.byte at.bad.more (sym e ∙ at.bad.is)
no_end_cause fault inner whole (Str at) e = nothing_first 34 (escaped at.value ++ at.tail) (sym e ∙ at.split)
no_end_cause fault inner whole (Chunk at) e =
    let f = chunk_front at.bad.chunk at.bad.follow at.bad.is in
    nothing_first f.byte (f.more ++ at.bad.follow) (sym e ∙ at.bad.spelled ∙ ap (λ l. l ++ at.bad.follow) f.split)

pub no_end : (fault : Fault) (inner tail : List ℕ) → IsFault fault inner tail → inner ++ tail ≡ [] → ⊥
no_end fault inner tail is e = no_end_cause fault inner (inner ++ tail) (cause fault inner tail is) e

-- ---- one fault is met at a place

pub record SameFault (f g : Fault) (x y : List ℕ) : Type 0 where
  pub fault : f ≡ g
  pub inner : x ≡ y

byte_string : (b : ℕ) (more l whole : List ℕ) → whole ≡ b ∷ more → is_not_outside b ≡ true → whole ≡ 34 ∷ l → ⊥
byte_string b more l whole is bad e = outside_both b 34 bad refl (first_same b 34 more l (sym is ∙ e))

byte_chunk : (whole : List ℕ) → Begins is_not_outside whole → BeginsBadChunk whole → ⊥
byte_chunk whole is other =
    let o = chunk_outside other.chunk other.follow other.is in
    outside_both is.byte o.byte is.passes o.outside (first_same is.byte o.byte is.more (o.more ++ other.follow) (sym is.is ∙ other.spelled ∙ ap (λ l. l ++ other.follow) o.split))

chunk_string : (l whole : List ℕ) → BeginsBadChunk whole → whole ≡ 34 ∷ l → ⊥
chunk_string l whole is e =
    let f = chunk_front is.chunk is.follow is.is in
    let h = first_same f.byte 34 (f.more ++ is.follow) l (ap (λ l. l ++ is.follow) (sym f.split) ∙ sym is.spelled ∙ e) in
    let no : CChunk ≡ CQuoted = sym f.class_is ∙ ap class h in
    absurd (cc)

causes_same : (f g : Fault) (x y whole : List ℕ) → Cause f x whole → Cause g y whole → SameFault f g x y
causes_same f g x y whole (Byte is) (Byte other) = record { fault = is.fault_is ∙ sym other.fault_is; inner = is.inner_is ∙ sym other.inner_is }
causes_same f g x y whole (Byte is) (Chunk other) = absurd (byte_chunk whole is.bad other.bad)
causes_same f g x y whole (Byte is) (Str other) = absurd (byte_string is.bad.byte is.bad.more (escaped other.value ++ other.tail) whole is.bad.is is.bad.passes other.split)
causes_same f g x y whole (Chunk is) (Byte other) = absurd (byte_chunk whole other.bad is.bad)
causes_same f g x y whole (Chunk is) (Chunk other) = record { fault = is.fault_is ∙ sym other.fault_is; inner = is.inner_is ∙ sym other.inner_is }
causes_same f g x y whole (Chunk is) (Str other) = absurd (chunk_string (escaped other.value ++ other.tail) whole is.bad other.split)
causes_same f g x y whole (Str is) (Byte other) = absurd (byte_string other.bad.byte other.bad.more (escaped is.value ++ is.tail) whole other.bad.is other.bad.passes is.split)
causes_same f g x y whole (Str is) (Chunk other) = absurd (chunk_string (escaped is.value ++ is.tail) whole other.bad is.split)
causes_same f g x y whole (Str is) (Str other) =
    let whole_same = rest_same 34 34 (escaped is.value ++ is.tail) (escaped other.value ++ other.tail) (sym is.split ∙ other.split) in
    let one = breaks_unique is.value other.value is.tail other.tail is.allowed other.allowed (breaks_unclosed f is.tail is.breaks) (breaks_unclosed g other.tail other.breaks) whole_same in
    let fault = breaks_same f g other.tail (subst (Breaks f) one.1 is.breaks) other.breaks in
    record { fault = fault; inner = is.inner_is ∙ (λ i. inner_of (fault i) (one.0 i)) ∙ sym other.inner_is }

pub fault_same : (f g : Fault) (x y t u : List ℕ) → IsFault f x t → IsFault g y u → x ++ t ≡ y ++ u → SameFault f g x y
fault_same f g x y t u is other e = causes_same f g x y (y ++ u) (subst (Cause f x) e (cause f x t is)) (cause g y u other)
