-- Each text spells forms or has a first fault.
use Rattle.std.proofs.Common.{◌≡◌, ℕ, suc, zero, ◌+◌, ◌<◌, ◌≤◌, true, false, ltb, Option, Some, None, List, [], ◌∷◌, ◌++◌, ◌⊎◌, inl, inr, length, take, drop, sym, ap, ◌∙◌, refl, subst, arith, append-nil, length-append}
use Rattle.std.specs.List.{slice_get}
use Rattle.std.proofs.lemmas.Bool.Decides.{nat_tests}
use Rattle.kif_tree.specs.declared.form.Form.{Form}
use Rattle.kif_tree.specs.declared.form.Form.TheVariants as form
use Rattle.kif_tree.specs.declared.place.Located.{Located}
use Rattle.kif_tree.specs.Shape.{first_forms_fault}
use Rattle.kif_reader.specs.Bytes.{IsPlace, line_after, column_after}
use Rattle.kif_reader.specs.Cut.{Piece, Blank, Comment, Lexeme, bytes_of, Stands, is_idle, IsToken, IsFault}
use Rattle.kif_reader.specs.Laws.{HasReading}
use Rattle.kif_reader.specs.Reading.{Progress, mark_len}
use Rattle.kif_reader.specs.Spelling.{Lexed, Reads, spelling, forms_of, SpellsAll, LexFault, NestFault, ShapeFault}
use Rattle.kif_reader.specs.Steps.{Adds, Follows, FollowsLeaf}
use Rattle.kif_reader.specs.declared.bytes.Spot.{Spot}
use Rattle.kif_reader.specs.declared.kinds.Fault.{Fault}
use Rattle.kif_reader.specs.declared.kinds.Fault.TheVariants as faults
use Rattle.kif_reader.specs.declared.kinds.Open.{Open}
use Rattle.kif_reader.specs.declared.kinds.ReadError.TheVariants as errors
use Rattle.kif_reader.specs.declared.kinds.TokenKind.{TokenKind}
use Rattle.kif_reader.specs.declared.kinds.TokenKind.TheVariants.{Left, Right, Word, Variable, Row, Numeral, Quoted}
use Rattle.kif_reader.proofs.CountLaws.{fault_within}
use Rattle.kif_reader.proofs.CutLaws.{some_piece}
use Rattle.kif_reader.proofs.FrontLaws.{Front, Ends, Stood, Faulty, by_test, front_of}
use Rattle.kif_reader.proofs.HeldLaws.{Held}
use Rattle.kif_reader.proofs.PieceLaws.{idle_none}
use Rattle.kif_reader.proofs.ReadLaws.{reads_idle, reads_token}
use Rattle.kif_reader.proofs.SpellingLaws.{spelling_word, spelling_variable, spelling_row, spelling_numeral, spelling_quoted, variable_text, row_text}
use Rattle.kif_reader.proofs.StepLaws.{held_start, held_spells, held_open, some_token, steps}

-- between two pieces
abbrev at : List ℕ → List ℕ → Progress
at before rest = record { before = before; rest = rest; over = false }

abbrev spot_behind : List ℕ → Spot
spot_behind before = record { line = line_after before; column = column_after before }

place_behind : (before : List ℕ) → IsPlace (line_after before) (column_after before) before
place_behind before = record { line = refl; column = refl }

-- ---- the ends of a text

token_below : (tokens : List Lexed) (number : ℕ) → number < length tokens → (token : Lexed) × (slice_get tokens number ≡ Some token)
token_below [] number below = absurd (omega (arith, below))
token_below (t ∷ ts) zero below = (t, refl)
token_below (t ∷ ts) (suc number) below = token_below ts number (omega (arith, below))

shape_end : (constituent : ℕ) (text : List ℕ) (forms : List Located) (tokens : List Lexed) (told : Option ℕ) → SpellsAll constituent text forms tokens → first_forms_fault (forms_of forms) ≡ told → HasReading constituent text
shape_end constituent text forms tokens None spelled told = inl (forms, record { tokens = tokens; spelled = spelled; shaped = told })
shape_end constituent text forms tokens (Some number) spelled told =
    let found = token_below tokens number (fault_within constituent text forms tokens number spelled (sym told)) in
    let fault : ShapeFault constituent (line_after found.0.before) (column_after found.0.before) text = record {
      forms = forms;
      tokens = tokens;
      spelled = spelled;
      number = number;
      first = told;
      token = found.0;
      stands = found.1;
      place = place_behind found.0.before;
    } in
    inr (errors.LogicShape (spot_behind found.0.before), λ e. absurd (cc), fault)

whole_end : (constituent : ℕ) (text before : List ℕ) (forms : List Located) (lists : List Open) → Held constituent text (at before []) forms lists → HasReading constituent text
whole_end constituent text before forms [] held =
    let whole = held_spells constituent text (at before []) (at before []) forms held (record { going = refl; idle = idle_none []; left = refl; taken = sym (append-nil before); goes_on = refl }) in
    shape_end constituent text forms whole.0 (first_forms_fault (forms_of forms)) whole.1 refl
whole_end constituent text before forms (list ∷ lists) held =
    let fault = held_open constituent text (at before []) (at before []) forms list lists held (record { going = refl; idle = idle_none []; left = refl; taken = sym (append-nil before); goes_on = refl }) in
    inr (errors.OpenList (record { line = list.line; column = list.column }), λ e. absurd (cc), fault)

-- ---- faults

lex_fault : (constituent : ℕ) (text : List ℕ) (fault : Fault) (spot : Spot) → LexFault fault spot.line spot.column text → HasReading constituent text
lex_fault constituent text faults.BadByte spot is = inr (errors.BadByte spot, λ e. absurd (cc), is)
lex_fault constituent text faults.OpenString spot is = inr (errors.OpenString spot, λ e. absurd (cc), is)
lex_fault constituent text faults.BadEscape spot is = inr (errors.BadEscape spot, λ e. absurd (cc), is)
lex_fault constituent text faults.BadWord spot is = inr (errors.BadWord spot, λ e. absurd (cc), is)

fault_met : (constituent : ℕ) (text before inner tail : List ℕ) (fault : Fault) (forms : List Located) (lists : List Open) → Held constituent text (at before (inner ++ tail)) forms lists → IsFault fault inner tail → HasReading constituent text
fault_met constituent text before inner tail fault forms lists held met = lex_fault constituent text fault (spot_behind (before ++ inner)) (record {
  tokens = held.closed ++ held.opened;
  before = before;
  inner = inner;
  rest = tail;
  depth = length lists;
  reads = held.reads;
  nests = held.nests;
  met = met;
  place = place_behind (before ++ inner);
})

nest_fault : (constituent depth byte : ℕ) (text before bytes follow : List ℕ) (forms : List Located) (lists : List Open) → Held constituent text (at before (bytes ++ follow)) forms lists → bytes ≡ byte ∷ [] → length lists ≡ depth → NestFault depth byte (line_after before) (column_after before) text
nest_fault constituent depth byte text before bytes follow forms lists held is deep = record {
  tokens = held.closed ++ held.opened;
  before = before;
  rest = follow;
  reads = subst (λ b. Reads text (held.closed ++ held.opened) before (b ++ follow)) is held.reads;
  nests = held.nests ∙ ap (λ k. Some k) deep;
  place = place_behind before;
}

-- ---- one piece more

record Went (constituent : ℕ) (text follow : List ℕ) : Type 0 where
  before : List ℕ
  forms : List Located
  lists : List Open
  held : Held constituent text (at before follow) forms lists

held_idle : (constituent : ℕ) (text before follow : List ℕ) (piece : Piece) (forms : List Located) (lists : List Open) → Held constituent text (at before (bytes_of piece ++ follow)) forms lists → Stands piece follow → is_idle piece ≡ true → Went constituent text follow
held_idle constituent text before follow piece forms lists held stands idle = record {
  before = before ++ bytes_of piece;
  forms = forms;
  lists = lists;
  held = record {
    going = refl;
    closed = held.closed;
    opened = held.opened;
    reads = reads_idle text (held.closed ++ held.opened) before (bytes_of piece) follow held.reads (record { pieces = piece ∷ []; idle = grind (arith, idle); spelled = sym (append-nil (bytes_of piece)); stand = (stands, tt) });
    nests = held.nests;
    whole = held.whole;
    open_lists = held.open_lists;
    few = held.few;
    count = omega (arith, held.count, length-append (bytes_of piece) follow);
  };
}

held_token : (constituent : ℕ) (text before follow : List ℕ) (kind : TokenKind) (bytes : List ℕ) (forms new_forms : List Located) (lists new_lists : List Open) → Held constituent text (at before (bytes ++ follow)) forms lists → IsToken kind bytes follow → Follows constituent kind bytes (line_after before) (column_after before) forms new_forms lists new_lists → Went constituent text follow
held_token constituent text before follow kind bytes forms new_forms lists new_lists held is follows =
    let step = steps constituent text (before ++ bytes) follow forms new_forms lists new_lists held.closed held.opened (line_after before) (column_after before) kind bytes before
    (reads_token text (held.closed ++ held.opened) before follow kind bytes held.reads is) held.nests held.whole held.open_lists held.few (place_behind before) is follows in
    record {
      before = before ++ bytes;
      forms = new_forms;
      lists = new_lists;
      held = record {
        going = refl;
        closed = step.closed;
        opened = step.opened;
        reads = step.reads;
        nests = step.nests;
        whole = step.whole;
        open_lists = step.open_lists;
        few = step.few;
        count = omega (arith, step.more, held.count, length-append bytes follow, some_token kind bytes follow is);
      };
    }

-- the innermost list that is open
record Innermost (lists : List Open) : Type 0 where
  front : List Open
  last : Open
  is : lists ≡ front ++ last ∷ []

innermost : (list : Open) (lists : List Open) → Innermost (list ∷ lists)
innermost list [] = record { front = []; last = list; is = refl }
innermost list (next ∷ lists) = let more = innermost next lists in record { front = list ∷ more.front; last = more.last; is = ap (λ l. list ∷ l) more.is }

record Added (constituent : ℕ) (part : Form) (at_line at_column : ℕ) (forms : List Located) (lists : List Open) : Type 0 where
  new_forms : List Located
  new_lists : List Open
  adds : Adds constituent part at_line at_column forms new_forms lists new_lists

added : (constituent : ℕ) (part : Form) (at_line at_column : ℕ) (forms : List Located) (lists : List Open) → Added constituent part at_line at_column forms lists
added constituent part at_line at_column forms [] = record {
  new_forms = forms ++ record { form = part; place = record { constituent = constituent; form = length forms + 1; line = at_line; column = at_column } } ∷ [];
  new_lists = [];
  adds = inl (record { none = refl; same = refl; new_is = refl });
}
added constituent part at_line at_column forms (list ∷ lists) =
    let inner = innermost list lists in
    record {
      new_forms = forms;
      new_lists = inner.front ++ record inner.last { parts = inner.last.parts ++ part ∷ [] } ∷ [];
      adds = inr (record { front = inner.front; last = inner.last; old_is = inner.is; new_is = refl; same = refl });
    }

left_token : (constituent : ℕ) (text before follow bytes : List ℕ) (forms : List Located) (lists : List Open) → Held constituent text (at before (bytes ++ follow)) forms lists → bytes ≡ 40 ∷ [] → HasReading constituent text ⊎ Went constituent text follow
left_token constituent text before follow bytes forms lists held is = by_test (ltb (length lists) 200)
    (λ below. inr (held_token constituent text before follow Left bytes forms forms lists (lists ++ record { line = line_after before; column = column_after before; parts = [] } ∷ []) held is (record { room = grind (arith, nat_tests, below); new_is = refl; same = refl })))
    (λ full.
    let past : 200 ≤ length lists = grind (arith, nat_tests, full) in
    inl (inr (errors.TooDeep (spot_behind before), λ e. absurd (cc), nest_fault constituent 200 40 text before bytes follow forms lists held is (omega (arith, past, held.few)))))

right_token : (constituent : ℕ) (text before follow bytes : List ℕ) (forms : List Located) (lists : List Open) → Held constituent text (at before (bytes ++ follow)) forms lists → bytes ≡ 41 ∷ [] → HasReading constituent text ⊎ Went constituent text follow
right_token constituent text before follow bytes forms [] held is = inl (inr (errors.StrayClose (spot_behind before), λ e. absurd (cc), nest_fault constituent 0 41 text before bytes follow forms [] held is refl))
right_token constituent text before follow bytes forms (list ∷ lists) held is =
    let inner = innermost list lists in
    let new = added constituent (form.List inner.last.parts) inner.last.line inner.last.column forms inner.front in
    inr (held_token constituent text before follow Right bytes forms new.new_forms (list ∷ lists) new.new_lists held is (record { front = inner.front; last = inner.last; old_is = inner.is; adds = new.adds }))

-- a token spells a leaf
leaf_token : (constituent : ℕ) (text before follow : List ℕ) (kind : TokenKind) (bytes : List ℕ) (part : Form) (forms : List Located) (lists : List Open) → ((new_forms : List Located) (new_lists : List Open) → FollowsLeaf constituent kind bytes (line_after before) (column_after before) forms new_forms lists new_lists → Follows constituent kind bytes (line_after before) (column_after before) forms new_forms lists new_lists) → Held constituent text (at before (bytes ++ follow)) forms lists → IsToken kind bytes follow → spelling part ≡ (kind, bytes) ∷ [] → Went constituent text follow
leaf_token constituent text before follow kind bytes part forms lists leaf held is spelled =
    let new = added constituent part (line_after before) (column_after before) forms lists in
    held_token constituent text before follow kind bytes forms new.new_forms lists new.new_lists held is (leaf new.new_forms new.new_lists (record { part = part; spelled = spelled; adds = new.adds }))

one_piece : (constituent : ℕ) (text before follow : List ℕ) (piece : Piece) (forms : List Located) (lists : List Open) → Held constituent text (at before (bytes_of piece ++ follow)) forms lists → Stands piece follow → HasReading constituent text ⊎ Went constituent text follow
one_piece constituent text before follow (Blank byte) forms lists held is = inr (held_idle constituent text before follow (Blank byte) forms lists held is refl)
one_piece constituent text before follow (Comment body) forms lists held is = inr (held_idle constituent text before follow (Comment body) forms lists held is refl)
one_piece constituent text before follow (Lexeme Left bytes) forms lists held is = left_token constituent text before follow bytes forms lists held is
one_piece constituent text before follow (Lexeme Right bytes) forms lists held is = right_token constituent text before follow bytes forms lists held is
one_piece constituent text before follow (Lexeme Word bytes) forms lists held is = inr (leaf_token constituent text before follow Word bytes (form.Word bytes) forms lists (λ _ _ f. f) held is (spelling_word bytes))
one_piece constituent text before follow (Lexeme Variable bytes) forms lists held is =
    inr (leaf_token constituent text before follow Variable bytes (form.Variable (drop 1 bytes)) forms lists (λ _ _ f. f) held is (spelling_variable (drop 1 bytes) ∙ ap (λ b. (Variable, b) ∷ []) (sym (variable_text bytes follow is))))
one_piece constituent text before follow (Lexeme Row bytes) forms lists held is =
    inr (leaf_token constituent text before follow Row bytes (form.Row (drop 1 bytes)) forms lists (λ _ _ f. f) held is (spelling_row (drop 1 bytes) ∙ ap (λ b. (Row, b) ∷ []) (sym (row_text bytes follow is))))
one_piece constituent text before follow (Lexeme Numeral bytes) forms lists held is = inr (leaf_token constituent text before follow Numeral bytes (form.Numeral bytes) forms lists (λ _ _ f. f) held is (spelling_numeral bytes))
one_piece constituent text before follow (Lexeme Quoted bytes) forms lists held is =
    inr (leaf_token constituent text before follow Quoted bytes (form.Quoted is.1.value) forms lists (λ _ _ f. f) held is (spelling_quoted is.1.value ∙ ap (λ b. (Quoted, b) ∷ []) (sym (is.2 ∙ ap (λ b. 34 ∷ b ++ 34 ∷ []) is.1.spelled))))

-- ---- a whole text

-- it is read, or fewer bytes are left
one_more : (constituent : ℕ) (text before rest : List ℕ) (forms : List Located) (lists : List Open) → Held constituent text (at before rest) forms lists → Front rest → HasReading constituent text ⊎ ((follow : List ℕ) × (length follow < length rest) × Went constituent text follow)
one_more constituent text before rest forms lists held (Ends e) = inl (whole_end constituent text before forms lists (subst (λ r. Held constituent text (at before r) forms lists) e held))
one_more constituent text before rest forms lists held (Faulty fault inner tail e met) = inl (fault_met constituent text before inner tail fault forms lists (subst (λ r. Held constituent text (at before r) forms lists) e held) met)
one_more constituent text before rest forms lists held (Stood piece follow e stands) =
    elim (one_piece constituent text before follow piece forms lists (subst (λ r. Held constituent text (at before r) forms lists) e held) stands) as (λ _. HasReading constituent text ⊎ ((follow : List ℕ) × (length follow < length rest) × Went constituent text follow)) [
      | inl read ↦ inl read
      | inr went ↦ inr (follow, omega (arith, some_piece piece follow stands, ap length e, length-append (bytes_of piece) follow), went)
    ]

read_on : (constituent : ℕ) (text : List ℕ) (most : ℕ) (before rest : List ℕ) (forms : List Located) (lists : List Open) → length rest ≤ most → Held constituent text (at before rest) forms lists → HasReading constituent text
read_on constituent text zero before rest forms lists few held =
    elim (one_more constituent text before rest forms lists held (front_of rest)) as (λ _. HasReading constituent text) [
      | inl read ↦ read
      | inr more ↦ absurd (omega (arith, few, more.1))
    ]
read_on constituent text (suc most) before rest forms lists few held =
    elim (one_more constituent text before rest forms lists held (front_of rest)) as (λ _. HasReading constituent text) [
      | inl read ↦ read
      | inr more ↦ read_on constituent text most more.2.before more.0 more.2.forms more.2.lists (omega (arith, few, more.1)) more.2.held
    ]

pub some_reading : (constituent : ℕ) (text : List ℕ) → HasReading constituent text
some_reading constituent text =
    let mark = take (mark_len text) text in
    let rest = drop (mark_len text) text in
    read_on constituent text (length rest) mark rest [] [] (omega arith) (held_start constituent text (at mark rest) (record { before = refl; rest = refl; goes_on = refl }))
