-- One token more.
use Rattle.std.proofs.Common.{◌≡◌, ℕ, ◌+◌, ◌-◌, ◌<◌, ◌≤◌, true, false, cond, eqb, Some, None, List, [], ◌∷◌, ◌++◌, inl, inr, length, take, drop, sym, ap, ◌∙◌, refl, subst, arith, append_assoc, append-nil, length-append, length-drop}
use Rattle.std.proofs.lemmas.List.{map-append}
use Rattle.std.proofs.lemmas.Bool.{lt-ltb}
use Rattle.std.proofs.lemmas.Bool.Decides.{nat_tests}
use Rattle.kif_tree.specs.declared.form.Form.TheVariants as form
use Rattle.kif_tree.specs.declared.place.Located.{Located}
use Rattle.kif_reader.specs.Bytes.{IsPlace}
use Rattle.kif_reader.specs.Chunks.{◌>>=◌}
use Rattle.kif_reader.specs.Cut.{IsToken}
use Rattle.kif_reader.specs.Reading.{Progress, Starts, Took, Met, Finished, Ended, mark_len, fault_of, spot_of, unread_of}
use Rattle.kif_reader.specs.Spelling.{Lexed, bare, level, level_behind, Reads, SpellsForms, SpellsAll, LexFault, NestFault, LeavesOpen, FirstFault}
use Rattle.kif_reader.specs.Steps.{SpellsOpens, Follows, FollowsLeft, FollowsRight, FollowsLeaf, Refuses, RefusesAt}
use Rattle.kif_reader.specs.declared.kinds.Open.{Open}
use Rattle.kif_reader.specs.declared.kinds.Token.{Token}
use Rattle.std.specs.List.{slice_get}
use Rattle.kif_reader.specs.declared.bytes.Spot.{Spot}
use Rattle.kif_reader.specs.declared.kinds.ReadError.{ReadError}
use Rattle.kif_reader.specs.declared.kinds.ReadError.TheVariants as unread
use Rattle.kif_reader.specs.declared.kinds.LexError.{LexError}
use Rattle.kif_reader.specs.declared.kinds.LexError.TheVariants as errors
use Rattle.kif_reader.specs.declared.kinds.TokenKind.{TokenKind}
use Rattle.kif_reader.specs.declared.kinds.TokenKind.TheVariants.{Left, Right, Word, Variable, Row, Numeral, Quoted}
use Rattle.kif_reader.proofs.ReadLaws.{reads_idle, reads_token, level_more}
use Rattle.kif_reader.proofs.SpellingLaws.{spelling_list}
use Rattle.kif_reader.proofs.LevelLaws.{unclosed}
use Rattle.kif_reader.proofs.HeldLaws.{Held, Part, opens_last, opens_push, begins_more, rebuild}

pub held_start : (constituent : ℕ) (text : List ℕ) (p : Progress) → Starts text p → Held constituent text p [] []
held_start constituent text p starts = record {
  going = starts.goes_on;
  closed = [];
  opened = [];
  reads = record { pieces = []; cuts = record { whole = sym starts.rest; stand = tt }; taken = starts.before ∙ sym (append-nil (take (mark_len text) text)); is = refl };
  nests = refl;
  whole = refl;
  open_lists = refl;
  few = omega arith;
  count = omega (arith, ap length starts.rest, length-drop (mark_len text) text);
}

lexed : Token → List ℕ → Lexed
lexed token before = record { kind = token.kind; bytes = token.text.now; before = before }

pub reads_took : (text : List ℕ) (tokens : List Lexed) (token : Token) (old new : Progress) (took : Took token old new) → Reads text tokens old.before old.rest → Reads text (tokens ++ record { kind = token.kind; bytes = token.text.now; before = old.before ++ took.skipped } ∷ []) new.before new.rest
reads_took text tokens token old new took r =
    let idle = reads_idle text tokens old.before took.skipped (token.text.now ++ new.rest) (subst (Reads text tokens old.before) took.left r) took.idle in
    let more = reads_token text tokens (old.before ++ took.skipped) new.rest token.kind token.text.now idle took.is in
    subst (λ b. Reads text (tokens ++ record { kind = token.kind; bytes = token.text.now; before = old.before ++ took.skipped } ∷ []) b new.rest) (append_assoc old.before took.skipped token.text.now ∙ sym took.taken) more

-- what is kept behind one token more
pub record Stepped (constituent : ℕ) (text before rest : List ℕ) (forms : List Located) (lists : List Open) (count : ℕ) : Type 0 where
  pub closed : List Lexed
  pub opened : List Lexed
  pub reads : Reads text (closed ++ opened) before rest
  pub nests : level 0 (closed ++ opened) ≡ Some (length lists)
  pub whole : SpellsForms constituent 1 forms closed
  pub open_lists : SpellsOpens lists opened
  pub few : length lists ≤ 200
  pub more : length forms ≤ count + 1

module _ (constituent : ℕ) (text before rest : List ℕ) (forms new_forms : List Located) (lists new_lists : List Open) (closed opened : List Lexed) (at_line at_column : ℕ) (x : Lexed)
    (reads : Reads text ((closed ++ opened) ++ x ∷ []) before rest) (nests : level 0 (closed ++ opened) ≡ Some (length lists)) (whole : SpellsForms constituent 1 forms closed) (open_lists : SpellsOpens lists opened)
    (few : length lists ≤ 200) (place : IsPlace at_line at_column x.before) where
  leaf_step : level_behind x.kind (length lists) ≡ Some (length lists) → FollowsLeaf constituent x.kind x.bytes at_line at_column forms new_forms lists new_lists → Stepped constituent text before rest new_forms new_lists (length forms)
  leaf_step keeps f =
      let built = rebuild constituent f.part at_line at_column forms new_forms lists new_lists closed opened (x ∷ []) whole open_lists (record { spelled = sym f.spelled; place = place }) f.adds in
      record {
        closed = built.closed;
        opened = built.opened;
        reads = subst (λ t. Reads text t before rest) (sym built.same) reads;
        nests = ap (level 0) built.same ∙ level_more 0 (length lists) (closed ++ opened) x nests ∙ ap (λ o. o >>= (λ k. Some k)) keeps ∙ ap (λ k. Some k) (sym built.deep);
        whole = built.whole;
        open_lists = built.open_lists;
        few = omega (arith, built.deep);
        more = built.few;
      }

  left_step : x.kind ≡ Left → x.bytes ≡ 40 ∷ [] → FollowsLeft at_line at_column forms new_forms lists new_lists → Stepped constituent text before rest new_forms new_lists (length forms)
  left_step kind bytes f =
      let list : Open = record { line = at_line; column = at_column; parts = [] } in
      let long : length new_lists ≡ length lists + 1 = omega (arith, ap length f.new_is, length-append lists (list ∷ [])) in
      record {
        closed = closed;
        opened = opened ++ x ∷ [];
        reads = subst (λ t. Reads text t before rest) (append_assoc closed opened (x ∷ [])) reads;
        nests = ap (level 0) (sym (append_assoc closed opened (x ∷ []))) ∙ level_more 0 (length lists) (closed ++ opened) x nests
            ∙ ap (λ k. level_behind k (length lists) >>= (λ k. Some k)) kind ∙ ap (λ b. cond b (Some (length lists + 1)) None >>= (λ k. Some k)) (lt-ltb (length lists) 200 f.room) ∙ ap (λ k. Some k) (sym long);
        whole = subst (λ l. SpellsForms constituent 1 l closed) (sym f.same) whole;
        open_lists = subst (λ l. SpellsOpens l (opened ++ x ∷ [])) (sym f.new_is) (opens_push lists list opened (x ∷ []) open_lists (record { spelled = λ i. (kind i, bytes i) ∷ []; place = place }));
        few = omega (arith, long, f.room);
        more = omega (arith, ap length f.same);
      }

  right_step : x.kind ≡ Right → x.bytes ≡ 41 ∷ [] → FollowsRight constituent forms new_forms lists new_lists → Stepped constituent text before rest new_forms new_lists (length forms)
  right_step kind bytes f =
      let last = opens_last f.front f.last opened (subst (λ l. SpellsOpens l opened) f.old_is open_lists) in
      let long : length lists ≡ length f.front + 1 = omega (arith, ap length f.old_is, length-append f.front (f.last ∷ [])) in
      let part : Part (form.List f.last.parts) f.last.line f.last.column (last.mine ++ x ∷ []) = record {
        spelled = map-append bare last.mine (x ∷ []) ∙ (λ i. last.one.spelled i ++ (kind i, bytes i) ∷ []) ∙ sym (spelling_list f.last.parts);
        place = begins_more f.last.line f.last.column last.mine (x ∷ []) last.one.place;
      } in
      let built = rebuild constituent (form.List f.last.parts) f.last.line f.last.column forms new_forms f.front new_lists closed last.before (last.mine ++ x ∷ []) whole last.all part f.adds in
      let same : built.closed ++ built.opened ≡ (closed ++ opened) ++ x ∷ [] =
      built.same ∙ append_assoc closed last.before (last.mine ++ x ∷ []) ∙ ap (λ t. closed ++ t) (sym (append_assoc last.before last.mine (x ∷ [])) ∙ ap (λ t. t ++ x ∷ []) (sym last.split)) ∙ sym (append_assoc closed opened (x ∷ [])) in
      let some : eqb (length f.front + 1) 0 ≡ false = grind (arith, nat_tests) in
      let one_less : length f.front + 1 - 1 ≡ length new_lists = omega (arith, built.deep) in
      record {
        closed = built.closed;
        opened = built.opened;
        reads = subst (λ t. Reads text t before rest) (sym same) reads;
        nests = ap (level 0) same ∙ level_more 0 (length lists) (closed ++ opened) x nests
            ∙ (λ i. level_behind (kind i) (long i) >>= (λ k. Some k)) ∙ ap (λ b. cond b None (Some (length f.front + 1 - 1)) >>= (λ k. Some k)) some ∙ ap (λ k. Some k) one_less;
        whole = built.whole;
        open_lists = built.open_lists;
        few = omega (arith, built.deep, long);
        more = built.few;
      }

pub steps : (constituent : ℕ) (text before rest : List ℕ) (forms new_forms : List Located) (lists new_lists : List Open) (closed opened : List Lexed) (at_line at_column : ℕ) (kind : TokenKind) (bytes here : List ℕ) →
    Reads text ((closed ++ opened) ++ record { kind = kind; bytes = bytes; before = here } ∷ []) before rest → level 0 (closed ++ opened) ≡ Some (length lists) → SpellsForms constituent 1 forms closed → SpellsOpens lists opened →
    length lists ≤ 200 → IsPlace at_line at_column here → IsToken kind bytes rest → Follows constituent kind bytes at_line at_column forms new_forms lists new_lists → Stepped constituent text before rest new_forms new_lists (length forms)
steps constituent text before rest forms new_forms lists new_lists closed opened at_line at_column Left bytes here r n w o few place is f = left_step constituent text before rest forms new_forms lists new_lists closed opened at_line at_column (record { kind = Left; bytes = bytes; before = here }) r n w o few place refl is f
steps constituent text before rest forms new_forms lists new_lists closed opened at_line at_column Right bytes here r n w o few place is f = right_step constituent text before rest forms new_forms lists new_lists closed opened at_line at_column (record { kind = Right; bytes = bytes; before = here }) r n w o few place refl is f
steps constituent text before rest forms new_forms lists new_lists closed opened at_line at_column Word bytes here r n w o few place is f = leaf_step constituent text before rest forms new_forms lists new_lists closed opened at_line at_column (record { kind = Word; bytes = bytes; before = here }) r n w o few place refl f
steps constituent text before rest forms new_forms lists new_lists closed opened at_line at_column Variable bytes here r n w o few place is f = leaf_step constituent text before rest forms new_forms lists new_lists closed opened at_line at_column (record { kind = Variable; bytes = bytes; before = here }) r n w o few place refl f
steps constituent text before rest forms new_forms lists new_lists closed opened at_line at_column Row bytes here r n w o few place is f = leaf_step constituent text before rest forms new_forms lists new_lists closed opened at_line at_column (record { kind = Row; bytes = bytes; before = here }) r n w o few place refl f
steps constituent text before rest forms new_forms lists new_lists closed opened at_line at_column Numeral bytes here r n w o few place is f = leaf_step constituent text before rest forms new_forms lists new_lists closed opened at_line at_column (record { kind = Numeral; bytes = bytes; before = here }) r n w o few place refl f
steps constituent text before rest forms new_forms lists new_lists closed opened at_line at_column Quoted bytes here r n w o few place is f = leaf_step constituent text before rest forms new_forms lists new_lists closed opened at_line at_column (record { kind = Quoted; bytes = bytes; before = here }) r n w o few place refl f

-- a token has bytes
pub some_token : (kind : TokenKind) (bytes rest : List ℕ) → IsToken kind bytes rest → 0 < length bytes
some_token Left bytes rest is = omega (arith, ap length is)
some_token Right bytes rest is = omega (arith, ap length is)
some_token Quoted bytes rest is = omega (arith, ap length is.2)
some_token Word bytes rest is = is.chunk.some
some_token Variable bytes rest is = is.chunk.some
some_token Row bytes rest is = is.chunk.some
some_token Numeral bytes rest is = is.chunk.some

pub took_less : (token : Token) (old new : Progress) → Took token old new → length new.rest < length old.rest
took_less token old new took = omega (arith, some_token token.kind token.text.now new.rest took.is, ap length took.left, length-append took.skipped (token.text.now ++ new.rest), length-append token.text.now new.rest)

pub held_step : (constituent : ℕ) (text : List ℕ) (token : Token) (old new : Progress) (forms new_forms : List Located) (lists new_lists : List Open) → Held constituent text old forms lists → Took token old new → Follows constituent token.kind token.text.now token.line token.column forms new_forms lists new_lists → Held constituent text new new_forms new_lists
held_step constituent text token old new forms new_forms lists new_lists held took follows =
    let step = steps constituent text new.before new.rest forms new_forms lists new_lists held.closed held.opened token.line token.column token.kind token.text.now (old.before ++ took.skipped)
    (reads_took text (held.closed ++ held.opened) token old new took held.reads) held.nests held.whole held.open_lists held.few took.place took.is follows in
    record {
      going = took.goes_on;
      closed = step.closed;
      opened = step.opened;
      reads = step.reads;
      nests = step.nests;
      whole = step.whole;
      open_lists = step.open_lists;
      few = step.few;
      count = omega (arith, step.more, held.count, took_less token old new took);
    }

-- the ends
pub reads_finished : (text : List ℕ) (tokens : List Lexed) (old new : Progress) → Finished old new → Reads text tokens old.before old.rest → Reads text tokens (old.before ++ old.rest) []
reads_finished text tokens old new ends r = reads_idle text tokens old.before old.rest [] (subst (Reads text tokens old.before) (sym (append-nil old.rest)) r) ends.idle

pub held_spells : (constituent : ℕ) (text : List ℕ) (old new : Progress) (forms : List Located) → Held constituent text old forms [] → Finished old new → (tokens : List Lexed) × SpellsAll constituent text forms tokens
held_spells constituent text old new forms held ends =
    let all : held.closed ++ held.opened ≡ held.closed = ap (λ t. held.closed ++ t) held.open_lists ∙ append-nil held.closed in (
      held.closed,
      record {
        before = old.before ++ old.rest;
        reads = subst (λ t. Reads text t (old.before ++ old.rest) []) all (reads_finished text (held.closed ++ held.opened) old new ends held.reads);
        nests = ap (level 0) (sym all) ∙ held.nests;
        spelled = held.whole;
      },
    )

pub held_open : (constituent : ℕ) (text : List ℕ) (old new : Progress) (forms : List Located) (list : Open) (lists : List Open) → Held constituent text old forms (list ∷ lists) → Finished old new → LeavesOpen list.line list.column text
held_open constituent text old new forms list lists held ends =
    let open_list = unclosed constituent forms list lists held.closed held.opened (length (list ∷ lists)) held.whole held.open_lists held.nests in
    let long : length (list ∷ lists) ≡ 1 + length lists = omega arith in
    record {
      closed = held.closed;
      outermost = open_list.outermost;
      inner = open_list.inner;
      before = old.before ++ old.rest;
      depth = length lists;
      reads = subst (λ t. Reads text (held.closed ++ t) (old.before ++ old.rest) []) open_list.split (reads_finished text (held.closed ++ held.opened) old new ends held.reads);
      balanced = open_list.balanced;
      opens = open_list.opens;
      unclosed = open_list.unclosed;
      nests = ap (λ t. level 0 (held.closed ++ t)) (sym open_list.split) ∙ held.nests ∙ ap (λ k. Some k) long;
      place = open_list.place;
    }

lex_fault : (constituent : ℕ) (text : List ℕ) (error : LexError) → LexFault (fault_of error) (spot_of error).line (spot_of error).column text → FirstFault constituent text (unread_of error)
lex_fault constituent text (errors.BadByte spot) is = is
lex_fault constituent text (errors.OpenString spot) is = is
lex_fault constituent text (errors.BadEscape spot) is = is
lex_fault constituent text (errors.BadWord spot) is = is

pub held_met : (constituent : ℕ) (text : List ℕ) (error : LexError) (old new : Progress) (forms : List Located) (lists : List Open) → Held constituent text old forms lists → Met error old new → FirstFault constituent text (unread_of error)
held_met constituent text error old new forms lists held met = lex_fault constituent text error (record {
  tokens = held.closed ++ held.opened;
  before = old.before ++ met.skipped;
  inner = met.inner;
  rest = new.rest;
  depth = length lists;
  reads = reads_idle text (held.closed ++ held.opened) old.before met.skipped (met.inner ++ new.rest) (subst (Reads text (held.closed ++ held.opened) old.before) met.left held.reads) met.idle;
  nests = held.nests;
  met = met.is;
  place = subst (IsPlace (spot_of error).line (spot_of error).column) (sym (append_assoc old.before met.skipped met.inner)) met.place;
})

pub held_ended : (constituent : ℕ) (text : List ℕ) (old new : Progress) (forms : List Located) (lists : List Open) → Held constituent text old forms lists → Ended old new → Finished old new
held_ended constituent text old new forms lists held (inl ends) = ends
held_ended constituent text old new forms lists held (inr was) = let no : true ≡ false = sym was.over ∙ held.going in absurd (cc)

nest_fault : (constituent : ℕ) (text : List ℕ) (token : Token) (old new : Progress) (forms : List Located) (lists : List Open) (kind : TokenKind) (depth byte : ℕ) (spot : Spot) → Held constituent text old forms lists → Took token old new → RefusesAt token.kind kind (length lists) depth token.line token.column spot → token.text.now ≡ byte ∷ [] → NestFault depth byte spot.line spot.column text
nest_fault constituent text token old new forms lists kind depth byte spot held took refuses bytes = record {
  tokens = held.closed ++ held.opened;
  before = old.before ++ took.skipped;
  rest = new.rest;
  reads = subst (λ b. Reads text (held.closed ++ held.opened) (old.before ++ took.skipped) (b ++ new.rest)) bytes
      (reads_idle text (held.closed ++ held.opened) old.before took.skipped (token.text.now ++ new.rest) (subst (Reads text (held.closed ++ held.opened) old.before) took.left held.reads) took.idle);
  nests = held.nests ∙ ap (λ k. Some k) refuses.level_is;
  place = record { line = refuses.line ∙ took.place.line; column = refuses.column ∙ took.place.column };
}

pub held_refused : (constituent : ℕ) (text : List ℕ) (token : Token) (old new : Progress) (forms : List Located) (lists : List Open) (error : ReadError) → Held constituent text old forms lists → Took token old new → Refuses token.kind (length lists) token.line token.column error → FirstFault constituent text error
held_refused constituent text token old new forms lists (unread.StrayClose spot) held took refuses = nest_fault constituent text token old new forms lists Right 0 41 spot held took refuses (subst (λ k. IsToken k token.text.now new.rest) refuses.kind_is took.is)
held_refused constituent text token old new forms lists (unread.TooDeep spot) held took refuses = nest_fault constituent text token old new forms lists Left 200 40 spot held took refuses (subst (λ k. IsToken k token.text.now new.rest) refuses.kind_is took.is)
held_refused constituent text token old new forms lists unread.NoMemory held took refuses = tt
held_refused constituent text token old new forms lists (unread.BadByte spot) held took refuses = absurd refuses
held_refused constituent text token old new forms lists (unread.OpenString spot) held took refuses = absurd refuses
held_refused constituent text token old new forms lists (unread.OpenList spot) held took refuses = absurd refuses
held_refused constituent text token old new forms lists (unread.BadEscape spot) held took refuses = absurd refuses
held_refused constituent text token old new forms lists (unread.BadWord spot) held took refuses = absurd refuses
held_refused constituent text token old new forms lists (unread.LogicShape spot) held took refuses = absurd refuses

pub first_is : (lists : List Open) (list : Open) → Some list ≡ slice_get lists 0 → lists ≡ list ∷ drop 1 lists
first_is [] list e = absurd (cc)
first_is (l ∷ ls) list e = let same : list ≡ l = cc in ap (λ x. x ∷ ls) (sym same)

pub none_is : (lists : List Open) → None ≡ slice_get lists 0 → lists ≡ []
none_is [] e = refl
none_is (l ∷ ls) e = absurd (cc)
