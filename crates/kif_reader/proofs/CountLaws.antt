-- The token of a given number, and how many tokens a text has.
use Rattle.std.proofs.Common.{◌≡◌, ℕ, ◌+◌, ◌<◌, ◌≤◌, ◌^◌, ◌⊎◌, inl, inr, true, false, Option, Some, List, [], ◌∷◌, ◌++◌, length, take, sym, ap, ◌∙◌, refl, subst, arith, append_assoc, append-nil, length-append, length-drop}
use Rattle.std.specs.List.{slice_get, flat_map}
use Rattle.std.specs.Option.{option_map}
use Rattle.std.proofs.lemmas.List.{length-map}
use Rattle.sigma_base.specs.Lists.{Each}
use Rattle.kif_tree.specs.declared.form.Form.{Form}
use Rattle.kif_tree.specs.declared.place.Located.{Located}
use Rattle.kif_tree.specs.FormLaws.{induction}
use Rattle.kif_tree.specs.Shape.{token_count}
use Rattle.kif_tree.specs.Shape as shape
use Rattle.kif_tree.proofs.ShapeLaws.{token_count-Word, token_count-Variable, token_count-Row, token_count-Numeral, token_count-Quoted, token_count-List, forms_below}
use Rattle.kif_reader.specs.Bytes.{IsPlace}
use Rattle.kif_reader.specs.Cut.{Piece, Blank, Comment, Lexeme, bytes_of, joined, Stand}
use Rattle.kif_reader.specs.Reading.{Progress, Starts, Took, Met, Finished, Ended, mark_len, fault_of}
use Rattle.kif_reader.specs.Spelling.{Lexed, bare, spelling, tokens_of, Reads, SpellsForms, SpellsAll, forms_of}
use Rattle.kif_reader.specs.declared.kinds.Token.{Token}
use Rattle.kif_reader.specs.declared.kinds.LexError.{LexError}
use Rattle.kif_reader.specs.declared.kinds.TokenKind.TheVariants.{Right}
use Rattle.kif_reader.proofs.CutLaws.{GoesOn, cuts_compare}
use Rattle.kif_reader.proofs.FaultLaws.{no_piece, no_end}
use Rattle.kif_reader.proofs.ReadLaws.{reads_idle}
use Rattle.kif_reader.proofs.ReadsOnLaws.{reads_number}
use Rattle.kif_reader.proofs.ReadingIsOneLaws.{tokens_unique}
use Rattle.kif_reader.proofs.SpellingLaws.{spelling_word, spelling_variable, spelling_row, spelling_numeral, spelling_quoted, spelling_list}
use Rattle.kif_reader.proofs.StepLaws.{reads_took, reads_finished, some_token}

-- ---- taking tokens up to one of a given number

pub record Counted (text : List ℕ) (p : Progress) (left number : ℕ) : Type 0 where
  pub going : p.over ≡ false
  pub seen : List Lexed
  pub reads : Reads text seen p.before p.rest
  pub count : length seen + left ≡ number

pub counted_start : (text : List ℕ) (p : Progress) (number : ℕ) → Starts text p → Counted text p number number
counted_start text p number starts = record {
  going = starts.goes_on;
  seen = [];
  reads = record { pieces = []; cuts = record { whole = sym starts.rest; stand = tt }; taken = starts.before ∙ sym (append-nil (take (mark_len text) text)); is = refl };
  count = omega arith;
}

pub counted_step : (text : List ℕ) (token : Token) (old new : Progress) (left less number : ℕ) → Counted text old left number → Took token old new → left ≡ less + 1 → Counted text new less number
counted_step text token old new left less number counted took is =
    let x : Lexed = record { kind = token.kind; bytes = token.text.now; before = old.before ++ took.skipped } in
    record {
      going = took.goes_on;
      seen = counted.seen ++ x ∷ [];
      reads = reads_took text counted.seen token old new took counted.reads;
      count = omega (arith, counted.count, is, length-append counted.seen (x ∷ []));
    }

pub counted_found : (text : List ℕ) (token : Token) (old new : Progress) (number : ℕ) (all : List Lexed) (end : List ℕ) → Counted text old 0 number → Took token old new → Reads text all end [] → (x : Lexed) × (slice_get all number ≡ Some x) × IsPlace token.line token.column x.before
counted_found text token old new number all end counted took whole =
    let x : Lexed = record { kind = token.kind; bytes = token.text.now; before = old.before ++ took.skipped } in
    let seen : length counted.seen ≡ number = omega (arith, counted.count) in
    (x, ap (slice_get all) (sym seen) ∙ reads_number text counted.seen all x new.before end new.rest (reads_took text counted.seen token old new took counted.reads) whole, took.place)

counted_finished : (text : List ℕ) (old new : Progress) (left number : ℕ) (all : List Lexed) (end : List ℕ) → Counted text old left number → Finished old new → Reads text all end [] → number < length all → ⊥
counted_finished text old new left number all end counted ends whole within =
    let same = tokens_unique text all counted.seen end (old.before ++ old.rest) whole (reads_finished text counted.seen old new ends counted.reads) in
    absurd (omega (arith, ap length same, counted.count, within))

pub counted_ended : (text : List ℕ) (old new : Progress) (left number : ℕ) (all : List Lexed) (end : List ℕ) → Counted text old left number → Ended old new → Reads text all end [] → number < length all → ⊥
counted_ended text old new left number all end counted (inl ends) whole within = counted_finished text old new left number all end counted ends whole within
counted_ended text old new left number all end counted (inr was) whole within = let no : true ≡ false = sym was.over ∙ counted.going in absurd (cc)

nothing_behind : (xs ys : List ℕ) → [] ≡ xs ++ ys → ys ≡ []
nothing_behind [] ys e = sym e
nothing_behind (x ∷ xs) ys e = absurd (cc)

pub counted_met : (text : List ℕ) (error : LexError) (old new : Progress) (left number : ℕ) (all : List Lexed) (end : List ℕ) → Counted text old left number → Met error old new → Reads text all end [] → ⊥
counted_met text error old new left number all end counted met whole =
    compare (cuts_compare r.pieces whole.pieces (met.inner ++ new.rest) [] r.cuts.stand whole.cuts.stand (sym r.cuts.whole ∙ whole.cuts.whole))
  where
    r : Reads text counted.seen (old.before ++ met.skipped) (met.inner ++ new.rest)
    r = reads_idle text counted.seen old.before met.skipped (met.inner ++ new.rest) (subst (Reads text counted.seen old.before) met.left counted.reads) met.idle

    pieces : (more : List Piece) → Stand more [] → met.inner ++ new.rest ≡ joined more ++ [] → ⊥
    pieces [] stand e = no_end (fault_of error) met.inner new.rest met.is e
    pieces (p ∷ more) stand e = no_piece (fault_of error) met.inner new.rest p (joined more ++ []) met.is stand.0 (e ∙ append_assoc (bytes_of p) (joined more) [])

    compare : GoesOn r.pieces whole.pieces (met.inner ++ new.rest) [] ⊎ GoesOn whole.pieces r.pieces [] (met.inner ++ new.rest) → ⊥
    compare (inl on) = pieces on.more on.stand on.rest
    compare (inr on) = no_end (fault_of error) met.inner new.rest met.is (nothing_behind (joined on.more) (met.inner ++ new.rest) on.rest)

-- ---- how many tokens there are

few_tokens : (before : List ℕ) (pieces : List Piece) (rest : List ℕ) → Stand pieces rest → length (tokens_of before pieces) ≤ length (joined pieces)
few_tokens before [] rest stand = omega arith
few_tokens before (Blank byte ∷ pieces) rest stand = omega (arith, few_tokens (before ++ byte ∷ []) pieces rest stand.1)
few_tokens before (Comment body ∷ pieces) rest stand = omega (arith, few_tokens (before ++ 59 ∷ body) pieces rest stand.1, length-append (59 ∷ body) (joined pieces))
few_tokens before (Lexeme kind bytes ∷ pieces) rest stand = omega (arith, few_tokens (before ++ bytes) pieces rest stand.1, some_token kind bytes (joined pieces ++ rest) stand.0, length-append bytes (joined pieces))

pub tokens_few : (text : List ℕ) (tokens : List Lexed) (before rest : List ℕ) → Reads text tokens before rest → length tokens ≤ length text
tokens_few text tokens before rest r = omega (arith, ap length r.is, few_tokens (take (mark_len text) text) r.pieces rest r.cuts.stand, ap length r.cuts.whole, length-append (joined r.pieces) rest, length-drop (mark_len text) text)

parts_length : (parts : List Form) → Each (λ f. length (spelling f) ≡ token_count f) parts → length (flat_map spelling parts) ≡ shape.tokens_of parts
parts_length [] each = refl
parts_length (part ∷ parts) each = omega (arith, each.0, parts_length parts each.1, length-append (spelling part) (flat_map spelling parts))

pub spelling_length : (f : Form) → length (spelling f) ≡ token_count f
spelling_length = induction (λ f. length (spelling f) ≡ token_count f) (record {
  word = λ t. ap length (spelling_word t) ∙ sym (token_count-Word t);
  variable = λ t. ap length (spelling_variable t) ∙ sym (token_count-Variable t);
  row = λ t. ap length (spelling_row t) ∙ sym (token_count-Row t);
  numeral = λ t. ap length (spelling_numeral t) ∙ sym (token_count-Numeral t);
  quoted = λ t. ap length (spelling_quoted t) ∙ sym (token_count-Quoted t);
  list = λ parts each. omega (arith, ap length (spelling_list parts), token_count-List parts, parts_length parts each, length-append (flat_map spelling parts) ((Right, 41 ∷ []) ∷ []));
})

pub forms_length : (constituent number : ℕ) (forms : List Located) (tokens : List Lexed) → SpellsForms constituent number forms tokens → length tokens ≡ shape.tokens_of (forms_of forms)
forms_length constituent number [] tokens all = ap length all
forms_length constituent number (f ∷ fs) tokens all =
    omega (arith, ap length all.2, length-append all.0 all.1, sym (length-map all.0 bare), ap length all.3.spelled, spelling_length f.form, forms_length constituent (number + 1) fs all.1 all.4)

-- the shape of forms of a text is told in numbers of the code
few_parts : (constituent : ℕ) (text : List ℕ) (forms : List Located) (tokens : List Lexed) → SpellsAll constituent text forms tokens → length text < 2 ^ 31 → shape.tokens_of (forms_of forms) ≤ 18446744073709551615
few_parts constituent text forms tokens spelled short =
    omega (arith, forms_length constituent 1 forms tokens spelled.spelled, tokens_few text tokens spelled.before [] spelled.reads, short)

first_below : (most : ℕ) (faults : List ℕ) → Each (λ at. at < most) faults → most ≤ 18446744073709551615 → option_map shape.capped (shape.first_of faults) ≡ shape.first_of faults
first_below most [] below small = refl
first_below most (at ∷ faults) below small = let same : shape.capped at ≡ at = omega (arith, below.0, small) in ap (λ n. Some n) same

-- the token of the first fault, as it is told of lent forms
pub fault_told : (constituent : ℕ) (text : List ℕ) (forms lent : List Located) (tokens : List Lexed) (told : Option ℕ) → SpellsAll constituent text forms tokens → length text < 2 ^ 31 → lent ≡ forms → told ≡ option_map shape.capped (shape.first_forms_fault (forms_of lent)) → told ≡ shape.first_forms_fault (forms_of forms)
fault_told constituent text forms lent tokens told spelled short same is =
    is ∙ ap (λ l. option_map shape.capped (shape.first_forms_fault (forms_of l))) same
    ∙ first_below (shape.tokens_of (forms_of forms)) (shape.forms_faults (forms_of forms)) (forms_below (forms_of forms)) (few_parts constituent text forms tokens spelled short)

first_of_each : (P : ℕ → Type 0) (xs : List ℕ) (x : ℕ) → Each P xs → Some x ≡ shape.first_of xs → P x
first_of_each P [] x each e = absurd (cc)
first_of_each P (y ∷ ys) x each e = let same : x ≡ y = cc in subst P (sym same) each.0

-- a fault of shape is at one of the tokens
pub fault_within : (constituent : ℕ) (text : List ℕ) (forms : List Located) (tokens : List Lexed) (number : ℕ) → SpellsAll constituent text forms tokens → Some number ≡ shape.first_forms_fault (forms_of forms) → number < length tokens
fault_within constituent text forms tokens number spelled first =
    omega (arith, forms_length constituent 1 forms tokens spelled.spelled, first_of_each (λ at. at < shape.tokens_of (forms_of forms)) (shape.forms_faults (forms_of forms)) number (forms_below (forms_of forms)) first)
