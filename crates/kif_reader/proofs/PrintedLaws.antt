-- The printed text of a form spells that form.
use Rattle.std.proofs.Common.{◌≡◌, ℕ, ◌+◌, Bool, true, false, cond, Some, None, List, [], ◌∷◌, ◌++◌, map, take, drop, sym, ap, ◌∙◌, refl, subst, append-nil}
use Rattle.std.specs.List.{flat_map}
use Rattle.std.specs.Str.{bytes_eq}
use Rattle.std.proofs.lemmas.List.{map-append}
use Rattle.std.proofs.lemmas.List.Concat.{flat_map-append}
use Rattle.std.proofs.lemmas.Slice.Eq.{bytes_eq-Decides}
use Rattle.sigma_base.specs.Lists.{Each}
use Rattle.kif_tree.specs.declared.form.Form.{Form}
use Rattle.kif_tree.specs.declared.form.Form.TheVariants as form
use Rattle.kif_tree.specs.declared.place.Located.{Located}
use Rattle.kif_tree.specs.FormLaws.{induction}
use Rattle.kif_tree.specs.Printed.{form_text, spaced, after_blank}
use Rattle.kif_tree.specs.Shape.{first_of, first_form_fault, form_faults}
use Rattle.kif_tree.proofs.PrintLaws.{form_text-Word, form_text-Variable, form_text-Row, form_text-Numeral, form_text-Quoted, form_text-List}
use Rattle.kif_reader.specs.Bytes.{is_chunk_byte}
use Rattle.kif_reader.specs.Cut.{Piece, Blank, Lexeme, bytes_of, joined, Stand, Stops, IsToken, IsChunkOf, is_outside, quoted}
use Rattle.kif_reader.specs.Laws.{alone}
use Rattle.kif_reader.specs.Reading.{mark_len}
use Rattle.kif_reader.specs.Spellable.{IsSpellable}
use Rattle.kif_reader.specs.Spelling.{tokens_of, bare, spelling, Spelled, forms_of, Spells}
use Rattle.kif_reader.specs.declared.kinds.TokenKind.{TokenKind}
use Rattle.kif_reader.specs.declared.kinds.TokenKind.TheVariants.{Left, Right, Word, Variable, Row, Numeral, Quoted}
use Rattle.kif_reader.proofs.FaultLaws.{piece_outside}
use Rattle.kif_reader.proofs.LevelLaws.{bare_level, same_level}
use Rattle.kif_reader.proofs.NestLaws.{spelled_nest}
use Rattle.kif_reader.proofs.ReadLaws.{tokens-append, stand-append}
use Rattle.kif_reader.proofs.SpellableLaws.{spelled_spellable, parts_spellable, spelled_faultless}
use Rattle.kif_reader.proofs.SpellingLaws.{spelling_word, spelling_variable, spelling_row, spelling_numeral, spelling_quoted, spelling_list}

-- ---- the cut of a printed form

abbrev IsBare : TokenKind × List ℕ → Type 0
IsBare token = IsToken token.0 token.1 []

record PrintCut (text : List ℕ) (tokens : Spelled) : Type 0 where
  kind : TokenKind
  bytes : List ℕ
  more : List Piece
  spells : joined (Lexeme kind bytes ∷ more) ≡ text
  tokens_are : (before : List ℕ) → map bare (tokens_of before (Lexeme kind bytes ∷ more)) ≡ tokens
  stands : (follow : List ℕ) → Stops is_chunk_byte follow → Stand (Lexeme kind bytes ∷ more) follow

leaf_cut : (kind : TokenKind) (bytes : List ℕ) → ((follow : List ℕ) → Stops is_chunk_byte follow → IsToken kind bytes follow) → PrintCut bytes ((kind, bytes) ∷ [])
leaf_cut kind bytes is = record { kind = kind; bytes = bytes; more = []; spells = append-nil bytes; tokens_are = λ before. refl; stands = λ follow stops. (is follow stops, tt) }

chunk_before : (kind : TokenKind) (bytes : List ℕ) → IsChunkOf kind bytes [] → (follow : List ℕ) → Stops is_chunk_byte follow → IsChunkOf kind bytes follow
chunk_before kind bytes is follow stops = record { chunk = record { some = is.chunk.some; all = is.chunk.all; longest = stops }; kind = is.kind }

abbrev Cut : Form → Type 0
Cut f = PrintCut (form_text f) (spelling f)

as_cut : (f : Form) (text : List ℕ) (tokens : Spelled) → form_text f ≡ text → spelling f ≡ tokens → PrintCut text tokens → Cut f
as_cut f text tokens e g cut = subst (λ t. PrintCut t (spelling f)) (sym e) (subst (PrintCut text) (sym g) cut)

-- parts behind each other, each after a blank
record RestCut (parts : List Form) : Type 0 where
  pieces : List Piece
  spells : joined pieces ≡ flat_map after_blank (map form_text parts)
  tokens_are : (before : List ℕ) → map bare (tokens_of before pieces) ≡ flat_map spelling parts
  stands : (follow : List ℕ) → Stops is_chunk_byte follow → Stand pieces follow
  stops : (follow : List ℕ) → Stops is_chunk_byte follow → Stops is_chunk_byte (joined pieces ++ follow)

bare_both : (before : List ℕ) (ps qs : List Piece) (xs ys : Spelled) → ((before : List ℕ) → map bare (tokens_of before ps) ≡ xs) → ((before : List ℕ) → map bare (tokens_of before qs) ≡ ys) → map bare (tokens_of before (ps ++ qs)) ≡ xs ++ ys
bare_both before ps qs xs ys first second = ap (map bare) (tokens-append before ps qs) ∙ map-append bare (tokens_of before ps) (tokens_of (before ++ joined ps) qs) ∙ (λ i. first before i ++ second (before ++ joined ps) i)

rest_cut : (parts : List Form) → Each Cut parts → RestCut parts
rest_cut [] each = record { pieces = []; spells = refl; tokens_are = λ before. refl; stands = λ follow stops. tt; stops = λ follow stops. stops }
rest_cut (part ∷ parts) each =
    let here = each.0 in
    let own : List Piece = Lexeme here.kind here.bytes ∷ here.more in
    let rest = rest_cut parts each.1 in
    record {
      pieces = Blank 32 ∷ (own ++ rest.pieces);
      spells = ap (λ l. 32 ∷ l) (flat_map-append bytes_of own rest.pieces ∙ (λ i. here.spells i ++ rest.spells i));
      tokens_are = λ before. bare_both (before ++ 32 ∷ []) own rest.pieces (spelling part) (flat_map spelling parts) here.tokens_are rest.tokens_are;
      stands = λ follow stops. (refl, stand-append own rest.pieces follow (here.stands (joined rest.pieces ++ follow) (rest.stops follow stops)) (rest.stands follow stops));
      stops = λ follow stops. refl;
    }

record SpacedCut (parts : List Form) : Type 0 where
  pieces : List Piece
  spells : joined pieces ≡ spaced (map form_text parts)
  tokens_are : (before : List ℕ) → map bare (tokens_of before pieces) ≡ flat_map spelling parts
  stands : (follow : List ℕ) → Stops is_chunk_byte follow → Stand pieces follow

spaced_cut : (parts : List Form) → Each Cut parts → SpacedCut parts
spaced_cut [] each = record { pieces = []; spells = refl; tokens_are = λ before. refl; stands = λ follow stops. tt }
spaced_cut (part ∷ parts) each =
    let here = each.0 in
    let own : List Piece = Lexeme here.kind here.bytes ∷ here.more in
    let rest = rest_cut parts each.1 in
    record {
      pieces = own ++ rest.pieces;
      spells = flat_map-append bytes_of own rest.pieces ∙ (λ i. here.spells i ++ rest.spells i);
      tokens_are = λ before. bare_both before own rest.pieces (spelling part) (flat_map spelling parts) here.tokens_are rest.tokens_are;
      stands = λ follow stops. stand-append own rest.pieces follow (here.stands (joined rest.pieces ++ follow) (rest.stops follow stops)) (rest.stands follow stops);
    }

list_cut : (parts : List Form) → Each Cut parts → Cut (form.List parts)
list_cut parts each =
    let inner = spaced_cut parts each in
    let close : List Piece = Lexeme Right (41 ∷ []) ∷ [] in
    as_cut (form.List parts) ((40 ∷ spaced (map form_text parts)) ++ 41 ∷ []) (((Left, 40 ∷ []) ∷ flat_map spelling parts) ++ (Right, 41 ∷ []) ∷ []) (form_text-List parts) (spelling_list parts) (record {
      kind = Left;
      bytes = 40 ∷ [];
      more = inner.pieces ++ close;
      spells = ap (λ l. 40 ∷ l) (flat_map-append bytes_of inner.pieces close ∙ ap (λ l. l ++ 41 ∷ []) inner.spells);
      tokens_are = λ before. ap (λ l. (Left, 40 ∷ []) ∷ l) (bare_both (before ++ 40 ∷ []) inner.pieces close (flat_map spelling parts) ((Right, 41 ∷ []) ∷ []) inner.tokens_are (λ before. refl));
      stands = λ follow stops. (refl, stand-append inner.pieces close follow (inner.stands (41 ∷ follow) refl) (refl, tt));
    })

parts_cut : (parts : List Form) → Each (λ part. IsSpellable part → Cut part) parts → Each IsSpellable parts → Each Cut parts
parts_cut [] each is = tt
parts_cut (part ∷ parts) each is = (each.0 is.0, parts_cut parts each.1 is.1)

-- a printed form is cut into its tokens
print_cut : (f : Form) → IsSpellable f → Cut f
print_cut = induction (λ f. IsSpellable f → Cut f) (record {
  word = λ text is. let one : Each IsBare ((Word, text) ∷ []) = subst (Each IsBare) (spelling_word text) is in as_cut (form.Word text) text ((Word, text) ∷ []) (form_text-Word text) (spelling_word text) (leaf_cut Word text (chunk_before Word text one.0));
  variable = λ text is. let one : Each IsBare ((Variable, 63 ∷ text) ∷ []) = subst (Each IsBare) (spelling_variable text) is in as_cut (form.Variable text) (63 ∷ text) ((Variable, 63 ∷ text) ∷ []) (form_text-Variable text) (spelling_variable text) (leaf_cut Variable (63 ∷ text) (chunk_before Variable (63 ∷ text) one.0));
  row = λ text is. let one : Each IsBare ((Row, 64 ∷ text) ∷ []) = subst (Each IsBare) (spelling_row text) is in as_cut (form.Row text) (64 ∷ text) ((Row, 64 ∷ text) ∷ []) (form_text-Row text) (spelling_row text) (leaf_cut Row (64 ∷ text) (chunk_before Row (64 ∷ text) one.0));
  numeral = λ text is. let one : Each IsBare ((Numeral, text) ∷ []) = subst (Each IsBare) (spelling_numeral text) is in as_cut (form.Numeral text) text ((Numeral, text) ∷ []) (form_text-Numeral text) (spelling_numeral text) (leaf_cut Numeral text (chunk_before Numeral text one.0));
  quoted = λ text is. let one : Each IsBare ((Quoted, quoted text) ∷ []) = subst (Each IsBare) (spelling_quoted text) is in as_cut (form.Quoted text) (quoted text) ((Quoted, quoted text) ∷ []) (form_text-Quoted text) (spelling_quoted text) (leaf_cut Quoted (quoted text) (λ follow stops. one.0));
  list = λ parts each is. list_cut parts (parts_cut parts each (parts_spellable parts is));
})

-- ---- a text that begins with a piece has no mark

abbrev len_if : Bool → ℕ
len_if t = cond t 3 0

no_mark_first : (b : ℕ) (more : List ℕ) → is_outside b ≡ true → mark_len (b ∷ more) ≡ 0
no_mark_first b more outside = elim (bytes_eq (take 3 (b ∷ more)) (239 ∷ 187 ∷ 191 ∷ [])) as (λ t. bytes_eq (take 3 (b ∷ more)) (239 ∷ 187 ∷ 191 ∷ []) ≡ t → len_if t ≡ 0) [
  | true ↦ λ e. let same = (bytes_eq-Decides (take 3 (b ∷ more)) (239 ∷ 187 ∷ 191 ∷ [])).0 e in let byte : b ≡ 239 = cc in let no : true ≡ false = sym outside ∙ ap is_outside byte in absurd (cc)
  | false ↦ λ e. refl
] refl

no_mark : (p : Piece) (ps : List Piece) → Stand (p ∷ ps) [] → mark_len (joined (p ∷ ps)) ≡ 0
no_mark p ps stand =
    let o = piece_outside p (joined ps ++ []) stand.0 in
    ap (λ l. mark_len (l ++ joined ps)) o.split ∙ no_mark_first o.byte (o.more ++ joined ps) o.outside

-- ---- the form alone

shown_faults : (xs : List ℕ) → first_of xs ≡ None → first_of (map (λ at. 0 + at) xs ++ []) ≡ None
shown_faults [] e = refl
shown_faults (x ∷ xs) e = absurd (cc)

pub form_alone : (c : ℕ) (f : Form) → IsSpellable f → bare_level 0 (spelling f) ≡ Some 0 → first_form_fault f ≡ None → Spells c (form_text f) (alone c f)
form_alone c f is nests shaped =
    let cut = print_cut f is in
    let pieces : List Piece = Lexeme cut.kind cut.bytes ∷ cut.more in
    let stand = cut.stands [] tt in
    let none : mark_len (form_text f) ≡ 0 = ap mark_len (sym cut.spells) ∙ no_mark (Lexeme cut.kind cut.bytes) cut.more stand in
    let tokens = tokens_of [] pieces in
    record {
      tokens = tokens;
      spelled = record {
        before = joined pieces;
        reads = record {
          pieces = pieces;
          cuts = record { whole = ap (λ n. drop n (form_text f)) none ∙ sym cut.spells ∙ sym (append-nil (joined pieces)); stand = stand };
          taken = ap (λ n. take n (form_text f) ++ joined pieces) (sym none);
          is = ap (λ n. tokens_of (take n (form_text f)) pieces) (sym none);
        };
        nests = sym (same_level 0 tokens) ∙ ap (bare_level 0) (cut.tokens_are []) ∙ nests;
        spelled = (tokens, [], sym (append-nil tokens), record { spelled = cut.tokens_are []; place = record { line = refl; column = refl }; number_is = refl; constituent_is = refl }, refl);
      };
      shaped = shown_faults (form_faults f) shaped;
    }

each_alone : (c : ℕ) (forms : List Located) → Each (λ (located : Located). IsSpellable located.form) forms → Each (λ (located : Located). bare_level 0 (spelling located.form) ≡ Some 0) forms → Each (λ f. first_form_fault f ≡ None) (forms_of forms) → Each (λ (located : Located). Spells c (form_text located.form) (alone c located.form)) forms
each_alone c [] is nests shaped = tt
each_alone c (located ∷ more) is nests shaped = (form_alone c located.form is.0 nests.0 shaped.0, each_alone c more is.1 nests.1 shaped.1)

-- the printed text of each form that a text spells spells it again
pub printed_form : (c d : ℕ) (text : List ℕ) (forms : List Located) → Spells c text forms → Each (λ (located : Located). Spells d (form_text located.form) (alone d located.form)) forms
printed_form c d text forms is =
    each_alone d forms (spelled_spellable c text forms is.tokens is.spelled) (spelled_nest c 1 forms is.tokens is.spelled.spelled is.spelled.nests) (spelled_faultless c text forms is)
