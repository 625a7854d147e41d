-- The forms that a text spells: their leaves are of their kinds, the word of answer literals isn't in them, and each has its shape.
use Rattle.std.proofs.Common.{◌≡◌, ℕ, ◌+◌, Bool, true, false, ◌&&◌, ◌||◌, Some, None, List, [], ◌∷◌, ◌++◌, map, sym, ap, ◌∙◌, refl, subst}
use Rattle.std.specs.Prelude.{codes, is_none, not}
use Rattle.std.specs.List.{list_any, flat_map}
use Rattle.std.specs.Str.{bytes_eq}
use Rattle.std.proofs.lemmas.List.{map-append}
use Rattle.std.proofs.lemmas.Slice.Eq.{bytes_eq-Decides}
use Rattle.sigma_base.specs.Lists.{Each, each_left, each_right, each_map}
use Rattle.kif_tree.specs.declared.form.Form.{Form}
use Rattle.kif_tree.specs.declared.form.Form.TheVariants as form
use Rattle.kif_tree.specs.declared.place.Located.{Located}
use Rattle.kif_tree.specs.FormLaws.{induction, fold-Variable, fold-Row, fold-Numeral, fold-Quoted}
use Rattle.kif_tree.specs.Shape.{has_word, has_word_step, faults_from, form_faults, as_top, first_of, first_form_fault, is_shaped, token_count}
use Rattle.kif_tree.proofs.ShapeLaws.{has_word-Word, has_word-List}
use Rattle.kif_reader.specs.Chunks.{kind_of_chunk, is_numeral}
use Rattle.kif_reader.specs.Cut.{Piece, Blank, Comment, Lexeme, joined, Stand, IsToken, IsChunkOf}
use Rattle.kif_reader.specs.Spellable.{IsSpellable}
use Rattle.kif_reader.specs.Spelling.{Lexed, tokens_of, bare, spelling, SpellsForms, SpellsAll, Spells, forms_of}
use Rattle.kif_reader.specs.declared.kinds.TokenKind.{TokenKind}
use Rattle.kif_reader.specs.declared.kinds.TokenKind.TheVariants.{Left, Right, Word, Variable, Row, Numeral, Quoted}
use Rattle.kif_reader.proofs.SpellingLaws.{spelling_word, spelling_list}

abbrev IsBare : TokenKind × List ℕ → Type 0
IsBare token = IsToken token.0 token.1 []

chunk_alone : (kind : TokenKind) (bytes follow : List ℕ) → IsChunkOf kind bytes follow → IsChunkOf kind bytes []
chunk_alone kind bytes follow is = record { chunk = record { some = is.chunk.some; all = is.chunk.all; longest = tt }; kind = is.kind }

-- a token stands before nothing too
pub token_alone : (kind : TokenKind) (bytes follow : List ℕ) → IsToken kind bytes follow → IsToken kind bytes []
token_alone Left bytes follow is = is
token_alone Right bytes follow is = is
token_alone Quoted bytes follow is = is
token_alone Word bytes follow is = chunk_alone Word bytes follow is
token_alone Variable bytes follow is = chunk_alone Variable bytes follow is
token_alone Row bytes follow is = chunk_alone Row bytes follow is
token_alone Numeral bytes follow is = chunk_alone Numeral bytes follow is

tokens_alone : (before : List ℕ) (pieces : List Piece) (rest : List ℕ) → Stand pieces rest → Each IsBare (map bare (tokens_of before pieces))
tokens_alone before [] rest stand = tt
tokens_alone before (Blank byte ∷ pieces) rest stand = tokens_alone (before ++ byte ∷ []) pieces rest stand.1
tokens_alone before (Comment body ∷ pieces) rest stand = tokens_alone (before ++ 59 ∷ body) pieces rest stand.1
tokens_alone before (Lexeme kind bytes ∷ pieces) rest stand = (token_alone kind bytes (joined pieces ++ rest) stand.0, tokens_alone (before ++ bytes) pieces rest stand.1)

forms_spellable : (c n : ℕ) (forms : List Located) (tokens : List Lexed) → SpellsForms c n forms tokens → Each IsBare (map bare tokens) → Each (λ (located : Located). IsSpellable located.form) forms
forms_spellable c n [] tokens is each = tt
forms_spellable c n (located ∷ more) tokens is each =
    let split : Each IsBare (map bare is.0 ++ map bare is.1) = subst (Each IsBare) (ap (map bare) is.2 ∙ map-append bare is.0 is.1) each in
    (subst (Each IsBare) is.3.spelled (each_left IsBare (map bare is.0) (map bare is.1) split), forms_spellable c (n + 1) more is.1 is.4 (each_right IsBare (map bare is.0) (map bare is.1) split))

-- the leaves of forms that a text spells are of their kinds
pub spelled_spellable : (c : ℕ) (text : List ℕ) (forms : List Located) (tokens : List Lexed) → SpellsAll c text forms tokens → Each (λ (located : Located). IsSpellable located.form) forms
spelled_spellable c text forms tokens is =
    forms_spellable c 1 forms tokens is.spelled (subst (λ ts. Each IsBare (map bare ts)) (sym is.reads.is) (tokens_alone _ is.reads.pieces [] is.reads.cuts.stand))

-- ---- parts

parts_each : (parts : List Form) → Each IsBare (flat_map spelling parts) → Each IsSpellable parts
parts_each [] each = tt
parts_each (part ∷ parts) each = (each_left IsBare (spelling part) (flat_map spelling parts) each, parts_each parts (each_right IsBare (spelling part) (flat_map spelling parts) each))

pub parts_spellable : (parts : List Form) → IsSpellable (form.List parts) → Each IsSpellable parts
parts_spellable parts is =
    let all : Each IsBare (((Left, 40 ∷ []) ∷ flat_map spelling parts) ++ (Right, 41 ∷ []) ∷ []) = subst (Each IsBare) (spelling_list parts) is in
    parts_each parts (each_left IsBare (flat_map spelling parts) ((Right, 41 ∷ []) ∷ []) all.1)

-- ---- words that are none

no_word : (name text : List ℕ) → kind_of_chunk name ≡ None → kind_of_chunk text ≡ Some Word → bytes_eq name text ≡ false
no_word name text none some = elim (bytes_eq name text) as (λ b. bytes_eq name text ≡ b → b ≡ false) [
  | true ↦ λ e. let same = (bytes_eq-Decides name text).0 e in let no : None ≡ Some Word = sym none ∙ ap kind_of_chunk same ∙ some in absurd (cc)
  | false ↦ λ e. refl
] refl

either : (a b : Bool) → a ≡ false → b ≡ false → (a || b) ≡ false
either a b e f = λ i. e i || f i

parts_wordless : (name : List ℕ) (parts : List Form) → Each (λ part. IsSpellable part → has_word name part ≡ false) parts → Each IsSpellable parts → list_any (has_word name) parts ≡ false
parts_wordless name [] each is = refl
parts_wordless name (part ∷ parts) each is = either (has_word name part) (list_any (has_word name) parts) (each.0 is.0) (parts_wordless name parts each.1 is.1)

-- a chunk that is no word doesn't occur
spellable_no_word : (name : List ℕ) → kind_of_chunk name ≡ None → (f : Form) → IsSpellable f → has_word name f ≡ false
unfolding has_word
spellable_no_word name none = induction (λ f. IsSpellable f → has_word name f ≡ false) (record {
  word = λ text is. let one : Each IsBare ((Word, text) ∷ []) = subst (Each IsBare) (spelling_word text) is in has_word-Word name text ∙ no_word name text none one.0.kind;
  variable = λ text is. fold-Variable Bool (has_word_step name) text;
  row = λ text is. fold-Row Bool (has_word_step name) text;
  numeral = λ text is. fold-Numeral Bool (has_word_step name) text;
  quoted = λ text is. fold-Quoted Bool (has_word_step name) text;
  list = λ parts each is. has_word-List name parts ∙ parts_wordless name parts each (parts_spellable parts is);
})

answer_is_no_chunk : kind_of_chunk (codes "!answer") ≡ None
unfolding kind_of_chunk is_numeral
answer_is_no_chunk = refl

-- the word of answer literals doesn't occur in a form that a text spells
pub spelled_no_answer : (c : ℕ) (text : List ℕ) (forms : List Located) (tokens : List Lexed) → SpellsAll c text forms tokens → Each (λ (located : Located). has_word (codes "!answer") located.form ≡ false) forms
spelled_no_answer c text forms tokens is =
    each_map (λ (located : Located). IsSpellable located.form) (λ (located : Located). has_word (codes "!answer") located.form ≡ false) (λ located. spellable_no_word (codes "!answer") answer_is_no_chunk located.form) forms (spelled_spellable c text forms tokens is)

-- ---- shapes

front_none : (start : ℕ) (xs ys : List ℕ) → first_of (map (λ at. start + at) xs ++ ys) ≡ None → (xs ≡ []) × (first_of ys ≡ None)
front_none start [] ys e = (refl, e)
front_none start (x ∷ xs) ys e = absurd (cc)

tops_faultless : (start : ℕ) (forms : List Form) → first_of (faults_from start (map as_top forms)) ≡ None → Each (λ form. first_form_fault form ≡ None) forms
tops_faultless start [] e = tt
tops_faultless start (f ∷ fs) e =
    let p = front_none start (form_faults f) (faults_from (start + token_count f) (map as_top fs)) e in
    (ap first_of p.0, tops_faultless (start + token_count f) fs p.1)

shaped_all : (forms : List Located) → Each (λ form. first_form_fault form ≡ None) (forms_of forms) → Each (λ (located : Located). has_word (codes "!answer") located.form ≡ false) forms → Each (λ (located : Located). is_shaped located.form ≡ true) forms
shaped_all [] faultless answerless = tt
shaped_all (f ∷ fs) faultless answerless = ((λ i. is_none (faultless.0 i) && not (answerless.0 i)), shaped_all fs faultless.1 answerless.1)

-- no form that a text spells has a fault of shape
pub spelled_faultless : (c : ℕ) (text : List ℕ) (forms : List Located) → Spells c text forms → Each (λ form. first_form_fault form ≡ None) (forms_of forms)
spelled_faultless c text forms is = tops_faultless 0 (forms_of forms) is.shaped

-- each form that a text spells has its shape
pub spelled_shaped : (c : ℕ) (text : List ℕ) (forms : List Located) → Spells c text forms → Each (λ (located : Located). is_shaped located.form ≡ true) forms
spelled_shaped c text forms is = shaped_all forms (spelled_faultless c text forms is) (spelled_no_answer c text forms is.tokens is.spelled)
