-- A text has one first fault at most, and none where it is spelled.
use Rattle.std.proofs.Common.{◌≡◌, ℕ, ◌+◌, ◌-◌, true, false, cond, eqb, ltb, Option, Some, None, List, [], ◌∷◌, ◌++◌, ◌⊎◌, inl, inr, sym, ap, ◌∙◌, refl, subst, arith, append_assoc, append-nil}
use Rattle.std.specs.Prelude.{◌≢◌}
use Rattle.std.proofs.lemmas.Bool.Decides.{nat_tests}
use Rattle.std.specs.List.{slice_get}
use Rattle.kif_tree.specs.declared.place.Located.{Located}
use Rattle.kif_tree.specs.Shape.{first_forms_fault}
use Rattle.kif_reader.specs.Bytes.{IsPlace}
use Rattle.kif_reader.specs.Chunks.{◌>>=◌}
use Rattle.kif_reader.specs.Cut.{Piece, Lexeme, bytes_of, joined, Stand, IsToken, IsFault}
use Rattle.kif_reader.specs.Spelling.{Lexed, tokens_of, level, level_behind, Reads, forms_of, Spells, LexFault, NestFault, LeavesOpen, ShapeFault, FirstFault}
use Rattle.kif_reader.specs.declared.bytes.Spot.{Spot}
use Rattle.kif_reader.specs.declared.kinds.TokenKind.{TokenKind}
use Rattle.kif_reader.specs.declared.kinds.TokenKind.TheVariants.{Left, Right, Word, Variable, Row, Numeral, Quoted}
use Rattle.kif_reader.specs.declared.kinds.Fault.{Fault}
use Rattle.kif_reader.specs.declared.kinds.Fault.TheVariants as faults
use Rattle.kif_reader.specs.declared.kinds.ReadError.{ReadError}
use Rattle.kif_reader.specs.declared.kinds.ReadError.TheVariants as errors
use Rattle.kif_reader.proofs.CutLaws.{nothing_more}
use Rattle.kif_reader.proofs.UniqueLaws.{piece_unique}
use Rattle.kif_reader.proofs.FaultLaws.{no_piece, no_end, fault_same}
use Rattle.kif_reader.proofs.ReadLaws.{level-append}
use Rattle.kif_reader.proofs.ReadsOnLaws.{ReadsOn, reads_compare}
use Rattle.kif_reader.proofs.ReadingIsOneLaws.{tokens_unique, spells_all_unique}

-- ---- where reading ends

-- a reading that nests well, and that no piece more makes longer and keeps so
record Outcome (text : List ℕ) (tokens : List Lexed) (before rest : List ℕ) : Type 0 where
  depth : ℕ
  reads : Reads text tokens before rest
  nests : level 0 tokens ≡ Some depth
  final : (more : List Piece) (s : List ℕ) (m : ℕ) → rest ≡ joined more ++ s → Stand more s → level depth (tokens_of before more) ≡ Some m → more ≡ []

record Same (ts us : List Lexed) (b d r s : List ℕ) : Type 0 where
  tokens : ts ≡ us
  before : b ≡ d
  rest : r ≡ s

same_back : (ts us : List Lexed) (b d r s : List ℕ) → Same us ts d b s r → Same ts us b d r s
same_back ts us b d r s is = record { tokens = sym is.tokens; before = sym is.before; rest = sym is.rest }

goes_nowhere : (text : List ℕ) (ts us : List Lexed) (b d r s : List ℕ) → Outcome text ts b r → Outcome text us d s → ReadsOn ts us b d r s → Same ts us b d r s
goes_nowhere text ts us b d r s is other on =
    let deep : level is.depth (tokens_of b on.more) ≡ Some other.depth = sym (level-append 0 ts (tokens_of b on.more) ∙ ap (λ o. o >>= (λ m. level m (tokens_of b on.more))) is.nests) ∙ ap (level 0) (sym on.tokens) ∙ other.nests in
    let none = is.final on.more s other.depth on.rest on.stand deep in
    record {
      tokens = sym (on.tokens ∙ ap (λ l. ts ++ tokens_of b l) none ∙ append-nil ts);
      before = sym (on.taken ∙ ap (λ l. b ++ joined l) none ∙ append-nil b);
      rest = on.rest ∙ ap (λ l. joined l ++ s) none;
    }

outcomes_same : (text : List ℕ) (ts us : List Lexed) (b d r s : List ℕ) → Outcome text ts b r → Outcome text us d s → Same ts us b d r s
outcomes_same text ts us b d r s is other = ways (reads_compare text ts us b d r s is.reads other.reads)
  where
    ways : ReadsOn ts us b d r s ⊎ ReadsOn us ts d b s r → Same ts us b d r s
    ways (inl on) = goes_nowhere text ts us b d r s is other on
    ways (inr on) = same_back ts us b d r s (goes_nowhere text us ts d b s r other is on)

whole_outcome : (text : List ℕ) (tokens : List Lexed) (before : List ℕ) (depth : ℕ) → Reads text tokens before [] → level 0 tokens ≡ Some depth → Outcome text tokens before []
whole_outcome text tokens before depth reads nests = record { depth = depth; reads = reads; nests = nests; final = λ more s m e stand _. nothing_more more s e stand }

pub lex_final : (fault : Fault) (inner rest : List ℕ) → IsFault fault inner rest → (more : List Piece) (s : List ℕ) → inner ++ rest ≡ joined more ++ s → Stand more s → more ≡ []
lex_final fault inner rest met [] s e stand = refl
lex_final fault inner rest met (p ∷ ps) s e stand = absurd (no_piece fault inner rest p (joined ps ++ s) met stand.0 (e ∙ append_assoc (bytes_of p) (joined ps) s))

lex_outcome : (fault : Fault) (line column : ℕ) (text : List ℕ) (is : LexFault fault line column text) → Outcome text is.tokens is.before (is.inner ++ is.rest)
lex_outcome fault line column text is = record { depth = is.depth; reads = is.reads; nests = is.nests; final = λ more s m e stand _. lex_final fault is.inner is.rest is.met more s e stand }

-- ---- parentheses that may not stand where they do

data Paren : Type 0 where
  Stray : Paren
  Deep : Paren

abbrev byte_of : Paren → ℕ
byte_of Stray = 41
byte_of Deep = 40

abbrev depth_of : Paren → ℕ
depth_of Stray = 0
depth_of Deep = 200

abbrev kind_of : Paren → TokenKind
kind_of Stray = Right
kind_of Deep = Left

abbrev paren_error : Paren → Spot → ReadError
paren_error Stray spot = errors.StrayClose spot
paren_error Deep spot = errors.TooDeep spot

is_paren : (paren : Paren) (follow : List ℕ) → IsToken (kind_of paren) (byte_of paren ∷ []) follow
is_paren Stray follow = refl
is_paren Deep follow = refl

blocks : (paren : Paren) (token : Lexed) (tokens : List Lexed) (m : ℕ) → token.kind ≡ kind_of paren → level (depth_of paren) (token ∷ tokens) ≡ Some m → ⊥
blocks Stray token tokens m kind e = let no : None ≡ Some m = ap (λ k. level_behind k 0 >>= (λ n. level n tokens)) (sym kind) ∙ e in absurd (cc)
blocks Deep token tokens m kind e = let no : None ≡ Some m = ap (λ k. level_behind k 200 >>= (λ n. level n tokens)) (sym kind) ∙ e in absurd (cc)

paren_same : (p q : Paren) → byte_of p ≡ byte_of q → p ≡ q
paren_same Stray Stray e = refl
paren_same Stray Deep e = absurd (omega (arith, e))
paren_same Deep Stray e = absurd (omega (arith, e))
paren_same Deep Deep e = refl

abbrev ParenFault : Paren → ℕ → ℕ → List ℕ → Type 0
ParenFault paren line column text = NestFault (depth_of paren) (byte_of paren) line column text

nest_final : (paren : Paren) (before rest : List ℕ) (more : List Piece) (s : List ℕ) (m : ℕ) → byte_of paren ∷ rest ≡ joined more ++ s → Stand more s → level (depth_of paren) (tokens_of before more) ≡ Some m → more ≡ []
nest_final paren before rest [] s m e stand deep = refl
nest_final paren before rest (p ∷ ps) s m e stand deep =
    let one = piece_unique (Lexeme (kind_of paren) (byte_of paren ∷ [])) p rest (joined ps ++ s) (is_paren paren rest) stand.0 (e ∙ append_assoc (bytes_of p) (joined ps) s) in
    absurd (blocks paren (record { kind = kind_of paren; bytes = byte_of paren ∷ []; before = before }) (tokens_of (before ++ byte_of paren ∷ []) ps) m refl (ap (λ q. level (depth_of paren) (tokens_of before (q ∷ ps))) one.0 ∙ deep))

nest_outcome : (paren : Paren) (line column : ℕ) (text : List ℕ) (is : ParenFault paren line column text) → Outcome text is.tokens is.before (byte_of paren ∷ is.rest)
nest_outcome paren line column text is = record { depth = depth_of paren; reads = is.reads; nests = is.nests; final = nest_final paren is.before is.rest }

-- ---- lists that stay open

-- one level deeper all the way
some_up : (n a b : ℕ) → Some n ≡ Some a → Some (n + 1) ≡ Some b → b ≡ a + 1
some_up n a b e f = let l : n ≡ a = cc in let r : n + 1 ≡ b = cc in omega (arith, l, r)

behind_up : (kind : TokenKind) (n a b : ℕ) → level_behind kind n ≡ Some a → level_behind kind (n + 1) ≡ Some b → b ≡ a + 1
behind_up Left n a b = elim (ltb n 200) as (λ t. cond t (Some (n + 1)) None ≡ Some a → cond (ltb (n + 1) 200) (Some (n + 1 + 1)) None ≡ Some b → b ≡ a + 1) [
  | true ↦ elim (ltb (n + 1) 200) as (λ t. Some (n + 1) ≡ Some a → cond t (Some (n + 1 + 1)) None ≡ Some b → b ≡ a + 1) [
    | true ↦ λ e f. some_up (n + 1) a b e f
    | false ↦ λ e f. absurd (cc)
  ]
  | false ↦ λ e f. absurd (cc)
]
behind_up Right n a b = elim (eqb n 0) as (λ t. eqb n 0 ≡ t → cond t None (Some (n - 1)) ≡ Some a → cond (eqb (n + 1) 0) None (Some (n + 1 - 1)) ≡ Some b → b ≡ a + 1) [
  | true ↦ λ t e f. absurd (cc)
  | false ↦ λ t. elim (eqb (n + 1) 0) as (λ t. Some (n - 1) ≡ Some a → cond t None (Some (n + 1 - 1)) ≡ Some b → b ≡ a + 1) [
    | true ↦ λ e f. absurd (cc)
    | false ↦ λ e f. let l : n - 1 ≡ a = cc in let r : n + 1 - 1 ≡ b = cc in grind (arith, nat_tests, t, l, r)
  ]
] refl
behind_up Word n a b = some_up n a b
behind_up Variable n a b = some_up n a b
behind_up Row n a b = some_up n a b
behind_up Numeral n a b = some_up n a b
behind_up Quoted n a b = some_up n a b

up_step : (ts : List Lexed) (k j : ℕ) (o p : Option ℕ) → ((a b : ℕ) → o ≡ Some a → p ≡ Some b → b ≡ a + 1) → ((a : ℕ) → level a ts ≡ Some k → level (a + 1) ts ≡ Some j → j ≡ k + 1) → (o >>= (λ m. level m ts)) ≡ Some k → (p >>= (λ m. level m ts)) ≡ Some j → j ≡ k + 1
up_step ts k j None p up on e f = absurd (cc)
up_step ts k j (Some a) None up on e f = absurd (cc)
up_step ts k j (Some a) (Some b) up on e f = on a e (subst (λ b. level b ts ≡ Some j) (up a b refl refl) f)

level_up : (ts : List Lexed) (n k j : ℕ) → level n ts ≡ Some k → level (n + 1) ts ≡ Some j → j ≡ k + 1
level_up [] n k j e f = some_up n k j e f
level_up (t ∷ ts) n k j e f = up_step ts k j (level_behind t.kind n) (level_behind t.kind (n + 1)) (λ a b. behind_up t.kind n a b) (λ a. level_up ts a k j) e f

-- a front of tokens that nest well nests well
level_front : (ts us : List Lexed) (n k : ℕ) → level n (ts ++ us) ≡ Some k → (m : ℕ) × (level n ts ≡ Some m)
level_front ts us n k e = front (level n ts) (sym (level-append n ts us) ∙ e)
  where
    front : (o : Option ℕ) → (o >>= (λ m. level m us)) ≡ Some k → (m : ℕ) × (o ≡ Some m)
    front None e = absurd (cc)
    front (Some m) e = (m, refl)

-- behind a list that stays open nothing is closed
never_balanced : (closed mine rest : List Lexed) (x : Lexed) (depth : ℕ) → level 0 closed ≡ Some 0 → x.kind ≡ Left → level 0 (mine ++ rest) ≡ Some depth → level 0 (closed ++ x ∷ mine) ≡ Some 0 → ⊥
never_balanced closed mine rest x depth balanced opens unclosed again =
    let low = level_front mine rest 0 depth unclosed in
    let high : level (0 + 1) mine ≡ Some 0 = ap (λ k. level_behind k 0 >>= (λ m. level m mine)) (sym opens) ∙ ap (λ o. o >>= (λ m. level m (x ∷ mine))) (sym balanced) ∙ sym (level-append 0 closed (x ∷ mine)) ∙ again in
    let up = level_up mine 0 low.0 0 low.1 high in
    absurd (omega (arith, up))

-- of two places in a list one comes first
data Splits (xs ys a b : List Lexed) (x y : Lexed) : Type 0 where
  Here : xs ≡ ys → x ≡ y → Splits xs ys a b x y
  Before : (more : List Lexed) → ys ≡ xs ++ x ∷ more → a ≡ more ++ y ∷ b → Splits xs ys a b x y
  Behind : (more : List Lexed) → xs ≡ ys ++ y ∷ more → b ≡ more ++ x ∷ a → Splits xs ys a b x y

splits : (xs ys a b : List Lexed) (x y : Lexed) → xs ++ x ∷ a ≡ ys ++ y ∷ b → Splits xs ys a b x y
splits [] [] a b x y e = Here refl cc
splits [] (z ∷ ys) a b x y e = let h : x ≡ z = cc in Before ys (ap (λ w. w ∷ ys) (sym h)) cc
splits (z ∷ xs) [] a b x y e = let h : y ≡ z = cc in Behind xs (ap (λ w. w ∷ xs) (sym h)) cc
splits (z ∷ xs) (w ∷ ys) a b x y e = let h : z ≡ w = cc in let t : xs ++ x ∷ a ≡ ys ++ y ∷ b = cc in more (splits xs ys a b x y t) h
  where
    more : Splits xs ys a b x y → z ≡ w → Splits (z ∷ xs) (w ∷ ys) a b x y
    more (Here f g) h = Here (λ i. h i ∷ f i) g
    more (Before m f g) h = Before m (λ i. sym h i ∷ f i) g
    more (Behind m f g) h = Behind m (λ i. h i ∷ f i) g

-- ---- the cause of an error

pub spot_same : (a b : Spot) (x y : List ℕ) → IsPlace a.line a.column x → IsPlace b.line b.column y → x ≡ y → a ≡ b
spot_same a b x y is other e =
    let place : IsPlace b.line b.column x = subst (IsPlace b.line b.column) (sym e) other in
    let line : a.line ≡ b.line = is.line ∙ sym place.line in
    let column : a.column ≡ b.column = is.column ∙ sym place.column in
    (λ i. record { line = line i; column = column i })

abbrev lex_error : Fault → Spot → ReadError
lex_error faults.BadByte spot = errors.BadByte spot
lex_error faults.OpenString spot = errors.OpenString spot
lex_error faults.BadEscape spot = errors.BadEscape spot
lex_error faults.BadWord spot = errors.BadWord spot

data Cause (c : ℕ) (text : List ℕ) (e : ReadError) : Type 0 where
  Lex : (fault : Fault) (spot : Spot) → e ≡ lex_error fault spot → LexFault fault spot.line spot.column text → Cause c text e
  Nest : (paren : Paren) (spot : Spot) → e ≡ paren_error paren spot → ParenFault paren spot.line spot.column text → Cause c text e
  Unclosed : (spot : Spot) → e ≡ errors.OpenList spot → LeavesOpen spot.line spot.column text → Cause c text e
  Shape : (spot : Spot) → e ≡ errors.LogicShape spot → ShapeFault c spot.line spot.column text → Cause c text e

cause : (c : ℕ) (text : List ℕ) (e : ReadError) → FirstFault c text e → e ≢ errors.NoMemory → Cause c text e
cause c text (errors.BadByte spot) is real = Lex faults.BadByte spot refl is
cause c text (errors.OpenString spot) is real = Lex faults.OpenString spot refl is
cause c text (errors.OpenList spot) is real = Unclosed spot refl is
cause c text (errors.StrayClose spot) is real = Nest Stray spot refl is
cause c text (errors.BadEscape spot) is real = Lex faults.BadEscape spot refl is
cause c text (errors.BadWord spot) is real = Lex faults.BadWord spot refl is
cause c text (errors.TooDeep spot) is real = Nest Deep spot refl is
cause c text (errors.LogicShape spot) is real = Shape spot refl is
cause c text errors.NoMemory is real = absurd (real refl)

-- ---- no two causes of different kinds

lex_whole : (text : List ℕ) (ts : List Lexed) (b : List ℕ) (depth : ℕ) (fault : Fault) (line column : ℕ) → Reads text ts b [] → level 0 ts ≡ Some depth → LexFault fault line column text → ⊥
lex_whole text ts b depth fault line column reads nests is =
    let same = outcomes_same text is.tokens ts is.before b (is.inner ++ is.rest) [] (lex_outcome fault line column text is) (whole_outcome text ts b depth reads nests) in
    no_end fault is.inner is.rest is.met same.rest

nest_whole : (text : List ℕ) (ts : List Lexed) (b : List ℕ) (depth : ℕ) (paren : Paren) (line column : ℕ) → Reads text ts b [] → level 0 ts ≡ Some depth → ParenFault paren line column text → ⊥
nest_whole text ts b depth paren line column reads nests is =
    let same = outcomes_same text is.tokens ts is.before b (byte_of paren ∷ is.rest) [] (nest_outcome paren line column text is) (whole_outcome text ts b depth reads nests) in
    let no = same.rest in
    absurd (cc)

lex_nest : (text : List ℕ) (fault : Fault) (line column : ℕ) (paren : Paren) (other_line other_column : ℕ) → LexFault fault line column text → ParenFault paren other_line other_column text → ⊥
lex_nest text fault line column paren other_line other_column is other =
    let same = outcomes_same text is.tokens other.tokens is.before other.before (is.inner ++ is.rest) (byte_of paren ∷ other.rest) (lex_outcome fault line column text is) (nest_outcome paren other_line other_column text other) in
    no_piece fault is.inner is.rest (Lexeme (kind_of paren) (byte_of paren ∷ [])) other.rest is.met (is_paren paren other.rest) same.rest

open_balanced : (text : List ℕ) (ts : List Lexed) (b : List ℕ) (line column : ℕ) → Reads text ts b [] → level 0 ts ≡ Some 0 → LeavesOpen line column text → ⊥
open_balanced text ts b line column reads nests is =
    let deep : Some 0 ≡ Some (1 + is.depth) = sym nests ∙ ap (level 0) (tokens_unique text ts (is.closed ++ is.outermost ∷ is.inner) b is.before reads is.reads) ∙ is.nests in
    let no : 0 ≡ 1 + is.depth = cc in
    absurd (omega (arith, no))

-- ---- causes of one kind are one

lex_lex : (text : List ℕ) (f g : Fault) (x y : Spot) → LexFault f x.line x.column text → LexFault g y.line y.column text → lex_error f x ≡ lex_error g y
lex_lex text f g x y is other =
    let same = outcomes_same text is.tokens other.tokens is.before other.before (is.inner ++ is.rest) (other.inner ++ other.rest) (lex_outcome f x.line x.column text is) (lex_outcome g y.line y.column text other) in
    let one = fault_same f g is.inner other.inner is.rest other.rest is.met other.met same.rest in
    let spot = spot_same x y (is.before ++ is.inner) (other.before ++ other.inner) is.place other.place (λ i. same.before i ++ one.inner i) in
    (λ i. lex_error (one.fault i) (spot i))

nest_nest : (text : List ℕ) (p q : Paren) (x y : Spot) → ParenFault p x.line x.column text → ParenFault q y.line y.column text → paren_error p x ≡ paren_error q y
nest_nest text p q x y is other =
    let same = outcomes_same text is.tokens other.tokens is.before other.before (byte_of p ∷ is.rest) (byte_of q ∷ other.rest) (nest_outcome p x.line x.column text is) (nest_outcome q y.line y.column text other) in
    let rest = same.rest in
    let byte : byte_of p ≡ byte_of q = cc in
    let paren = paren_same p q byte in
    let spot = spot_same x y is.before other.before is.place other.place same.before in
    (λ i. paren_error (paren i) (spot i))

open_open : (text : List ℕ) (x y : Spot) → LeavesOpen x.line x.column text → LeavesOpen y.line y.column text → x ≡ y
open_open text x y is other =
    ways (splits is.closed other.closed is.inner other.inner is.outermost other.outermost (tokens_unique text (is.closed ++ is.outermost ∷ is.inner) (other.closed ++ other.outermost ∷ other.inner) is.before other.before is.reads other.reads))
  where
    ways : Splits is.closed other.closed is.inner other.inner is.outermost other.outermost → x ≡ y
    ways (Here front at) = spot_same x y is.outermost.before other.outermost.before is.place other.place (ap (λ (t : Lexed). t.before) at)
    ways (Before more front behind) = absurd (never_balanced is.closed more (other.outermost ∷ other.inner) is.outermost is.depth is.balanced is.opens (ap (level 0) (sym behind) ∙ is.unclosed) (ap (level 0) (sym front) ∙ other.balanced))
    ways (Behind more front behind) = absurd (never_balanced other.closed more (is.outermost ∷ is.inner) other.outermost other.depth other.balanced other.opens (ap (level 0) (sym behind) ∙ other.unclosed) (ap (level 0) (sym front) ∙ is.balanced))

shape_shape : (c : ℕ) (text : List ℕ) (x y : Spot) → ShapeFault c x.line x.column text → ShapeFault c y.line y.column text → x ≡ y
shape_shape c text x y is other =
    let one = spells_all_unique c text is.forms other.forms is.tokens other.tokens is.spelled other.spelled in
    let numbers : Some is.number ≡ Some other.number = sym is.first ∙ ap (λ l. first_forms_fault (forms_of l)) one.0 ∙ other.first in
    let number : is.number ≡ other.number = cc in
    let tokens : Some is.token ≡ Some other.token = sym is.stands ∙ (λ i. slice_get (one.1 i) (number i)) ∙ other.stands in
    let token : is.token ≡ other.token = cc in
    spot_same x y is.token.before other.token.before is.place other.place (ap (λ (t : Lexed). t.before) token)

shape_spells : (c : ℕ) (text : List ℕ) (fs : List Located) (line column : ℕ) → Spells c text fs → ShapeFault c line column text → ⊥
shape_spells c text fs line column is other =
    let one = spells_all_unique c text fs other.forms is.tokens other.tokens is.spelled other.spelled in
    let no : None ≡ Some other.number = sym is.shaped ∙ ap (λ l. first_forms_fault (forms_of l)) one.0 ∙ other.first in
    absurd (cc)

-- ---- the laws

no_cause : (c : ℕ) (text : List ℕ) (fs : List Located) (e : ReadError) → Spells c text fs → Cause c text e → ⊥
no_cause c text fs e is (Lex fault spot _ met) = lex_whole text is.tokens is.spelled.before 0 fault spot.line spot.column is.spelled.reads is.spelled.nests met
no_cause c text fs e is (Nest paren spot _ met) = nest_whole text is.tokens is.spelled.before 0 paren spot.line spot.column is.spelled.reads is.spelled.nests met
no_cause c text fs e is (Unclosed spot _ met) = open_balanced text is.tokens is.spelled.before spot.line spot.column is.spelled.reads is.spelled.nests met
no_cause c text fs e is (Shape spot _ met) = shape_spells c text fs spot.line spot.column is met

-- a text that is spelled has no fault
pub spells_no_fault : (c : ℕ) (text : List ℕ) (fs : List Located) (error : ReadError) → Spells c text fs → FirstFault c text error → error ≢ errors.NoMemory → ⊥
spells_no_fault c text fs error is fault real = no_cause c text fs error is (cause c text error fault real)

causes_same : (c : ℕ) (text : List ℕ) (e f : ReadError) → Cause c text e → Cause c text f → e ≡ f
causes_same c text e f (Lex fault spot is met) (Lex fault' spot' is' met') = is ∙ lex_lex text fault fault' spot spot' met met' ∙ sym is'
causes_same c text e f (Lex fault spot is met) (Nest paren spot' is' met') = absurd (lex_nest text fault spot.line spot.column paren spot'.line spot'.column met met')
causes_same c text e f (Lex fault spot is met) (Unclosed spot' is' met') = absurd (lex_whole text (met'.closed ++ met'.outermost ∷ met'.inner) met'.before (1 + met'.depth) fault spot.line spot.column met'.reads met'.nests met)
causes_same c text e f (Lex fault spot is met) (Shape spot' is' met') = absurd (lex_whole text met'.tokens met'.spelled.before 0 fault spot.line spot.column met'.spelled.reads met'.spelled.nests met)
causes_same c text e f (Nest paren spot is met) (Lex fault' spot' is' met') = absurd (lex_nest text fault' spot'.line spot'.column paren spot.line spot.column met' met)
causes_same c text e f (Nest paren spot is met) (Nest paren' spot' is' met') = is ∙ nest_nest text paren paren' spot spot' met met' ∙ sym is'
causes_same c text e f (Nest paren spot is met) (Unclosed spot' is' met') = absurd (nest_whole text (met'.closed ++ met'.outermost ∷ met'.inner) met'.before (1 + met'.depth) paren spot.line spot.column met'.reads met'.nests met)
causes_same c text e f (Nest paren spot is met) (Shape spot' is' met') = absurd (nest_whole text met'.tokens met'.spelled.before 0 paren spot.line spot.column met'.spelled.reads met'.spelled.nests met)
causes_same c text e f (Unclosed spot is met) (Lex fault' spot' is' met') = absurd (lex_whole text (met.closed ++ met.outermost ∷ met.inner) met.before (1 + met.depth) fault' spot'.line spot'.column met.reads met.nests met')
causes_same c text e f (Unclosed spot is met) (Nest paren' spot' is' met') = absurd (nest_whole text (met.closed ++ met.outermost ∷ met.inner) met.before (1 + met.depth) paren' spot'.line spot'.column met.reads met.nests met')
causes_same c text e f (Unclosed spot is met) (Unclosed spot' is' met') = is ∙ ap errors.OpenList (open_open text spot spot' met met') ∙ sym is'
causes_same c text e f (Unclosed spot is met) (Shape spot' is' met') = absurd (open_balanced text met'.tokens met'.spelled.before spot.line spot.column met'.spelled.reads met'.spelled.nests met)
causes_same c text e f (Shape spot is met) (Lex fault' spot' is' met') = absurd (lex_whole text met.tokens met.spelled.before 0 fault' spot'.line spot'.column met.spelled.reads met.spelled.nests met')
causes_same c text e f (Shape spot is met) (Nest paren' spot' is' met') = absurd (nest_whole text met.tokens met.spelled.before 0 paren' spot'.line spot'.column met.spelled.reads met.spelled.nests met')
causes_same c text e f (Shape spot is met) (Unclosed spot' is' met') = absurd (open_balanced text met.tokens met.spelled.before spot'.line spot'.column met.spelled.reads met.spelled.nests met')
causes_same c text e f (Shape spot is met) (Shape spot' is' met') = is ∙ ap errors.LogicShape (shape_shape c text spot spot' met met') ∙ sym is'

-- a text has one first fault
pub fault_unique : (c : ℕ) (text : List ℕ) (e f : ReadError) → FirstFault c text e → FirstFault c text f → e ≢ errors.NoMemory → f ≢ errors.NoMemory → e ≡ f
fault_unique c text e f is other real real' = causes_same c text e f (cause c text e is real) (cause c text f other real')
