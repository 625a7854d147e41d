-- The words of which forms tell something.
use Rattle.std.proofs.Common.{◌≡◌, ℕ, suc, zero, ◌+◌, ◌<◌, List, [], ◌∷◌, ◌++◌, length, get_or, take, true, refl, sym, ap, subst, ◌∙◌, arith, if◌then◌else◌}
use Rattle.std.specs.Prelude.{Option, Some, None, Contains}
use Rattle.std.specs.HashMap.{HashMap}
use Rattle.std.specs.List.{filter_map, cons_option}
use Rattle.std.proofs.lemmas.List.{take_more}
use Rattle.std.proofs.lemmas.List.Elements.{filter_map-append}
use Rattle.sigma_base.specs.Lists.{Each}
use Rattle.kif_tree.specs.Terms.{Bytes}
use Rattle.kif_tree.specs.declared.place.Located.{Located}
use Rattle.taxonomy.specs.declared.told.ChainKind.{ChainKind}
use Rattle.taxonomy.specs.declared.told.ChainKind.TheVariants as kinds
use Rattle.taxonomy.specs.Chains.{Chain, IsChain, Joins, OfKind}
use Rattle.taxonomy.specs.Told.{Link, links, told_link}
use Rattle.signatures.specs.declared.below.Below.{Below}
use Rattle.signatures.specs.Below.{may_lead, IsOpen, word_by_kind, word_by_link, arity_word}
use Rattle.signatures.specs.Layers.{Among}
use Rattle.signatures.specs.WordTables.{Key, IsTableOf, IsGoneThrough}
use Rattle.signatures.proofs.WordLaws.{among_here, among_later}
use Rattle.signatures.proofs.WordTableLaws.{table_of_more}

-- ---- a form more

one : (f : Located → Option Bytes) (located : Located) → filter_map f (located ∷ []) ≡ cons_option (f located) []
one f located = refl

append_none : (xs : List Bytes) → xs ++ [] ≡ xs
append_none [] = refl
append_none (x ∷ xs) = ap (λ ys. x ∷ ys) (append_none xs)

words_more : (f : Located → Option Bytes) (forms : List Located) (i : ℕ) (located : Located) → i < length forms → located ≡ get_or forms i located → filter_map f (take (i + 1) forms) ≡ filter_map f (take i forms) ++ cons_option (f located) []
words_more f forms i located lt is =
    ap (filter_map f) (take_more forms i located lt) ∙ filter_map-append f (take i forms) (get_or forms i located ∷ [])
    ∙ ap (λ (l : Located). filter_map f (take i forms) ++ cons_option (f l) []) (sym is)

pub words_skip : (f : Located → Option Bytes) (forms : List Located) (i : ℕ) (located : Located) → i < length forms → located ≡ get_or forms i located → f located ≡ None → filter_map f (take (i + 1) forms) ≡ filter_map f (take i forms)
words_skip f forms i located lt is none =
    words_more f forms i located lt is ∙ ap (λ (o : Option Bytes). filter_map f (take i forms) ++ cons_option o []) none ∙ append_none (filter_map f (take i forms))

pub words_one_more : (f : Located → Option Bytes) (forms : List Located) (i : ℕ) (located : Located) (word : Bytes) → i < length forms → located ≡ get_or forms i located → f located ≡ Some word → filter_map f (take (i + 1) forms) ≡ filter_map f (take i forms) ++ word ∷ []
words_one_more f forms i located word lt is some = words_more f forms i located lt is ∙ ap (λ (o : Option Bytes). filter_map f (take i forms) ++ cons_option o []) some

pub gone_skip : {V S : Type 0} (f : Located → Option Bytes) (R : Bytes → V → Type 0) (N : Bytes → Type 0) (before : List Bytes) (forms : List Located) (i : ℕ) (located : Located) (table : HashMap Key V S) → i < length forms
    → located ≡ get_or forms i located → f located ≡ None → IsTableOf R N (before ++ filter_map f (take i forms)) table → IsTableOf R N (before ++ filter_map f (take (i + 1) forms)) table
gone_skip f R N before forms i located table lt is none h = subst (λ (ws : List Bytes). IsTableOf R N (before ++ ws) table) (sym (words_skip f forms i located lt is none)) h

append_assoc : (xs ys zs : List Bytes) → xs ++ (ys ++ zs) ≡ (xs ++ ys) ++ zs
append_assoc [] ys zs = refl
append_assoc (x ∷ xs) ys zs = ap (λ ws. x ∷ ws) (append_assoc xs ys zs)

pub gone_more : {V S : Type 0} (f : Located → Option Bytes) (R : Bytes → V → Type 0) (N : Bytes → Type 0) (before : List Bytes) (forms : List Located) (i : ℕ) (located : Located) (old new : HashMap Key V S) (word text : Bytes) → i < length forms
    → located ≡ get_or forms i located → f located ≡ Some word → text ≡ word → IsTableOf R N (before ++ filter_map f (take i forms)) old → IsGoneThrough R N old new text → IsTableOf R N (before ++ filter_map f (take (i + 1) forms)) new
gone_more f R N before forms i located old new word text lt is some same h gone =
    let more : before ++ filter_map f (take (i + 1) forms) ≡ (before ++ filter_map f (take i forms)) ++ word ∷ [] =
    ap (λ (ws : List Bytes). before ++ ws) (words_one_more f forms i located word lt is some) ∙ append_assoc before (filter_map f (take i forms)) (word ∷ []) in
    subst (λ (ws : List Bytes). IsTableOf R N ws new) (sym more) (table_of_more R N (before ++ filter_map f (take i forms)) old new word h (subst (IsGoneThrough R N old new) same gone))

-- ---- words of told links

pub told_among : (f : Located → Option Bytes) (word : Bytes) (link : Link) → ((located : Located) → told_link located ≡ Some link → f located ≡ Some word) → (forms : List Located) → Contains (links forms) link → Among (filter_map f forms) word
told_among f word link gives [] (n, lt, is) = absurd (omega (arith, lt))
told_among f word link gives (located ∷ forms) h = go (told_link located) refl h (told_among f word link gives forms)
  where
    here : told_link located ≡ Some link → Among (filter_map f (located ∷ forms)) word
    here told = subst (λ (o : Option Bytes). Among (cons_option o (filter_map f forms)) word) (sym (gives located told)) (among_here (filter_map f forms) word word refl)

    later : Among (filter_map f forms) word → Among (filter_map f (located ∷ forms)) word
    later h = kept (f located)
      where
        kept : (o : Option Bytes) → Among (cons_option o (filter_map f forms)) word
        kept None = h
        kept (Some first) = among_later (filter_map f forms) word first h

    go : (o : Option Link) → told_link located ≡ o → Contains (cons_option o (links forms)) link → (Contains (links forms) link → Among (filter_map f forms) word) → Among (filter_map f (located ∷ forms)) word
    go None told h more = later (more h)
    go (Some first) told (zero, lt, is) more = here (told ∙ ap (λ (l : Link). Some l) is)
    go (Some first) told (suc n, lt, is) more = later (more (n, omega (arith, lt), is))

-- ---- words that may have an own arity

-- a word to which a relation chain leads
pub reached_among : (forms : List Located) (below : Below) (low high : Bytes) → Chain (links forms) kinds.Relation low high → Among (filter_map (arity_word below true) forms) high
reached_among forms below low high c = go c.chain low c.told c.is c.joins
  where
    here : (link : Link) → Contains (links forms) link → link.kind ≡ kinds.Relation → Among (filter_map (arity_word below true) forms) link.high
    here link told kind = told_among (arity_word below true) link.high link (λ located e. ap (word_by_link below) e ∙ ap (λ (k : ChainKind). word_by_kind below k link.low link.high) kind) forms told

    go : (chain : List Link) (low : Bytes) → Each (λ (link : Link). Contains (links forms) link) chain → IsChain kinds.Relation chain → Joins chain low high → Among (filter_map (arity_word below true) forms) high
    go [] low told is joins = absurd is
    go (link ∷ []) low told is joins = subst (Among (filter_map (arity_word below true) forms)) joins.1 (here link told.0 is.0)
    go (link ∷ next ∷ chain) low told is joins = go (next ∷ chain) link.high told.1 is.1 joins.1

open_at : (forms : List Located) (below : Below) (link : Link) → IsOpen forms below → Contains (links forms) link → link.kind ≡ kinds.Class → may_lead below link.high ≡ true → may_lead below link.low ≡ true
open_at [] below link open_all (n, lt, is) kind h = absurd (omega (arith, lt))
open_at (located ∷ forms) below link open_all told kind h = go (told_link located) refl told (λ later. open_at forms below link open_all.1 later kind h)
  where
    go : (o : Option Link) → told_link located ≡ o → Contains (cons_option o (links forms)) link → (Contains (links forms) link → may_lead below link.low ≡ true) → may_lead below link.low ≡ true
    go None e c more = more c
    go (Some first) e (zero, lt, is) more = open_all.0 link (e ∙ ap (λ (l : Link). Some l) is) kind h
    go (Some first) e (suc n, lt, is) more = more (n, omega (arith, lt), is)

leads : (forms : List Located) (below : Below) → IsOpen forms below → (low high : Bytes) (chain : List Link) → Each (λ (link : Link). Contains (links forms) link) chain → OfKind kinds.Class chain → Joins chain low high
    → may_lead below high ≡ true → may_lead below low ≡ true
leads forms below open_all low high [] told kind joins h = subst (λ (w : Bytes). may_lead below w ≡ true) (sym joins) h
leads forms below open_all low high (link ∷ chain) told kind joins h =
    subst (λ (w : Bytes). may_lead below w ≡ true) joins.0 (open_at forms below link open_all told.0 kind.0 (leads forms below open_all link.high high chain told.1 kind.1 joins.1 h))

-- an instance of a class that gives an arity
pub instance_among : (forms : List Located) (below : Below) → IsOpen forms below → (low high : Bytes) → may_lead below high ≡ true → Chain (links forms) kinds.Instance low high → Among (filter_map (arity_word below true) forms) low
instance_among forms below open_all low high h c = go c.chain c.told c.is c.joins
  where
    go : (chain : List Link) → Each (λ (link : Link). Contains (links forms) link) chain → IsChain kinds.Instance chain → Joins chain low high → Among (filter_map (arity_word below true) forms) low
    go [] told is joins = absurd is
    go (link ∷ chain) told is joins =
        told_among (arity_word below true) low link
        (λ located e. ap (word_by_link below) e ∙ ap (λ (k : ChainKind). word_by_kind below k link.low link.high) is.0
        ∙ ap (λ b. if b then Some link.low else None) (leads forms below open_all link.high high chain told.1 is.1 joins.1 h) ∙ ap (λ (w : Bytes). Some w) joins.0) forms told.0
