-- A text spells one list of forms at most.
use Rattle.std.proofs.Common.{◌≡◌, ℕ, suc, ◌+◌, List, [], ◌∷◌, ◌++◌, length, map, take, sym, ap, ◌∙◌, refl, subst, arith, append-nil}
use Rattle.std.proofs.lemmas.List.{map-append}
use Rattle.kif_tree.specs.declared.place.Located.{Located}
use Rattle.kif_reader.specs.Cut.{joined}
use Rattle.kif_reader.specs.Reading.{mark_len}
use Rattle.kif_reader.specs.Spelling.{Lexed, bare, BeginsAt, SpellsForm, SpellsForms, SpellsAll, Spells, Reads, tokens_of, spelling}
use Rattle.kif_reader.proofs.CutLaws.{cut_unique}
use Rattle.kif_reader.proofs.OneSpellingLaws.{one_spelling}

same_front : (xs ys a b : List Lexed) → length xs ≡ length ys → xs ++ a ≡ ys ++ b → (xs ≡ ys) × (a ≡ b)
same_front [] [] a b long e = (refl, e)
same_front [] (y ∷ ys) a b long e = absurd (omega arith)
same_front (x ∷ xs) [] a b long e = absurd (omega arith)
same_front (x ∷ xs) (y ∷ ys) a b long e =
    let h : x ≡ y = cc in
    let t : xs ++ a ≡ ys ++ b = cc in
    let r = same_front xs ys a b (omega arith) t in
    ((λ i. h i ∷ r.0 i), r.1)

bare_length : (xs : List Lexed) → length (map bare xs) ≡ length xs
bare_length [] = refl
bare_length (x ∷ xs) = ap suc (bare_length xs)

same_place : (k l m n : ℕ) (ts : List Lexed) → BeginsAt k l ts → BeginsAt m n ts → (k ≡ m) × (l ≡ n)
same_place k l m n [] is other = absurd is
same_place k l m n (t ∷ ts) is other = (is.line ∙ sym other.line, is.column ∙ sym other.column)

located_same : (c n : ℕ) (f g : Located) (xs ys a b : List Lexed) → SpellsForm c n f xs → SpellsForm c n g ys → xs ++ a ≡ ys ++ b → (f ≡ g) × (a ≡ b)
located_same c n f g xs ys a b is other e =
    let bares = (λ i. sym is.spelled i ++ map bare a) ∙ sym (map-append bare xs a) ∙ ap (map bare) e ∙ map-append bare ys b ∙ (λ i. other.spelled i ++ map bare b) in
    let one = one_spelling f.form g.form (map bare a) (map bare b) bares in
    let long : length xs ≡ length ys = sym (bare_length xs) ∙ ap length (is.spelled ∙ ap spelling one.0 ∙ sym other.spelled) ∙ bare_length ys in
    let front = same_front xs ys a b long e in
    let place = same_place f.place.line f.place.column g.place.line g.place.column ys (subst (BeginsAt f.place.line f.place.column) front.0 is.place) other.place in
    let number : f.place.form ≡ g.place.form = is.number_is ∙ sym other.number_is in
    let part : f.place.constituent ≡ g.place.constituent = is.constituent_is ∙ sym other.constituent_is in
    ((λ i. record { form = one.0 i; place = record { constituent = part i; form = number i; line = place.0 i; column = place.1 i } }), front.1)

none_none : (c n : ℕ) (g : Located) (xs a : List Lexed) → [] ≡ xs ++ a → SpellsForm c n g xs → ⊥
none_none c n g [] a e is = is.place
none_none c n g (x ∷ xs) a e is = absurd (cc)

forms_same : (c n : ℕ) (fs gs : List Located) (ts : List Lexed) → SpellsForms c n fs ts → SpellsForms c n gs ts → fs ≡ gs
forms_same c n [] [] ts is other = refl
forms_same c n [] (g ∷ gs) ts is other = absurd (none_none c n g other.0 other.1 (sym is ∙ other.2) other.3)
forms_same c n (f ∷ fs) [] ts is other = absurd (none_none c n f is.0 is.1 (sym other ∙ is.2) is.3)
forms_same c n (f ∷ fs) (g ∷ gs) ts is other =
    let one = located_same c n f g is.0 other.0 is.1 other.1 is.3 other.3 (sym is.2 ∙ other.2) in
    let rest = forms_same c (n + 1) fs gs other.1 (subst (SpellsForms c (n + 1) fs) one.1 is.4) other.4 in
    (λ i. one.0 i ∷ rest i)

-- a whole text has one list of tokens
pub tokens_unique : (text : List ℕ) (ts us : List Lexed) (b d : List ℕ) → Reads text ts b [] → Reads text us d [] → ts ≡ us
tokens_unique text ts us b d is other =
    let mark = take (mark_len text) text in
    let bytes = sym (append-nil (joined is.pieces)) ∙ sym is.cuts.whole ∙ other.cuts.whole ∙ append-nil (joined other.pieces) in
    is.is ∙ ap (tokens_of mark) (cut_unique is.pieces other.pieces is.cuts.stand other.cuts.stand bytes) ∙ sym other.is

pub spells_all_unique : (c : ℕ) (text : List ℕ) (fs gs : List Located) (ts us : List Lexed) → SpellsAll c text fs ts → SpellsAll c text gs us → (fs ≡ gs) × (ts ≡ us)
spells_all_unique c text fs gs ts us is other =
    let tokens = tokens_unique text ts us is.before other.before is.reads other.reads in
    (forms_same c 1 fs gs us (subst (SpellsForms c 1 fs) tokens is.spelled) other.spelled, tokens)

pub spells_unique : (c : ℕ) (text : List ℕ) (fs gs : List Located) → Spells c text fs → Spells c text gs → fs ≡ gs
spells_unique c text fs gs is other = (spells_all_unique c text fs gs is.tokens other.tokens is.spelled other.spelled).0
