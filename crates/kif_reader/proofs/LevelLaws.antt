-- Tokens of whole forms leave the level as it is, and each list that is open adds one; so it is from every smaller level too.
use Rattle.std.proofs.Common.{◌≡◌, ℕ, ◌+◌, ◌-◌, ◌<◌, ◌≤◌, Bool, true, false, cond, eqb, ltb, Option, Some, None, List, [], ◌∷◌, ◌++◌, length, map, sym, ap, ◌∙◌, refl, subst, arith}
use Rattle.std.specs.List.{flat_map}
use Rattle.std.proofs.lemmas.List.{map-append}
use Rattle.std.proofs.lemmas.Option.{same_Some}
use Rattle.std.proofs.lemmas.Bool.{lt-ltb}
use Rattle.std.proofs.lemmas.Bool.Decides.{nat_tests}
use Rattle.sigma_base.specs.Lists.{Each}
use Rattle.kif_tree.specs.declared.form.Form.{Form}
use Rattle.kif_tree.specs.declared.place.Located.{Located}
use Rattle.kif_tree.specs.FormLaws.{induction}
use Rattle.kif_reader.specs.Bytes.{IsPlace}
use Rattle.kif_reader.specs.Chunks.{◌>>=◌}
use Rattle.kif_reader.specs.Spelling.{Lexed, Spelled, bare, level, level_behind, spelling, SpellsForms}
use Rattle.kif_reader.specs.Steps.{SpellsOpen, SpellsOpens}
use Rattle.kif_reader.specs.declared.kinds.Open.{Open}
use Rattle.kif_reader.specs.declared.kinds.TokenKind.{TokenKind}
use Rattle.kif_reader.specs.declared.kinds.TokenKind.TheVariants.{Left, Right}
use Rattle.kif_reader.proofs.SpellingLaws.{spelling_word, spelling_variable, spelling_row, spelling_numeral, spelling_quoted, spelling_list}

-- the level behind tokens, whose places don't matter
abbrev pub bare_level : ℕ → Spelled → Option ℕ
bare_level n [] = Some n
bare_level n (token ∷ tokens) = level_behind token.0 n >>= (λ m. bare_level m tokens)

pub same_level : (n : ℕ) (tokens : List Lexed) → bare_level n (map bare tokens) ≡ level n tokens
same_level n [] = refl
same_level n (t ∷ ts) = elim (level_behind t.kind n) as (λ o. (o >>= (λ m. bare_level m (map bare ts))) ≡ (o >>= (λ m. level m ts))) [ None ↦ refl | Some m ↦ same_level m ts ]

pub bare-append : (n : ℕ) (xs ys : Spelled) → bare_level n (xs ++ ys) ≡ (bare_level n xs >>= (λ m. bare_level m ys))
bare-append n [] ys = refl
bare-append n (x ∷ xs) ys = elim (level_behind x.0 n) as (λ o. (o >>= (λ m. bare_level m (xs ++ ys))) ≡ ((o >>= (λ m. bare_level m xs)) >>= (λ m. bare_level m ys))) [ None ↦ refl | Some m ↦ bare-append m xs ys ]

pub through : (o : Option ℕ) (f : ℕ → Option ℕ) (m : ℕ) → (o >>= f) ≡ Some m → (p : ℕ) × (o ≡ Some p) × (f p ≡ Some m)
through None f m e = absurd (cc)
through (Some p) f m e = (p, refl, e)

-- the tokens add so many levels to each level up to one from which they may stand
abbrev pub Rises : ℕ → Spelled → Type 0
Rises by xs = (n m k : ℕ) → bare_level n xs ≡ Some m → k ≤ n → bare_level k xs ≡ Some (k + by)

rises_append : (a b : ℕ) (xs ys : Spelled) → Rises a xs → Rises b ys → Rises (a + b) (xs ++ ys)
rises_append a b xs ys r s n m k e less =
    let mid = through (bare_level n xs) (λ p. bare_level p ys) m (sym (bare-append n xs ys) ∙ e) in
    let top = same_Some mid.0 (n + a) (sym mid.1 ∙ r n mid.0 n mid.1 (omega arith)) in
    let sum : k + a + b ≡ k + (a + b) = omega arith in
    bare-append k xs ys ∙ ap (λ o. o >>= (λ p. bare_level p ys)) (r n mid.0 k mid.1 less) ∙ s mid.0 m (k + a) mid.2 (omega (arith, top)) ∙ ap (λ j. Some j) sum

no_rise : (k : ℕ) → Some k ≡ Some (k + 0)
no_rise k = let same : k ≡ k + 0 = omega arith in ap (λ j. Some j) same

none_rise : Rises 0 []
none_rise n m k e less = no_rise k

when_true : (b : Bool) (x m : ℕ) → cond b (Some x) None ≡ Some m → b ≡ true
when_true true x m e = refl
when_true false x m e = absurd (cc)

left_rises : (bytes : List ℕ) → Rises 1 ((Left, bytes) ∷ [])
left_rises bytes n m k e less =
    let mid = through (level_behind Left n) (λ p. Some p) m e in
    let low : ltb n 200 ≡ true = when_true (ltb n 200) (n + 1) mid.0 mid.1 in
    let room : n < 200 = grind (arith, nat_tests, low) in
    ap (λ b. cond b (Some (k + 1)) None >>= (λ p. Some p)) (lt-ltb k 200 (omega (arith, room, less)))

closed_rises : (xs : Spelled) (bytes : List ℕ) → Rises 1 xs → Rises 0 (xs ++ (Right, bytes) ∷ [])
closed_rises xs bytes r n m k e less =
    let mid = through (bare_level n xs) (λ p. bare_level p ((Right, bytes) ∷ [])) m (sym (bare-append n xs ((Right, bytes) ∷ [])) ∙ e) in
    let some : eqb (k + 1) 0 ≡ false = grind (arith, nat_tests) in
    let back : k + 1 - 1 ≡ k + 0 = omega arith in
    bare-append k xs ((Right, bytes) ∷ []) ∙ ap (λ o. o >>= (λ p. bare_level p ((Right, bytes) ∷ []))) (r n mid.0 k mid.1 less) ∙ ap (λ b. cond b None (Some (k + 1 - 1)) >>= (λ p. Some p)) some ∙ ap (λ j. Some j) back

abbrev Flat : Form → Type 0
Flat f = Rises 0 (spelling f)

parts_rise : (parts : List Form) → Each Flat parts → Rises 0 (flat_map spelling parts)
parts_rise [] each = none_rise
parts_rise (part ∷ parts) each = rises_append 0 0 (spelling part) (flat_map spelling parts) each.0 (parts_rise parts each.1)

pub form_rises : (f : Form) → Rises 0 (spelling f)
form_rises = induction Flat (record {
  word = λ t. subst (Rises 0) (sym (spelling_word t)) (λ n m k e less. no_rise k);
  variable = λ t. subst (Rises 0) (sym (spelling_variable t)) (λ n m k e less. no_rise k);
  row = λ t. subst (Rises 0) (sym (spelling_row t)) (λ n m k e less. no_rise k);
  numeral = λ t. subst (Rises 0) (sym (spelling_numeral t)) (λ n m k e less. no_rise k);
  quoted = λ t. subst (Rises 0) (sym (spelling_quoted t)) (λ n m k e less. no_rise k);
  list = λ parts each. subst (Rises 0) (sym (spelling_list parts)) (closed_rises ((Left, 40 ∷ []) ∷ flat_map spelling parts) (41 ∷ []) (rises_append 1 0 ((Left, 40 ∷ []) ∷ []) (flat_map spelling parts) (left_rises (40 ∷ [])) (parts_rise parts each)));
})

all_rise : (parts : List Form) → Rises 0 (flat_map spelling parts)
all_rise [] = none_rise
all_rise (part ∷ parts) = rises_append 0 0 (spelling part) (flat_map spelling parts) (form_rises part) (all_rise parts)

forms_rise : (constituent number : ℕ) (forms : List Located) (tokens : List Lexed) → SpellsForms constituent number forms tokens → Rises 0 (map bare tokens)
forms_rise constituent number [] tokens all = subst (λ t. Rises 0 (map bare t)) (sym all) none_rise
forms_rise constituent number (f ∷ fs) tokens all =
    subst (λ t. Rises 0 (map bare t)) (sym all.2) (subst (Rises 0) (sym (map-append bare all.0 all.1))
    (rises_append 0 0 (map bare all.0) (map bare all.1) (subst (Rises 0) (sym all.3.spelled) (form_rises f.form)) (forms_rise constituent (number + 1) fs all.1 all.4)))

opens_rise : (lists : List Open) (tokens : List Lexed) → SpellsOpens lists tokens → Rises (length lists) (map bare tokens)
opens_rise [] tokens all = subst (λ t. Rises 0 (map bare t)) (sym all) none_rise
opens_rise (f ∷ fs) tokens all =
    let one = subst (Rises 1) (sym all.3.spelled) (rises_append 1 0 ((Left, 40 ∷ []) ∷ []) (flat_map spelling f.parts) (left_rises (40 ∷ [])) (all_rise f.parts)) in
    let both = rises_append 1 (length fs) (map bare all.0) (map bare all.1) one (opens_rise fs all.1 all.4) in
    let long : 1 + length fs ≡ length (f ∷ fs) = omega arith in
    subst (λ t. Rises (length (f ∷ fs)) (map bare t)) (sym all.2) (subst (Rises (length (f ∷ fs))) (sym (map-append bare all.0 all.1)) (subst (λ k. Rises k (map bare all.0 ++ map bare all.1)) long both))

-- the first token of a list that is open, and its other tokens
pub record OpensWith (list : Open) (tokens : List Lexed) : Type 0 where
  pub first : Lexed
  pub more : List Lexed
  pub is : tokens ≡ first ∷ more
  pub kind : first.kind ≡ Left
  pub parts : map bare more ≡ flat_map spelling list.parts
  pub place : IsPlace list.line list.column first.before

opens_with : (list : Open) (tokens : List Lexed) → SpellsOpen list tokens → OpensWith list tokens
opens_with list [] is = absurd is.place
opens_with list (t ∷ ts) is =
    let whole = is.spelled in
    let pair : bare t ≡ (Left, 40 ∷ []) = cc in
    record { first = t; more = ts; is = refl; kind = ap (λ (p : TokenKind × List ℕ). p.0) pair; parts = cc; place = is.place }

-- tokens of whole forms, then a `(` that no later token closes
pub record Unclosed (list : Open) (depth : ℕ) (closed opened : List Lexed) : Type 0 where
  pub outermost : Lexed
  pub inner : List Lexed
  pub split : opened ≡ outermost ∷ inner
  pub balanced : level 0 closed ≡ Some 0
  pub opens : outermost.kind ≡ Left
  pub unclosed : level 0 inner ≡ Some depth
  pub place : IsPlace list.line list.column outermost.before

behind_left : (kind : TokenKind) (tokens : List Lexed) (m : ℕ) → kind ≡ Left → (level_behind kind 0 >>= (λ p. level p tokens)) ≡ Some m → level 1 tokens ≡ Some m
behind_left kind tokens m is e = sym (ap (λ (k : TokenKind). level_behind k 0 >>= (λ p. level p tokens)) is) ∙ e

pub unclosed : (constituent : ℕ) (forms : List Located) (list : Open) (lists : List Open) (closed opened : List Lexed) (m : ℕ) → SpellsForms constituent 1 forms closed → SpellsOpens (list ∷ lists) opened → level 0 (closed ++ opened) ≡ Some m → Unclosed list (length lists) closed opened
unclosed constituent forms list lists closed opened m whole open_lists e =
    let bares = sym (bare-append 0 (map bare closed) (map bare opened)) ∙ ap (bare_level 0) (sym (map-append bare closed opened)) ∙ same_level 0 (closed ++ opened) ∙ e in
    let mid = through (bare_level 0 (map bare closed)) (λ p. bare_level p (map bare opened)) m bares in
    let flat = forms_rise constituent 1 forms closed whole 0 mid.0 0 mid.1 (omega arith) in
    let zero = same_Some mid.0 0 (sym mid.1 ∙ flat) in
    let with = opens_with list open_lists.0 open_lists.3 in
    let split : opened ≡ with.first ∷ with.more ++ open_lists.1 = open_lists.2 ∙ ap (λ t. t ++ open_lists.1) with.is in
    let inner = with.more ++ open_lists.1 in
    let from_left = behind_left with.first.kind inner m with.kind (ap (level 0) (sym split) ∙ sym (same_level 0 opened) ∙ ap (λ p. bare_level p (map bare opened)) (sym zero) ∙ mid.2) in
    let rises = rises_append 0 (length lists) (map bare with.more) (map bare open_lists.1) (subst (Rises 0) (sym with.parts) (all_rise list.parts)) (opens_rise lists open_lists.1 open_lists.4) in
    let same = map-append bare with.more open_lists.1 in
    let sum : 0 + (0 + length lists) ≡ length lists = omega arith in
    record {
      outermost = with.first;
      inner = inner;
      split = split;
      balanced = sym (same_level 0 closed) ∙ flat;
      opens = with.kind;
      unclosed = sym (same_level 0 inner) ∙ ap (bare_level 0) same ∙ rises 1 m 0 (ap (bare_level 1) (sym same) ∙ same_level 1 inner ∙ from_left) (omega arith) ∙ ap (λ k. Some k) sum;
      place = with.place;
    }
