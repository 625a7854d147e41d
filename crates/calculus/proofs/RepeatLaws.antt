-- Dropping literals that equal earlier ones.
use Rattle.std.proofs.Common.{◌≡◌, [], ◌∷◌, filter, Bool, true, false, not, ◌&&◌, if◌then◌else◌, refl, sym, ap, ap₂, ◌∙◌}
use Rattle.std.proofs.lemmas.Bool.Decides.{same_from_decides}
use Rattle.std.specs.Bool.{Decides}
use Rattle.sigma_base.specs.Lists.{Each, each_filter}
use Rattle.kif_tree.specs.declared.clause.Literal.{Literal}
use Rattle.kif_tree.specs.SameLaws.{same-Decides}
use Rattle.kif_tree.specs.Subst.{Filling}
use Rattle.kif_tree.specs.Clauses.{Literals, bind_literal, bind_clause, same_sign, same_literal}
use Rattle.calculus.specs.Tidy.{without_repeats}
use Rattle.calculus.proofs.TruthLaws.{literals}

same_sign-itself : (b : Bool) → same_sign b b ≡ true
same_sign-itself true = refl
same_sign-itself false = refl

pub literal-itself : (l m : Literal) → l ≡ m → same_literal l m ≡ true
literal-itself l m e =
    ap (same_literal l) (sym e) ∙ ap₂ ◌&&◌ (same_sign-itself l.positive) ((same-Decides l.atom l.atom).1 refl)

pub literal-Decides : (l m : Literal) → Decides (same_literal l m) (l ≡ m)
literal-Decides l m = (literals l m, literal-itself l m)

abbrev other_than : Literal → Literal → Bool
other_than l m = not (same_literal l m)

-- ---- filters

filter_both : (p q : Literal → Bool) (xs : Literals) → filter p (filter q xs) ≡ filter (λ x. q x && p x) xs
filter_both p q [] = refl
filter_both p q (x ∷ xs) = by_case (q x) (filter_both p q xs)
  where
    by_case : (b : Bool) → filter p (filter q xs) ≡ filter (λ x. q x && p x) xs → filter p (if b then x ∷ filter q xs else filter q xs) ≡ (if (b && p x) then x ∷ filter (λ x. q x && p x) xs else filter (λ x. q x && p x) xs)
    by_case true rest = ap (λ (zs : Literals). if p x then x ∷ zs else zs) rest
    by_case false rest = rest

filter_alike : (p q : Literal → Bool) → ((x : Literal) → p x ≡ q x) → (xs : Literals) → filter p xs ≡ filter q xs
filter_alike p q e [] = refl
filter_alike p q e (x ∷ xs) = ap₂ (λ (b : Bool) (zs : Literals). if b then x ∷ zs else zs) (e x) (filter_alike p q e xs)

swap : (a b : Bool) → (a && b) ≡ (b && a)
swap true true = refl
swap true false = refl
swap false true = refl
swap false false = refl

filter_swap : (p q : Literal → Bool) (xs : Literals) → filter p (filter q xs) ≡ filter q (filter p xs)
filter_swap p q xs = filter_both p q xs ∙ filter_alike (λ x. q x && p x) (λ x. p x && q x) (λ x. swap (q x) (p x)) xs ∙ sym (filter_both q p xs)

-- the copies of what a test refuses are refused anyway
refused : (p : Literal → Bool) (x : Literal) → p x ≡ false → (y : Literal) → (other_than x y && p y) ≡ p y
refused p x e y = by_case (same_literal x y) refl
  where
    by_case : (b : Bool) → same_literal x y ≡ b → (not b && p y) ≡ p y
    by_case true h = sym (ap p (sym (literals x y h)) ∙ e)
    by_case false h = refl

without-filter : (p : Literal → Bool) (xs : Literals) → without_repeats (filter p xs) ≡ filter p (without_repeats xs)
without-filter p [] = refl
without-filter p (x ∷ xs) = by_case (p x) refl (without-filter p xs)
  where
    by_case : (b : Bool) → p x ≡ b → without_repeats (filter p xs) ≡ filter p (without_repeats xs)
        → without_repeats (if b then x ∷ filter p xs else filter p xs) ≡ (if b then x ∷ filter p (filter (other_than x) (without_repeats xs)) else filter p (filter (other_than x) (without_repeats xs)))
    by_case true e rest = ap (λ (zs : Literals). x ∷ zs) (ap (filter (other_than x)) rest ∙ filter_swap (other_than x) p (without_repeats xs))
    by_case false e rest =
        rest ∙ sym (filter_both p (other_than x) (without_repeats xs) ∙ filter_alike (λ y. other_than x y && p y) p (refused p x e) (without_repeats xs))

twice : (a : Bool) → (a && a) ≡ a
twice true = refl
twice false = refl

pub without-twice : (xs : Literals) → without_repeats (without_repeats xs) ≡ without_repeats xs
without-twice [] = refl
without-twice (x ∷ xs) =
    ap (λ (zs : Literals). x ∷ filter (other_than x) zs) (without-filter (other_than x) (without_repeats xs) ∙ ap (filter (other_than x)) (without-twice xs))
    ∙ ap (λ (zs : Literals). x ∷ zs) (filter_both (other_than x) (other_than x) (without_repeats xs) ∙ filter_alike (λ y. other_than x y && other_than x y) (other_than x) (λ y. twice (other_than x y)) (without_repeats xs))

pub each-without : (P : Literal → Type 0) (xs : Literals) → Each P xs → Each P (without_repeats xs)
each-without P [] h = tt
each-without P (x ∷ xs) h = (h.0, each_filter P (other_than x) (without_repeats xs) (each-without P xs h.1))

-- ---- a filling that another one undoes

module _ (there back : Filling) where
  abbrev pub Returns : Literal → Type 0
  Returns l = bind_literal back (bind_literal there l) ≡ l

  same-there : (l m : Literal) → Returns l → Returns m → same_literal (bind_literal there l) (bind_literal there m) ≡ same_literal l m
  same-there l m hl hm = same_from_decides (same_literal (bind_literal there l) (bind_literal there m)) (same_literal l m)
      ((λ h. sym hl ∙ ap (bind_literal back) (literals (bind_literal there l) (bind_literal there m) h) ∙ hm), (λ e. literal-itself (bind_literal there l) (bind_literal there m) (ap (bind_literal there) e)))
      (literal-Decides l m)

  filter-there : (l : Literal) → Returns l → (ms : Literals) → Each Returns ms → filter (other_than (bind_literal there l)) (bind_clause there ms) ≡ bind_clause there (filter (other_than l) ms)
  filter-there l hl [] each = refl
  filter-there l hl (m ∷ ms) each =
      ap₂ (λ (b : Bool) (zs : Literals). if not b then bind_literal there m ∷ zs else zs) (same-there l m hl each.0) (filter-there l hl ms each.1) ∙ go (same_literal l m) (filter (other_than l) ms)
    where
      go : (b : Bool) (zs : Literals) → (if not b then bind_literal there m ∷ bind_clause there zs else bind_clause there zs) ≡ bind_clause there (if not b then m ∷ zs else zs)
      go true zs = refl
      go false zs = refl

  pub without-there : (ls : Literals) → Each Returns ls → without_repeats (bind_clause there ls) ≡ bind_clause there (without_repeats ls)
  without-there [] each = refl
  without-there (l ∷ ls) each =
      ap (λ (zs : Literals). bind_literal there l ∷ filter (other_than (bind_literal there l)) zs) (without-there ls each.1)
      ∙ ap (λ (zs : Literals). bind_literal there l ∷ zs) (filter-there l each.0 (without_repeats ls) (each-without Returns ls each.1))

  pub returns-each : (ls : Literals) → bind_clause back (bind_clause there ls) ≡ ls → Each Returns ls
  returns-each [] e = tt
  returns-each (l ∷ ls) e =
      let here : bind_literal back (bind_literal there l) ≡ l = cc in
      let rest : bind_clause back (bind_clause there ls) ≡ ls = cc in
      (here, returns-each ls rest)

  pub returns-clause : (ls : Literals) → Each Returns ls → bind_clause back (bind_clause there ls) ≡ ls
  returns-clause [] h = refl
  returns-clause (l ∷ ls) h = ap₂ ◌∷◌ h.0 (returns-clause ls h.1)
