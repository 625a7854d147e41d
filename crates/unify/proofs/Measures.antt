-- How many variables are left, and what the search for a unifier keeps.
use Rattle.std.proofs.Common.{◌≡◌, ℕ, ◌+◌, ◌≤◌, ◌<◌, List, [], ◌∷◌, ◌++◌, map, Bool, true, false, ◌||◌, if◌then◌else◌, refl, sym, ap, ap₂, ◌∙◌, arith}
use Rattle.std.specs.List.{list_any}
use Rattle.std.specs.Str.{bytes_eq}
use Rattle.std.proofs.lemmas.Slice.Eq.{bytes_eq-Decides}
use Rattle.std.proofs.lemmas.List.Folds.{list_any-append}
use Rattle.sigma_base.specs.Lists.{Each, map_each}
use Rattle.kif_tree.specs.declared.form.Form.{Form}
use Rattle.kif_tree.specs.declared.form.Form.TheVariants as form
use Rattle.kif_tree.specs.declared.subst.Pair.{Pair}
use Rattle.kif_tree.specs.Terms.{Bytes, occurs, joined, variables}
use Rattle.kif_tree.specs.Subst.{Filling, bind, lookup, apply, compose}
use Rattle.kif_tree.specs.FormLaws.{induction}
use Rattle.kif_tree.proofs.SubstLaws.{bind-Word, bind-Variable, bind-Row, bind-Numeral, bind-Quoted, bind-List, apply-compose}
use Rattle.kif_tree.proofs.TermLaws.{occurs-Word, occurs-Variable, occurs-Row, occurs-Numeral, occurs-Quoted, occurs-List}
use Rattle.kif_tree.proofs.TermLaws.{variables-Word, variables-Variable, variables-Row, variables-Numeral, variables-Quoted, variables-List}
use Rattle.calculus.proofs.TruthLaws.{false_true}
use Rattle.unify.specs.Unifiers.{Unifies, IsMostGeneral, is_plain, ArePlain}
use Rattle.unify.specs.Difference.{Binds}
use Rattle.unify.proofs.PlainLaws.{plain-apply, plain-compose}
use Rattle.unify.proofs.Replacing.{one, absorbed, gone, within}

-- ---- the variables of a form

or_false : (b : Bool) → (b || false) ≡ b
or_false true = refl
or_false false = refl

among : (name : Bytes) (parts : List Form) → Each (λ f. occurs name f ≡ list_any (bytes_eq name) (variables f)) parts
    → list_any (occurs name) parts ≡ list_any (bytes_eq name) (joined (map variables parts))
among name [] each = refl
among name (f ∷ parts) each =
    ap₂ ◌||◌ each.0 (among name parts each.1) ∙ sym (list_any-append (bytes_eq name) (variables f) (joined (map variables parts)))

pub occurs-variables : (name : Bytes) (f : Form) → occurs name f ≡ list_any (bytes_eq name) (variables f)
occurs-variables name = induction (λ f. occurs name f ≡ list_any (bytes_eq name) (variables f)) (record {
  word = λ text. occurs-Word name text ∙ sym (ap (list_any (bytes_eq name)) (variables-Word text));
  variable = λ text. occurs-Variable name text ∙ sym (or_false (bytes_eq name text)) ∙ sym (ap (list_any (bytes_eq name)) (variables-Variable text));
  row = λ text. occurs-Row name text ∙ sym (ap (list_any (bytes_eq name)) (variables-Row text));
  numeral = λ text. occurs-Numeral name text ∙ sym (ap (list_any (bytes_eq name)) (variables-Numeral text));
  quoted = λ text. occurs-Quoted name text ∙ sym (ap (list_any (bytes_eq name)) (variables-Quoted text));
  list = λ parts each. occurs-List name parts ∙ among name parts each ∙ sym (ap (list_any (bytes_eq name)) (variables-List parts));
})

-- ---- counts

abbrev count : {X : Type 0} → (X → Bool) → List X → ℕ
count p [] = 0
count p (x ∷ xs) = (if p x then 1 else 0) + count p xs

one_le : (b c : Bool) → (c ≡ true → b ≡ true) → (if c then 1 else 0) ≤ (if b then 1 else 0)
one_le true true h = omega arith
one_le true false h = omega arith
one_le false true h = absurd (false_true (h refl))
one_le false false h = omega arith

count_le : {X : Type 0} (p q : X → Bool) → ((x : X) → q x ≡ true → p x ≡ true) → (xs : List X) → count q xs ≤ count p xs
count_le p q h [] = omega arith
count_le p q h (x ∷ xs) = omega (arith, one_le (p x) (q x) (h x), count_le p q h xs)

one_lt : (b c : Bool) → b ≡ true → c ≡ false → (if c then 1 else 0) < (if b then 1 else 0)
one_lt true false e f = omega arith
one_lt true true e f = absurd (false_true (sym f))
one_lt false c e f = absurd (false_true e)

count_lt : (p q : Bytes → Bool) → ((x : Bytes) → q x ≡ true → p x ≡ true) → (name : Bytes) → p name ≡ true → q name ≡ false
    → (xs : List Bytes) → list_any (bytes_eq name) xs ≡ true → count q xs < count p xs
count_lt p q h name was is [] here = absurd (false_true here)
count_lt p q h name was is (x ∷ xs) here = go (bytes_eq name x) refl (count_lt p q h name was is xs) here
  where
    go : (b : Bool) → bytes_eq name x ≡ b → (list_any (bytes_eq name) xs ≡ true → count q xs < count p xs) → (b || list_any (bytes_eq name) xs) ≡ true
        → (if q x then 1 else 0) + count q xs < (if p x then 1 else 0) + count p xs
    go true e rest found =
        let same : name ≡ x = (bytes_eq-Decides name x).0 e in
        omega (arith, one_lt (p x) (q x) (ap p (sym same) ∙ was) (ap q (sym same) ∙ is), count_le p q h xs)
    go false e rest found = omega (arith, one_le (p x) (q x) (h x), rest found)

-- how many of the names occur in one of the two forms
pub left_over : List Bytes → Form → Form → ℕ
left_over names f g = count (λ name. occurs name f || occurs name g) names

both_within : (a b c d t : Bool) → (a ≡ true → (c || t) ≡ true) → (b ≡ true → (d || t) ≡ true) → (t ≡ true → (c || d) ≡ true)
    → (a || b) ≡ true → (c || d) ≡ true
both_within a b true d t first second third h = refl
both_within a b false true t first second third h = refl
both_within a b false false true first second third h = third refl
both_within true b false false false first second third h = first refl
both_within false b false false false first second third h = second h

-- after the replacement no variable is there that was not there before
pub stays_within : (f g : Form) (name : Bytes) (term : Form) → Binds f g name term → (v : Bytes)
    → (occurs v (apply (one name term) f) || occurs v (apply (one name term) g)) ≡ true → (occurs v f || occurs v g) ≡ true
stays_within f g name term binds v =
    both_within (occurs v (apply (one name term) f)) (occurs v (apply (one name term) g)) (occurs v f) (occurs v g) (occurs v term)
    (within name v term f) (within name v term g) (binds.within v)

none_left : (a b : Bool) → a ≡ false → b ≡ false → (a || b) ≡ false
none_left a b e f = rw (e, f) refl

pub left_over_falls : (names : List Bytes) (f g : Form) (name : Bytes) (term : Form) → Binds f g name term → list_any (bytes_eq name) names ≡ true
    → left_over names (apply (one name term) f) (apply (one name term) g) < left_over names f g
unfolding left_over
left_over_falls names f g name term binds here =
    count_lt (λ v. occurs v f || occurs v g) (λ v. occurs v (apply (one name term) f) || occurs v (apply (one name term) g))
    (stays_within f g name term binds) name binds.here
    (none_left (occurs name (apply (one name term) f)) (occurs name (apply (one name term) g)) (gone name term binds.apart f) (gone name term binds.apart g))
    names here

-- ---- what the search keeps

-- The pairs made the first forms the present ones, each filling that makes the first forms equal is the pairs followed by itself, and each
-- variable that is left is one of the first forms.
pub record Reached (first second left right : Form) (pairs : List Pair) : Type 0 where
  pub left_is : left ≡ apply pairs first
  pub right_is : right ≡ apply pairs second
  pub absorbs : (u : Filling) → Unifies u first second → (f : Form) → bind u f ≡ bind u (apply pairs f)
  pub covers : (v : Bytes) → (occurs v left || occurs v right) ≡ true → list_any (bytes_eq v) (variables first ++ variables second) ≡ true
  pub plain : is_plain first ≡ true → is_plain second ≡ true → ArePlain pairs × ((is_plain left ≡ true) × (is_plain right ≡ true))

apply-nothing : (f : Form) → apply [] f ≡ f
apply-nothing = induction (λ f. apply [] f ≡ f) (record {
  word = λ text. bind-Word (lookup []) text;
  variable = λ text. bind-Variable (lookup []) text;
  row = λ text. bind-Row (lookup []) text;
  numeral = λ text. bind-Numeral (lookup []) text;
  quoted = λ text. bind-Quoted (lookup []) text;
  list = λ parts each. bind-List (lookup []) parts ∙ ap form.List (map_each (apply []) (λ f. f) parts each ∙ all_same parts);
})
  where
    all_same : (parts : List Form) → map (λ f. f) parts ≡ parts
    all_same [] = refl
    all_same (f ∷ parts) = ap (λ fs. f ∷ fs) (all_same parts)

pub reached_first : (first second left right : Form) → left ≡ first → right ≡ second → Reached first second left right []
reached_first first second left right left_same right_same = record {
  left_is = left_same ∙ sym (apply-nothing first);
  right_is = right_same ∙ sym (apply-nothing second);
  absorbs = λ u e f. ap (bind u) (sym (apply-nothing f));
  covers = λ v h.
      list_any-append (bytes_eq v) (variables first) (variables second)
      ∙ ap₂ ◌||◌ (sym (occurs-variables v first)) (sym (occurs-variables v second))
      ∙ ap₂ (λ f g. occurs v f || occurs v g) (sym left_same) (sym right_same) ∙ h;
  plain = λ p q. (tt, (ap is_plain left_same ∙ p, ap is_plain right_same ∙ q));
}

-- what makes the first forms equal makes the present ones equal
pub reached_both : (first second left right : Form) (pairs : List Pair) → Reached first second left right pairs
    → (u : Filling) → Unifies u first second → Unifies u left right
reached_both first second left right pairs reached u e =
    ap (bind u) reached.left_is ∙ sym (reached.absorbs u e first) ∙ e ∙ reached.absorbs u e second ∙ sym (ap (bind u) reached.right_is)

pub reached_next : (first second left right : Form) (pairs : List Pair) (name : Bytes) (term : Form) → Reached first second left right pairs
    → Binds left right name term
    → Reached first second (apply (one name term) left) (apply (one name term) right) (compose pairs (one name term))
reached_next first second left right pairs name term reached binds = record {
  left_is = ap (apply (one name term)) reached.left_is ∙ sym (apply-compose pairs (one name term) first);
  right_is = ap (apply (one name term)) reached.right_is ∙ sym (apply-compose pairs (one name term) second);
  absorbs = λ u e f.
      reached.absorbs u e f
      ∙ absorbed u name term (binds.forced u (reached_both first second left right pairs reached u e)) (apply pairs f)
      ∙ sym (ap (bind u) (apply-compose pairs (one name term) f));
  covers = λ v h. reached.covers v (stays_within left right name term binds v h);
  plain = λ p q.
      let kept = reached.plain p q in
      let next : ArePlain (one name term) = (binds.plain kept.1.0 kept.1.1, tt) in
      (plain-compose pairs (one name term) kept.0 next, (plain-apply (one name term) next left kept.1.0, plain-apply (one name term) next right kept.1.1));
}

pub finished : (first second left right : Form) (pairs : List Pair) → Reached first second left right pairs → left ≡ right → IsMostGeneral pairs first second
finished first second left right pairs reached same = record {
  equal = sym reached.left_is ∙ same ∙ reached.right_is;
  general = λ other e. (other, reached.absorbs (lookup other) e);
  absorbed = reached.absorbs;
}
