-- Forms without row variables whose lists have words at their heads stay so under plain fillings.
use Rattle.std.proofs.Common.{◌≡◌, ℕ, ◌<◌, length, get_or, List, [], ◌∷◌, map, Bool, true, false, ◌&&◌, if◌then◌else◌, refl, sym, ap, ap₂, ◌∙◌}
use Rattle.std.specs.List.{list_all}
use Rattle.std.specs.Str.{bytes_eq}
use Rattle.std.proofs.lemmas.List.Folds.{list_all_at}
use Rattle.sigma_base.specs.Lists.{Each, each_append}
use Rattle.kif_tree.specs.declared.form.Form.{Form, out-Form}
use Rattle.kif_tree.specs.declared.form.Form.TheVariants as form
use Rattle.kif_tree.specs.declared.form.Form.TheOpen.{Form-F}
use Rattle.kif_tree.specs.declared.subst.Pair.{Pair}
use Rattle.kif_tree.specs.Terms.{Bytes, has_no_row}
use Rattle.kif_tree.specs.Subst.{Filling, bind, lookup, apply, apply_pair, compose}
use Rattle.kif_tree.specs.FormLaws.{induction}
use Rattle.kif_tree.proofs.SubstLaws.{bind-Word, bind-Variable, bind-Row, bind-Numeral, bind-Quoted, bind-List, clean-bind}
use Rattle.kif_tree.proofs.TermLaws.{clean-parts, clean-Variable}
use Rattle.calculus.specs.Proper.{is_word_layer, has_word_heads}
use Rattle.calculus.proofs.TruthLaws.{both, false_true}
use Rattle.calculus_programs.specs.Shape.{is_any_word, begins_with_any_word}
use Rattle.calculus_programs.proofs.ShapeLaws.{is_word-Word, heads-List, heads_other}
use Rattle.unify.specs.Unifiers.{is_plain, ArePlain}

rowless_of : (f : Form) → is_plain f ≡ true → has_no_row f ≡ true
rowless_of f plain = (both (has_no_row f) (has_word_heads f) plain).0

headed_of : (f : Form) → is_plain f ≡ true → has_word_heads f ≡ true
headed_of f plain = (both (has_no_row f) (has_word_heads f) plain).1

no_list : (name : Bytes) (parts : List Form) → form.Variable name ≡ form.List parts → ⊥
no_list name parts e = let layers : Form-F.Variable name ≡ Form-F.List parts = sym (form.outs-Variable name) ∙ ap out-Form e ∙ form.outs-List parts in cc

pub plain-Variable : (name : Bytes) → is_plain (form.Variable name) ≡ true
plain-Variable name = ap₂ ◌&&◌ (clean-Variable true name) (heads_other (form.Variable name) (no_list name))

part_passes : (p : Form → Bool) (parts : List Form) (i : ℕ) (x : Form) → i < length parts → x ≡ get_or parts i x → list_all p parts ≡ true → p x ≡ true
part_passes p parts i x below is all = go (p x) refl
  where
    go : (b : Bool) → p x ≡ b → b ≡ true
    go true e = refl
    go false e = sym (list_all_at p parts i x below (ap p (sym is) ∙ e)) ∙ all

-- a part of a plain list is plain
pub plain-part : (parts : List Form) (i : ℕ) (x : Form) → i < length parts → x ≡ get_or parts i x → is_plain (form.List parts) ≡ true → is_plain x ≡ true
plain-part parts i x below is plain =
    let rowless : list_all has_no_row parts ≡ true = sym (clean-parts true parts) ∙ rowless_of (form.List parts) plain in
    let headed = both (begins_with_any_word parts) (list_all has_word_heads parts) (sym (heads-List parts) ∙ headed_of (form.List parts) plain) in
    ap₂ ◌&&◌ (part_passes has_no_row parts i x below is rowless) (part_passes has_word_heads parts i x below is headed.1)

-- ---- filling in

word-bind : (g : Filling) (f : Form) → is_any_word f ≡ true → is_any_word (bind g f) ≡ true
word-bind g = induction (λ f. is_any_word f ≡ true → is_any_word (bind g f) ≡ true) (record {
  word = λ text h. ap is_any_word (bind-Word g text) ∙ is_word-Word text;
  variable = λ text h. absurd (false_true (sym (ap is_word_layer (form.outs-Variable text)) ∙ h));
  row = λ text h. absurd (false_true (sym (ap is_word_layer (form.outs-Row text)) ∙ h));
  numeral = λ text h. absurd (false_true (sym (ap is_word_layer (form.outs-Numeral text)) ∙ h));
  quoted = λ text h. absurd (false_true (sym (ap is_word_layer (form.outs-Quoted text)) ∙ h));
  list = λ parts each h. absurd (false_true (sym (ap is_word_layer (form.outs-List parts)) ∙ h));
})

begins-bind : (g : Filling) (parts : List Form) → begins_with_any_word parts ≡ true → begins_with_any_word (map (bind g) parts) ≡ true
begins-bind g [] h = h
begins-bind g (head ∷ parts) h = word-bind g head h

heads_each : (g : Filling) (parts : List Form) → Each (λ x. has_word_heads x ≡ true → has_word_heads (bind g x) ≡ true) parts
    → list_all has_word_heads parts ≡ true → list_all has_word_heads (map (bind g) parts) ≡ true
heads_each g [] each h = refl
heads_each g (x ∷ parts) each h = let hs = both (has_word_heads x) (list_all has_word_heads parts) h in ap₂ ◌&&◌ (each.0 hs.0) (heads_each g parts each.1 hs.1)

heads-bind : (g : Filling) → ((name : Bytes) → has_word_heads (g name) ≡ true) → (f : Form) → has_word_heads f ≡ true → has_word_heads (bind g f) ≡ true
heads-bind g fills = induction (λ f. has_word_heads f ≡ true → has_word_heads (bind g f) ≡ true) (record {
  word = λ text h. ap has_word_heads (bind-Word g text) ∙ h;
  variable = λ text h. ap has_word_heads (bind-Variable g text) ∙ fills text;
  row = λ text h. ap has_word_heads (bind-Row g text) ∙ h;
  numeral = λ text h. ap has_word_heads (bind-Numeral g text) ∙ h;
  quoted = λ text h. ap has_word_heads (bind-Quoted g text) ∙ h;
  list = λ parts each h.
      let hs = both (begins_with_any_word parts) (list_all has_word_heads parts) (sym (heads-List parts) ∙ h) in
      ap has_word_heads (bind-List g parts) ∙ heads-List (map (bind g) parts) ∙ ap₂ ◌&&◌ (begins-bind g parts hs.0) (heads_each g parts each hs.1);
})

pub plain-bind : (g : Filling) → ((name : Bytes) → is_plain (g name) ≡ true) → (f : Form) → is_plain f ≡ true → is_plain (bind g f) ≡ true
plain-bind g fills f plain =
    ap₂ ◌&&◌ (clean-bind true g (λ name. rowless_of (g name) (fills name)) f (rowless_of f plain))
    (heads-bind g (λ name. headed_of (g name) (fills name)) f (headed_of f plain))

-- ---- pairs

pub plain-lookup : (pairs : List Pair) → ArePlain pairs → (name : Bytes) → is_plain (lookup pairs name) ≡ true
plain-lookup [] each name = plain-Variable name
plain-lookup (pair ∷ pairs) each name = go (bytes_eq pair.variable name) (lookup pairs name) (plain-lookup pairs each.1 name)
  where
    go : (b : Bool) (later : Form) → is_plain later ≡ true → is_plain (if b then pair.term else later) ≡ true
    go true later h = each.0
    go false later h = h

pub plain-apply : (pairs : List Pair) → ArePlain pairs → (f : Form) → is_plain f ≡ true → is_plain (apply pairs f) ≡ true
plain-apply pairs each = plain-bind (lookup pairs) (plain-lookup pairs each)

pub plain_pairs : (pairs next : List Pair) → ArePlain pairs → ArePlain next → ArePlain (map (apply_pair next) pairs)
plain_pairs [] next each more = tt
plain_pairs (pair ∷ pairs) next each more = (plain-apply next more pair.term each.0, plain_pairs pairs next each.1 more)

pub plain-compose : (pairs next : List Pair) → ArePlain pairs → ArePlain next → ArePlain (compose pairs next)
plain-compose pairs next each more =
    each_append (λ (pair : Pair). is_plain pair.term ≡ true) (map (apply_pair next) pairs) next (plain_pairs pairs next each more) more
