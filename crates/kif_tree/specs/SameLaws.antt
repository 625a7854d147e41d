-- The test `same` decides equality.
use Rattle.std.proofs.Common.{◌≡◌, List, [], ◌∷◌, map, Bool, true, false, ◌&&◌, refl, sym, ap, ap₂, ◌∙◌}
use Rattle.std.specs.Bool.{Decides}
use Rattle.std.specs.Cmp.{IsEquivalence}
use Rattle.std.proofs.lemmas.Bool.Decides.{same_from_decides}
use Rattle.std.specs.Str.{bytes_eq}
use Rattle.std.proofs.lemmas.Slice.Eq.{bytes_eq-Decides}
use Rattle.kif_tree.specs.declared.form.Form.{Form, out-Form, roll-Form, roll-out-Form}
use Rattle.kif_tree.specs.declared.form.Form.TheVariants as form
use Rattle.kif_tree.specs.declared.form.Form.TheOpen.{Form-F}
use Rattle.kif_tree.specs.Terms.{Bytes, same, same_layer, all_pass}
use Rattle.sigma_base.specs.Lists.{Each}
use Rattle.kif_tree.specs.FormLaws.{induction, fold-Word, fold-Variable, fold-Row, fold-Numeral, fold-Quoted, fold-List}

abbrev step : Form-F (Form → Bool) → Form → Bool
step layer other = same_layer layer (out-Form other)

at : (f : Form) (layer : Form-F (Form → Bool)) → same f ≡ step layer → (g : Form) → same f g ≡ same_layer layer (out-Form g)
at f layer e g = ap (λ (test : Form → Bool). test g) e

same-Word : (text : Bytes) (g : Form) → same (form.Word text) g ≡ same_layer (Form-F.Word text) (out-Form g)
unfolding same
same-Word text = at (form.Word text) (Form-F.Word text) (fold-Word (Form → Bool) step text)

pub same-Variable : (text : Bytes) (g : Form) → same (form.Variable text) g ≡ same_layer (Form-F.Variable text) (out-Form g)
unfolding same
same-Variable text = at (form.Variable text) (Form-F.Variable text) (fold-Variable (Form → Bool) step text)

pub same-Row : (text : Bytes) (g : Form) → same (form.Row text) g ≡ same_layer (Form-F.Row text) (out-Form g)
unfolding same
same-Row text = at (form.Row text) (Form-F.Row text) (fold-Row (Form → Bool) step text)

same-Numeral : (text : Bytes) (g : Form) → same (form.Numeral text) g ≡ same_layer (Form-F.Numeral text) (out-Form g)
unfolding same
same-Numeral text = at (form.Numeral text) (Form-F.Numeral text) (fold-Numeral (Form → Bool) step text)

same-Quoted : (text : Bytes) (g : Form) → same (form.Quoted text) g ≡ same_layer (Form-F.Quoted text) (out-Form g)
unfolding same
same-Quoted text = at (form.Quoted text) (Form-F.Quoted text) (fold-Quoted (Form → Bool) step text)

same-List : (parts : List Form) (g : Form) → same (form.List parts) g ≡ same_layer (Form-F.List (map same parts)) (out-Form g)
unfolding same
same-List parts = at (form.List parts) (Form-F.List (map same parts)) (fold-List (Form → Bool) step parts)

false_true : false ≡ true → ⊥
false_true e = cc

bytes_same : (a b : Bytes) → bytes_eq a b ≡ true → a ≡ b
bytes_same a b = (bytes_eq-Decides a b).0

word_layer : (a : Bytes) (y : Form-F Form) → same_layer (Form-F.Word a) y ≡ true → Form-F.Word a ≡ y
word_layer a (Form-F.Word b) h = ap Form-F.Word (bytes_same a b h)
word_layer a _ h = absurd (false_true h)

variable_layer : (a : Bytes) (y : Form-F Form) → same_layer (Form-F.Variable a) y ≡ true → Form-F.Variable a ≡ y
variable_layer a (Form-F.Variable b) h = ap Form-F.Variable (bytes_same a b h)
variable_layer a _ h = absurd (false_true h)

row_layer : (a : Bytes) (y : Form-F Form) → same_layer (Form-F.Row a) y ≡ true → Form-F.Row a ≡ y
row_layer a (Form-F.Row b) h = ap Form-F.Row (bytes_same a b h)
row_layer a _ h = absurd (false_true h)

numeral_layer : (a : Bytes) (y : Form-F Form) → same_layer (Form-F.Numeral a) y ≡ true → Form-F.Numeral a ≡ y
numeral_layer a (Form-F.Numeral b) h = ap Form-F.Numeral (bytes_same a b h)
numeral_layer a _ h = absurd (false_true h)

quoted_layer : (a : Bytes) (y : Form-F Form) → same_layer (Form-F.Quoted a) y ≡ true → Form-F.Quoted a ≡ y
quoted_layer a (Form-F.Quoted b) h = ap Form-F.Quoted (bytes_same a b h)
quoted_layer a _ h = absurd (false_true h)

both : (a b : Bool) → (a && b) ≡ true → (a ≡ true) × (b ≡ true)
both true b h = (refl, h)
both false b h = absurd (false_true h)

abbrev IsSound : Form → Type 0
IsSound f = (g : Form) → same f g ≡ true → f ≡ g

parts_pass : (xs ys : List Form) → Each IsSound xs → all_pass (map same xs) ys ≡ true → xs ≡ ys
parts_pass [] [] each h = refl
parts_pass [] (y ∷ ys) each h = absurd (false_true h)
parts_pass (x ∷ xs) [] each h = absurd (false_true h)
parts_pass (x ∷ xs) (y ∷ ys) each h = let p = both (same x y) (all_pass (map same xs) ys) h in ap₂ ◌∷◌ (each.0 y p.0) (parts_pass xs ys each.1 p.1)

list_layer : (xs : List Form) → Each IsSound xs → (y : Form-F Form) → same_layer (Form-F.List (map same xs)) y ≡ true → Form-F.List xs ≡ y
list_layer xs each (Form-F.List ys) h = ap Form-F.List (parts_pass xs ys each h)
list_layer xs each _ h = absurd (false_true h)

rolled : (f g : Form) (layer : Form-F Form) → roll-Form layer ≡ f → layer ≡ out-Form g → f ≡ g
rolled f g layer is e = sym is ∙ ap roll-Form e ∙ roll-out-Form g

sound : (f : Form) → IsSound f
sound = induction IsSound (record {
  word = λ a g h. rolled (form.Word a) g (Form-F.Word a) (form.rolls-Word a) (word_layer a (out-Form g) (sym (same-Word a g) ∙ h));
  variable = λ a g h. rolled (form.Variable a) g (Form-F.Variable a) (form.rolls-Variable a) (variable_layer a (out-Form g) (sym (same-Variable a g) ∙ h));
  row = λ a g h. rolled (form.Row a) g (Form-F.Row a) (form.rolls-Row a) (row_layer a (out-Form g) (sym (same-Row a g) ∙ h));
  numeral = λ a g h. rolled (form.Numeral a) g (Form-F.Numeral a) (form.rolls-Numeral a) (numeral_layer a (out-Form g) (sym (same-Numeral a g) ∙ h));
  quoted = λ a g h. rolled (form.Quoted a) g (Form-F.Quoted a) (form.rolls-Quoted a) (quoted_layer a (out-Form g) (sym (same-Quoted a g) ∙ h));
  list = λ xs each g h. rolled (form.List xs) g (Form-F.List xs) (form.rolls-List xs) (list_layer xs each (out-Form g) (sym (same-List xs g) ∙ h));
})

bytes_refl : (a : Bytes) → bytes_eq a a ≡ true
bytes_refl a = (bytes_eq-Decides a a).1 refl

all_refl : (xs : List Form) → Each (λ f. same f f ≡ true) xs → all_pass (map same xs) xs ≡ true
all_refl [] each = refl
all_refl (x ∷ xs) each = rw (each.0, all_refl xs each.1) refl

itself : (f : Form) → same f f ≡ true
itself = induction (λ f. same f f ≡ true) (record {
  word = λ a. same-Word a (form.Word a) ∙ ap (same_layer (Form-F.Word a)) (form.outs-Word a) ∙ bytes_refl a;
  variable = λ a. same-Variable a (form.Variable a) ∙ ap (same_layer (Form-F.Variable a)) (form.outs-Variable a) ∙ bytes_refl a;
  row = λ a. same-Row a (form.Row a) ∙ ap (same_layer (Form-F.Row a)) (form.outs-Row a) ∙ bytes_refl a;
  numeral = λ a. same-Numeral a (form.Numeral a) ∙ ap (same_layer (Form-F.Numeral a)) (form.outs-Numeral a) ∙ bytes_refl a;
  quoted = λ a. same-Quoted a (form.Quoted a) ∙ ap (same_layer (Form-F.Quoted a)) (form.outs-Quoted a) ∙ bytes_refl a;
  list = λ xs each. same-List xs (form.List xs) ∙ ap (same_layer (Form-F.List (map same xs))) (form.outs-List xs) ∙ all_refl xs each;
})

pub same-Decides : (f g : Form) → Decides (same f g) (f ≡ g)
same-Decides f g = (sound f g, λ e. ap (same f) (sym e) ∙ itself f)

pub same_equivalence : IsEquivalence same
same_equivalence = record {
  refl = itself;
  symm = λ f g. same_from_decides (same f g) (same g f) (same-Decides f g) ((λ h. sym ((same-Decides g f).0 h)), (λ e. (same-Decides g f).1 (sym e)));
  congr = λ f g h e. ap (λ x. same x h) ((same-Decides f g).0 e);
}
