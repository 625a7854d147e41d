-- Induction over forms, and what a fold gives at each kind of form.
use Rattle.std.proofs.Common.{◌≡◌, List, [], ◌∷◌, map, sym, ap, ◌∙◌, subst}
use Rattle.kif_tree.specs.declared.form.Form.{Form, fold-Form, fold-roll-Form, ind-Form, map-Form, roll-Form}
use Rattle.kif_tree.specs.declared.form.Form.TheVariants as form
use Rattle.kif_tree.specs.declared.form.Form.TheOpen.{Form-F}
use Rattle.sigma_base.specs.Lists.{Each}
use Rattle.kif_tree.specs.Terms.{Bytes}

each_of : (P : Form → Type 0) (parts : List ((f : Form) × P f)) → Each P (map (λ (e : (f : Form) × P f). e.0) parts)
each_of P [] = tt
each_of P (e ∷ parts) = (e.1, each_of P parts)

pub record Cases (P : Form → Type 0) : Type 0 where
  pub word : (text : Bytes) → P (form.Word text)
  pub variable : (text : Bytes) → P (form.Variable text)
  pub row : (text : Bytes) → P (form.Row text)
  pub numeral : (text : Bytes) → P (form.Numeral text)
  pub quoted : (text : Bytes) → P (form.Quoted text)
  pub list : (parts : List Form) → Each P parts → P (form.List parts)

shown : (P : Form → Type 0) → Cases P → (y : Form-F ((f : Form) × P f)) → P (roll-Form (map-Form ((f : Form) × P f) Form (λ e. e.0) y))
shown P cases (Form-F.Word text) = subst P (sym (form.rolls-Word text)) (cases.word text)
shown P cases (Form-F.Variable text) = subst P (sym (form.rolls-Variable text)) (cases.variable text)
shown P cases (Form-F.Row text) = subst P (sym (form.rolls-Row text)) (cases.row text)
shown P cases (Form-F.Numeral text) = subst P (sym (form.rolls-Numeral text)) (cases.numeral text)
shown P cases (Form-F.Quoted text) = subst P (sym (form.rolls-Quoted text)) (cases.quoted text)
shown P cases (Form-F.List parts) =
    subst P (sym (form.rolls-List (map (λ (e : (f : Form) × P f). e.0) parts))) (cases.list (map (λ (e : (f : Form) × P f). e.0) parts) (each_of P parts))

-- what holds of each kind of form, where it holds of the parts, holds of every form
pub induction : (P : Form → Type 0) → Cases P → (f : Form) → P f
induction P cases = ind-Form P (λ x y is. subst (λ (z : Form-F Form). P (roll-Form z)) is (shown P cases y))

-- a fold at each kind of form
pub fold-Word : (A : Type 0) (step : Form-F A → A) (text : Bytes) → fold-Form A step (form.Word text) ≡ step (Form-F.Word text)
fold-Word A step text = ap (fold-Form A step) (sym (form.rolls-Word text)) ∙ fold-roll-Form A step (Form-F.Word text)

pub fold-Variable : (A : Type 0) (step : Form-F A → A) (text : Bytes) → fold-Form A step (form.Variable text) ≡ step (Form-F.Variable text)
fold-Variable A step text = ap (fold-Form A step) (sym (form.rolls-Variable text)) ∙ fold-roll-Form A step (Form-F.Variable text)

pub fold-Row : (A : Type 0) (step : Form-F A → A) (text : Bytes) → fold-Form A step (form.Row text) ≡ step (Form-F.Row text)
fold-Row A step text = ap (fold-Form A step) (sym (form.rolls-Row text)) ∙ fold-roll-Form A step (Form-F.Row text)

pub fold-Numeral : (A : Type 0) (step : Form-F A → A) (text : Bytes) → fold-Form A step (form.Numeral text) ≡ step (Form-F.Numeral text)
fold-Numeral A step text = ap (fold-Form A step) (sym (form.rolls-Numeral text)) ∙ fold-roll-Form A step (Form-F.Numeral text)

pub fold-Quoted : (A : Type 0) (step : Form-F A → A) (text : Bytes) → fold-Form A step (form.Quoted text) ≡ step (Form-F.Quoted text)
fold-Quoted A step text = ap (fold-Form A step) (sym (form.rolls-Quoted text)) ∙ fold-roll-Form A step (Form-F.Quoted text)

pub fold-List : (A : Type 0) (step : Form-F A → A) (parts : List Form) → fold-Form A step (form.List parts) ≡ step (Form-F.List (map (fold-Form A step) parts))
fold-List A step parts = ap (fold-Form A step) (sym (form.rolls-List parts)) ∙ fold-roll-Form A step (Form-F.List parts)
