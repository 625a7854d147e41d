-- The lists that `compounds` gives of each kind of form.
use Rattle.std.proofs.Common.{◌≡◌, List, [], ◌∷◌, map, Bool, true, false, refl, sym, ap, ◌∙◌}
use Rattle.std.specs.List.{flat_map}
use Rattle.kif_tree.specs.declared.form.Form.{Form, para-Form, para-roll-Form}
use Rattle.kif_tree.specs.declared.form.Form.TheVariants as form
use Rattle.kif_tree.specs.declared.form.Form.TheOpen.{Form-F}
use Rattle.kif_tree.specs.Terms.{Bytes, after_head}
use Rattle.kif_tree.specs.Profile.{lists_variables, without_first, operands, compounds, compounds_step}
use Rattle.kif_tree.specs.FormLaws.{induction}
use Rattle.kif_tree.specs.NameLaws.{beside_forms, beside_results}

compounds-Word : (text : Bytes) → compounds (form.Word text) ≡ []
unfolding compounds
compounds-Word text = ap (para-Form (List (List Form)) compounds_step) (sym (form.rolls-Word text)) ∙ para-roll-Form (List (List Form)) compounds_step (Form-F.Word text)

compounds-Variable : (text : Bytes) → compounds (form.Variable text) ≡ []
unfolding compounds
compounds-Variable text = ap (para-Form (List (List Form)) compounds_step) (sym (form.rolls-Variable text)) ∙ para-roll-Form (List (List Form)) compounds_step (Form-F.Variable text)

compounds-Row : (text : Bytes) → compounds (form.Row text) ≡ []
unfolding compounds
compounds-Row text = ap (para-Form (List (List Form)) compounds_step) (sym (form.rolls-Row text)) ∙ para-roll-Form (List (List Form)) compounds_step (Form-F.Row text)

compounds-Numeral : (text : Bytes) → compounds (form.Numeral text) ≡ []
unfolding compounds
compounds-Numeral text = ap (para-Form (List (List Form)) compounds_step) (sym (form.rolls-Numeral text)) ∙ para-roll-Form (List (List Form)) compounds_step (Form-F.Numeral text)

compounds-Quoted : (text : Bytes) → compounds (form.Quoted text) ≡ []
unfolding compounds
compounds-Quoted text = ap (para-Form (List (List Form)) compounds_step) (sym (form.rolls-Quoted text)) ∙ para-roll-Form (List (List Form)) compounds_step (Form-F.Quoted text)

beside_without : {A : Type 0} (result : Form → List A) (first : Bool) (parts : List Form)
    → flat_map (λ (part : Form × List A). part.1) (without_first first (after_head (map (λ f. (f, result f)) parts))) ≡ flat_map result (without_first first (after_head parts))
beside_without result true [] = refl
beside_without result false [] = refl
beside_without result true (head ∷ []) = refl
beside_without result true (head ∷ first ∷ parts) = beside_results result parts
beside_without result false (head ∷ parts) = beside_results result parts

-- the list itself, and then those of its operands
pub compounds-List : (parts : List Form) → compounds (form.List parts) ≡ parts ∷ flat_map compounds (operands parts)
unfolding compounds
compounds-List parts =
    ap (para-Form (List (List Form)) compounds_step) (sym (form.rolls-List parts))
    ∙ para-roll-Form (List (List Form)) compounds_step (Form-F.List parts)
    ∙ ap (λ (fs : List Form). fs ∷ flat_map (λ (part : Form × List (List Form)). part.1) (without_first (lists_variables fs) (after_head (map (λ f. (f, compounds f)) parts)))) (beside_forms compounds parts)
    ∙ ap (λ more. parts ∷ more) (beside_without compounds (lists_variables parts) parts)

pub compounds_other : (f : Form) → ((parts : List Form) → f ≡ form.List parts → ⊥) → compounds f ≡ []
compounds_other = induction (λ f. ((parts : List Form) → f ≡ form.List parts → ⊥) → compounds f ≡ []) (record {
  word = λ text _. compounds-Word text;
  variable = λ text _. compounds-Variable text;
  row = λ text _. compounds-Row text;
  numeral = λ text _. compounds-Numeral text;
  quoted = λ text _. compounds-Quoted text;
  list = λ parts each other. absurd (other parts refl);
})

pub ruleset compounds_laws = (compounds-List, compounds_other)
