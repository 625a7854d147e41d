-- What each kind of form reads as.
use Rattle.std.proofs.Common.{◌≡◌, List, [], ◌∷◌, map, refl, sym, ap, ◌∙◌}
use Rattle.std.specs.Prelude.{Some, None}
use Rattle.kif_tree.specs.declared.form.Form.{Form, para-Form, para-roll-Form}
use Rattle.kif_tree.specs.declared.form.Form.TheVariants as form
use Rattle.kif_tree.specs.declared.form.Form.TheOpen.{Form-F}
use Rattle.kif_tree.specs.FormLaws.{induction}
use Rattle.kif_tree.specs.Terms.{Bytes}
use Rattle.clause_form.specs.Connectives.{connective_of}
use Rattle.clause_form.specs.declared.connective.Connective.{Connective}
use Rattle.clause_form.specs.Readings.{Part, Reading, literal, connected, list_reading, reading_step, reading}
use Rattle.clause_form.specs.Reads.{beside}

reading-Word : (prefix text : Bytes) → reading prefix (form.Word text) ≡ literal (form.Word text)
unfolding reading
reading-Word prefix text = ap (para-Form Reading (reading_step prefix)) (sym (form.rolls-Word text)) ∙ para-roll-Form Reading (reading_step prefix) (Form-F.Word text)

reading-Variable : (prefix text : Bytes) → reading prefix (form.Variable text) ≡ literal (form.Variable text)
unfolding reading
reading-Variable prefix text = ap (para-Form Reading (reading_step prefix)) (sym (form.rolls-Variable text)) ∙ para-roll-Form Reading (reading_step prefix) (Form-F.Variable text)

reading-Row : (prefix text : Bytes) → reading prefix (form.Row text) ≡ literal (form.Row text)
unfolding reading
reading-Row prefix text = ap (para-Form Reading (reading_step prefix)) (sym (form.rolls-Row text)) ∙ para-roll-Form Reading (reading_step prefix) (Form-F.Row text)

reading-Numeral : (prefix text : Bytes) → reading prefix (form.Numeral text) ≡ literal (form.Numeral text)
unfolding reading
reading-Numeral prefix text = ap (para-Form Reading (reading_step prefix)) (sym (form.rolls-Numeral text)) ∙ para-roll-Form Reading (reading_step prefix) (Form-F.Numeral text)

reading-Quoted : (prefix text : Bytes) → reading prefix (form.Quoted text) ≡ literal (form.Quoted text)
unfolding reading
reading-Quoted prefix text = ap (para-Form Reading (reading_step prefix)) (sym (form.rolls-Quoted text)) ∙ para-roll-Form Reading (reading_step prefix) (Form-F.Quoted text)

pub reading-List : (prefix : Bytes) (parts : List Form) → reading prefix (form.List parts) ≡ list_reading prefix (map (beside prefix) parts)
unfolding reading
reading-List prefix parts = ap (para-Form Reading (reading_step prefix)) (sym (form.rolls-List parts)) ∙ para-roll-Form Reading (reading_step prefix) (Form-F.List parts)

-- what is no list is a literal
pub reading_other : (prefix : Bytes) (f : Form) → ((parts : List Form) → f ≡ form.List parts → ⊥) → reading prefix f ≡ literal f
reading_other prefix = induction (λ f. ((parts : List Form) → f ≡ form.List parts → ⊥) → reading prefix f ≡ literal f) (record {
  word = λ text _. reading-Word prefix text;
  variable = λ text _. reading-Variable prefix text;
  row = λ text _. reading-Row prefix text;
  numeral = λ text _. reading-Numeral prefix text;
  quoted = λ text _. reading-Quoted prefix text;
  list = λ parts each other. absurd (other parts refl);
})

-- ---- lists

pub reading_empty : (prefix : Bytes) → reading prefix (form.List []) ≡ literal (form.List [])
reading_empty prefix = reading-List prefix []

pub firsts : (prefix : Bytes) (parts : List Form) → map (λ (part : Part). part.0) (map (beside prefix) parts) ≡ parts
firsts prefix [] = refl
firsts prefix (f ∷ parts) = ap (λ fs. f ∷ fs) (firsts prefix parts)

-- the head of a list says how the parts after it are read
pub reading_headed : (prefix : Bytes) (head : Form) (parts : List Form)
    → reading prefix (form.List (head ∷ parts)) ≡ connected prefix (connective_of head) (map (beside prefix) parts) (literal (form.List (head ∷ parts)))
reading_headed prefix head parts =
    reading-List prefix (head ∷ parts) ∙ ap (λ fs. connected prefix (connective_of head) (map (beside prefix) parts) (literal (form.List (head ∷ fs)))) (firsts prefix parts)

pub reading_connected : (prefix : Bytes) (head : Form) (parts : List Form) (connective : Connective) → connective_of head ≡ Some connective
    → reading prefix (form.List (head ∷ parts)) ≡ connected prefix (Some connective) (map (beside prefix) parts) (literal (form.List (head ∷ parts)))
reading_connected prefix head parts connective h =
    reading_headed prefix head parts ∙ ap (λ named. connected prefix named (map (beside prefix) parts) (literal (form.List (head ∷ parts)))) h

pub reading_plain : (prefix : Bytes) (head : Form) (parts : List Form) → connective_of head ≡ None → reading prefix (form.List (head ∷ parts)) ≡ literal (form.List (head ∷ parts))
reading_plain prefix head parts h =
    reading_headed prefix head parts ∙ ap (λ named. connected prefix named (map (beside prefix) parts) (literal (form.List (head ∷ parts)))) h
