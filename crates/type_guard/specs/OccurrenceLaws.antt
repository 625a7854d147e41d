-- The occurrences in each kind of form.
use Rattle.std.proofs.Common.{◌≡◌, List, [], ◌∷◌, map, filter, Bool, true, false, refl, sym, ap, ◌∙◌}
use Rattle.kif_tree.specs.declared.form.Form.{Form, para-Form, para-roll-Form, out-Form}
use Rattle.kif_tree.specs.declared.form.Form.TheVariants as form
use Rattle.kif_tree.specs.declared.form.Form.TheOpen.{Form-F}
use Rattle.kif_tree.specs.Terms.{Bytes}
use Rattle.kif_tree.specs.Names.{bound, is_other}
use Rattle.kif_tree.specs.Profile.{lists_variables, without_first}
use Rattle.kif_tree.specs.FormLaws.{induction}
use Rattle.kif_tree.specs.NameLaws.{beside_forms}
use Rattle.type_guard.specs.Occurrences.{Occurrence, of_parts, of_list, occurrences, occurrences_step}
use Rattle.type_guard.specs.Reads.{with_occurrences, under_head}

occurrences-Word : (text : Bytes) → occurrences (form.Word text) ≡ []
unfolding occurrences
occurrences-Word text = ap (para-Form (List Occurrence) occurrences_step) (sym (form.rolls-Word text)) ∙ para-roll-Form (List Occurrence) occurrences_step (Form-F.Word text)

pub occurrences-Variable : (text : Bytes) → occurrences (form.Variable text) ≡ []
unfolding occurrences
occurrences-Variable text = ap (para-Form (List Occurrence) occurrences_step) (sym (form.rolls-Variable text)) ∙ para-roll-Form (List Occurrence) occurrences_step (Form-F.Variable text)

occurrences-Row : (text : Bytes) → occurrences (form.Row text) ≡ []
unfolding occurrences
occurrences-Row text = ap (para-Form (List Occurrence) occurrences_step) (sym (form.rolls-Row text)) ∙ para-roll-Form (List Occurrence) occurrences_step (Form-F.Row text)

occurrences-Numeral : (text : Bytes) → occurrences (form.Numeral text) ≡ []
unfolding occurrences
occurrences-Numeral text = ap (para-Form (List Occurrence) occurrences_step) (sym (form.rolls-Numeral text)) ∙ para-roll-Form (List Occurrence) occurrences_step (Form-F.Numeral text)

occurrences-Quoted : (text : Bytes) → occurrences (form.Quoted text) ≡ []
unfolding occurrences
occurrences-Quoted text = ap (para-Form (List Occurrence) occurrences_step) (sym (form.rolls-Quoted text)) ∙ para-roll-Form (List Occurrence) occurrences_step (Form-F.Quoted text)

without_mapped : {X Y : Type 0} (f : X → Y) (first : Bool) (xs : List X) → without_first first (map f xs) ≡ map f (without_first first xs)
without_mapped f true [] = refl
without_mapped f true (x ∷ xs) = refl
without_mapped f false xs = refl

under : (parts : List Form) → of_list (map with_occurrences parts) ≡ under_head parts
under [] = refl
under (head ∷ arguments) =
    ap (λ (fs : List Form). of_parts (out-Form head) (without_first (lists_variables fs) (map with_occurrences arguments))) (beside_forms occurrences (head ∷ arguments))
    ∙ ap (of_parts (out-Form head)) (without_mapped with_occurrences (lists_variables (head ∷ arguments)) arguments)

-- those at and in the operands, but for those of names that the list itself quantifies
pub occurrences-List : (parts : List Form) → occurrences (form.List parts) ≡ filter (λ (occurrence : Occurrence). is_other (bound parts) occurrence.variable) (under_head parts)
unfolding occurrences
occurrences-List parts =
    ap (para-Form (List Occurrence) occurrences_step) (sym (form.rolls-List parts))
    ∙ para-roll-Form (List Occurrence) occurrences_step (Form-F.List parts)
    ∙ ap (λ (fs : List Form). filter (λ (occurrence : Occurrence). is_other (bound fs) occurrence.variable) (of_list (map with_occurrences parts))) (beside_forms occurrences parts)
    ∙ ap (filter (λ (occurrence : Occurrence). is_other (bound parts) occurrence.variable)) (under parts)

pub occurrences_other : (f : Form) → ((parts : List Form) → f ≡ form.List parts → ⊥) → occurrences f ≡ []
occurrences_other = induction (λ f. ((parts : List Form) → f ≡ form.List parts → ⊥) → occurrences f ≡ []) (record {
  word = λ text _. occurrences-Word text;
  variable = λ text _. occurrences-Variable text;
  row = λ text _. occurrences-Row text;
  numeral = λ text _. occurrences-Numeral text;
  quoted = λ text _. occurrences-Quoted text;
  list = λ parts each other. absurd (other parts refl);
})

pub ruleset occurrences_laws = (occurrences-List, occurrences_other)
