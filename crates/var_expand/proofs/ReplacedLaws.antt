-- A form after a choice, by its kind.
use Rattle.std.proofs.Common.{◌≡◌, List, [], ◌∷◌, ◌++◌, map, Bool, true, false, if◌then◌else◌, refl, sym, ap, ap₂, ◌∙◌, length, arith}
use Rattle.std.specs.Prelude.{IfOk, Result, Ok, Err}
use Rattle.std.specs.List.{flat_map}
use Rattle.sigma_base.specs.declared.memory.NoMemory.{NoMemory}
use Rattle.kif_tree.specs.declared.form.Form.{Form, para-Form, para-roll-Form}
use Rattle.kif_tree.specs.declared.form.Form.TheVariants as form
use Rattle.kif_tree.specs.declared.form.Form.TheOpen.{Form-F}
use Rattle.kif_tree.specs.FormLaws.{induction}
use Rattle.kif_tree.specs.NameLaws.{beside_forms}
use Rattle.kif_tree.specs.Names.{bound}
use Rattle.kif_tree.specs.Shape.{is_name}
use Rattle.kif_tree.specs.Terms.{Bytes}
use Rattle.sigma_base.specs.Lists.{Each}
use Rattle.var_expand.specs.Choices.{Choice, becomes_by}
use Rattle.var_expand.specs.Replacement.{without, spliced, replaced_step, replaced}
use Rattle.var_expand.specs.Spliced.{spliced_part}

at : (f : Form) (layer : Form-F (Form × (Choice → Form))) → replaced f ≡ replaced_step layer → (choice : Choice) → replaced f choice ≡ replaced_step layer choice
at f layer e choice = ap (λ (step : Choice → Form). step choice) e

replaced-Word : (text : Bytes) (choice : Choice) → replaced (form.Word text) choice ≡ form.Word text
unfolding replaced
replaced-Word text = at (form.Word text) (Form-F.Word text) (ap (para-Form (Choice → Form) replaced_step) (sym (form.rolls-Word text)) ∙ para-roll-Form (Choice → Form) replaced_step (Form-F.Word text))

replaced-Variable : (text : Bytes) (choice : Choice) → replaced (form.Variable text) choice ≡ form.Variable text
unfolding replaced
replaced-Variable text = at (form.Variable text) (Form-F.Variable text) (ap (para-Form (Choice → Form) replaced_step) (sym (form.rolls-Variable text)) ∙ para-roll-Form (Choice → Form) replaced_step (Form-F.Variable text))

replaced-Row : (text : Bytes) (choice : Choice) → replaced (form.Row text) choice ≡ form.Row text
unfolding replaced
replaced-Row text = at (form.Row text) (Form-F.Row text) (ap (para-Form (Choice → Form) replaced_step) (sym (form.rolls-Row text)) ∙ para-roll-Form (Choice → Form) replaced_step (Form-F.Row text))

replaced-Numeral : (text : Bytes) (choice : Choice) → replaced (form.Numeral text) choice ≡ form.Numeral text
unfolding replaced
replaced-Numeral text = at (form.Numeral text) (Form-F.Numeral text) (ap (para-Form (Choice → Form) replaced_step) (sym (form.rolls-Numeral text)) ∙ para-roll-Form (Choice → Form) replaced_step (Form-F.Numeral text))

replaced-Quoted : (text : Bytes) (choice : Choice) → replaced (form.Quoted text) choice ≡ form.Quoted text
unfolding replaced
replaced-Quoted text = at (form.Quoted text) (Form-F.Quoted text) (ap (para-Form (Choice → Form) replaced_step) (sym (form.rolls-Quoted text)) ∙ para-roll-Form (Choice → Form) replaced_step (Form-F.Quoted text))

all_spliced : (choice : Choice) (parts : List Form) → flat_map (spliced choice) (map (λ f. (f, replaced f)) parts) ≡ flat_map (spliced_part choice) parts
all_spliced choice [] = refl
all_spliced choice (f ∷ parts) = ap (λ fs. spliced_part choice f ++ fs) (all_spliced choice parts)

replaced-List : (parts : List Form) (choice : Choice) → replaced (form.List parts) choice ≡ form.List (flat_map (spliced_part (without (bound parts) choice)) parts)
unfolding replaced
replaced-List parts choice =
    ap (λ (step : Choice → Form). step choice) (ap (para-Form (Choice → Form) replaced_step) (sym (form.rolls-List parts)) ∙ para-roll-Form (Choice → Form) replaced_step (Form-F.List parts))
    ∙ ap (λ (fs : List Form). form.List (flat_map (spliced (without (bound fs) choice)) (map (λ f. (f, replaced f)) parts))) (beside_forms replaced parts)
    ∙ ap form.List (all_spliced (without (bound parts) choice) parts)

pub replaced_other : (f : Form) (choice : Choice) → ((parts : List Form) → f ≡ form.List parts → ⊥) → replaced f choice ≡ f
replaced_other = induction (λ f. (choice : Choice) → ((parts : List Form) → f ≡ form.List parts → ⊥) → replaced f choice ≡ f) (record {
  word = λ text choice _. replaced-Word text choice;
  variable = λ text choice _. replaced-Variable text choice;
  row = λ text choice _. replaced-Row text choice;
  numeral = λ text choice _. replaced-Numeral text choice;
  quoted = λ text choice _. replaced-Quoted text choice;
  list = λ parts each choice other. absurd (other parts refl);
})

pub list_replaced : (f : Form) (parts : List Form) (choice rest : Choice) (forms : List Form) → f ≡ form.List parts → rest ≡ without (bound parts) choice
    → forms ≡ flat_map (spliced_part rest) parts → form.List forms ≡ replaced f choice
list_replaced f parts choice rest forms is e h =
    ap form.List (h ∙ ap (λ settings. flat_map (spliced_part settings) parts) e) ∙ sym (ap (λ g. replaced g choice) is ∙ replaced-List parts choice)

without_none : (choice : Choice) → without [] choice ≡ choice
without_none [] = refl
without_none (s ∷ choice) = ap (λ rest. s ∷ rest) (without_none choice)

pub list_kept : (f : Form) (parts : List Form) (choice : Choice) (forms : List Form) → f ≡ form.List parts → bound parts ≡ []
    → forms ≡ flat_map (spliced_part choice) parts → form.List forms ≡ replaced f choice
list_kept f parts choice forms is none h = list_replaced f parts choice choice forms is (sym (ap (λ names. without names choice) none ∙ without_none choice)) h

pub ok_is : (copy : Result Form NoMemory) (f g : Form) → f ≡ g → IfOk copy (λ x. x ≡ f) → IfOk copy (λ x. x ≡ g)
ok_is (Ok x) f g e h = h ∙ e
ok_is (Err x) f g e h = h

-- nothing is chosen
nothing_spliced : (parts : List Form) → Each (λ f. replaced f [] ≡ f) parts → flat_map (spliced_part []) parts ≡ parts
nothing_spliced [] each = refl
nothing_spliced (f ∷ parts) each = go (is_name f) each.0 (nothing_spliced parts each.1)
  where
    go : (b : Bool) → replaced f [] ≡ f → flat_map (spliced_part []) parts ≡ parts → (if b then becomes_by [] f else replaced f [] ∷ []) ++ flat_map (spliced_part []) parts ≡ f ∷ parts
    go true e h = ap (λ fs. f ∷ fs) h
    go false e h = ap₂ ◌∷◌ e h

pub replaced_nothing : (f : Form) → replaced f [] ≡ f
replaced_nothing = induction (λ f. replaced f [] ≡ f) (record {
  word = λ text. replaced-Word text [];
  variable = λ text. replaced-Variable text [];
  row = λ text. replaced-Row text [];
  numeral = λ text. replaced-Numeral text [];
  quoted = λ text. replaced-Quoted text [];
  list = λ parts each. replaced-List parts [] ∙ ap form.List (nothing_spliced parts each);
})

pub no_items : {X : Type 0} (xs : List X) → length xs ≡ 0 → xs ≡ []
no_items [] e = refl
no_items (x ∷ xs) e = absurd (omega arith)
