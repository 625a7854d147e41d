-- What the tests of a head give.
use Rattle.std.proofs.Common.{◌≡◌, ◌<◌, ◌≤◌, List, [], ◌∷◌, length, get_or, false, refl, sym, ap, ◌∙◌, arith}
use Rattle.std.specs.Str.{bytes_eq}
use Rattle.kif_tree.specs.declared.form.Form.{Form, out-Form, roll-Form, roll-out-Form}
use Rattle.kif_tree.specs.declared.form.Form.TheOpen.{Form-F}
use Rattle.kif_tree.specs.declared.form.Form.TheVariants as form
use Rattle.kif_tree.specs.Terms.{Bytes}
use Rattle.kif_tree.specs.Clauses.{is_word, begins_with, heads_layer, is_headed}

layer_other : (name : Bytes) (f : Form) (layer : Form-F Form) → f ≡ roll-Form layer → ((parts : List Form) → f ≡ form.List parts → ⊥) → heads_layer name layer ≡ false
layer_other name f (Form-F.Word text) e no_list = refl
layer_other name f (Form-F.Variable text) e no_list = refl
layer_other name f (Form-F.Row text) e no_list = refl
layer_other name f (Form-F.Numeral text) e no_list = refl
layer_other name f (Form-F.Quoted text) e no_list = refl
layer_other name f (Form-F.List parts) e no_list = absurd (no_list parts (e ∙ form.rolls-List parts))

-- no list
pub headed_other : (name : Bytes) (f : Form) → ((parts : List Form) → f ≡ form.List parts → ⊥) → is_headed name f ≡ false
unfolding is_headed
headed_other name f no_list = layer_other name f (out-Form f) (sym (roll-out-Form f)) no_list

headed_list : (name : Bytes) (parts : List Form) → is_headed name (form.List parts) ≡ begins_with name parts
unfolding is_headed
headed_list name parts = ap (heads_layer name) (form.outs-List parts)

begins_none : (name : Bytes) (parts : List Form) → length parts < 1 → begins_with name parts ≡ false
begins_none name [] h = refl
begins_none name (x ∷ parts) h = absurd (omega arith)

begins_first : (name : Bytes) (parts : List Form) (head : Form) → 1 ≤ length parts → head ≡ get_or parts 0 head → begins_with name parts ≡ is_word name (out-Form head)
begins_first name [] head h e = absurd (omega arith)
begins_first name (x ∷ parts) head h e = ap (λ y. is_word name (out-Form y)) (sym e)

-- an empty list
pub headed_none : (name : Bytes) (f : Form) (parts : List Form) → f ≡ form.List parts → length parts < 1 → is_headed name f ≡ false
headed_none name f parts e h = ap (is_headed name) e ∙ headed_list name parts ∙ begins_none name parts h

headed_first : (name : Bytes) (f : Form) (parts : List Form) (head : Form) → f ≡ form.List parts → 1 ≤ length parts → head ≡ get_or parts 0 head → is_headed name f ≡ is_word name (out-Form head)
headed_first name f parts head e h is = ap (is_headed name) e ∙ headed_list name parts ∙ begins_first name parts head h is

layer_no_word : (name : Bytes) (f : Form) (layer : Form-F Form) → f ≡ roll-Form layer → ((text : Bytes) → f ≡ form.Word text → ⊥) → is_word name layer ≡ false
layer_no_word name f (Form-F.Word text) e no_word = absurd (no_word text (e ∙ form.rolls-Word text))
layer_no_word name f (Form-F.Variable text) e no_word = refl
layer_no_word name f (Form-F.Row text) e no_word = refl
layer_no_word name f (Form-F.Numeral text) e no_word = refl
layer_no_word name f (Form-F.Quoted text) e no_word = refl
layer_no_word name f (Form-F.List parts) e no_word = refl

-- a list whose head is no word
pub headed_no_word : (name : Bytes) (f : Form) (parts : List Form) (head : Form) → f ≡ form.List parts → 1 ≤ length parts → head ≡ get_or parts 0 head → ((text : Bytes) → head ≡ form.Word text → ⊥) → is_headed name f ≡ false
headed_no_word name f parts head e h is no_word = headed_first name f parts head e h is ∙ layer_no_word name head (out-Form head) (sym (roll-out-Form head)) no_word

-- a list whose head is a word
pub headed_word : (name : Bytes) (f : Form) (parts : List Form) (head : Form) (text : Bytes) → f ≡ form.List parts → 1 ≤ length parts → head ≡ get_or parts 0 head → head ≡ form.Word text → is_headed name f ≡ bytes_eq name text
headed_word name f parts head text e h is word = headed_first name f parts head e h is ∙ ap (λ y. is_word name (out-Form y)) word ∙ ap (is_word name) (form.outs-Word text)
