-- The text of a word, and that no other form has one.
use Rattle.std.proofs.Common.{◌≡◌, ◌∙◌, sym, ap, refl, Some, None, true, false, is_some}
use Rattle.kif_tree.specs.declared.form.Form.{Form, out-Form, roll-Form, roll-out-Form}
use Rattle.kif_tree.specs.declared.form.Form.TheVariants as form
use Rattle.kif_tree.specs.declared.form.Form.TheOpen.{Form-F}
use Rattle.kif_tree.specs.Terms.{Bytes}
use Rattle.taxonomy.specs.Told.{word_text, word_layer}
use Rattle.var_expand.specs.Conditions.{is_word}

pub word_text-Word : (text : Bytes) → word_text (form.Word text) ≡ Some text
unfolding word_text
word_text-Word text = ap word_layer (form.outs-Word text)

pub word_text-is : (f : Form) (text : Bytes) → f ≡ form.Word text → word_text f ≡ Some text
word_text-is f text e = ap word_text e ∙ word_text-Word text

layer_other : (f : Form) (layer : Form-F Form) → f ≡ roll-Form layer → ((text : Bytes) → f ≡ form.Word text → ⊥) → word_layer layer ≡ None
layer_other f (Form-F.Word text) e no_word = absurd (no_word text (e ∙ form.rolls-Word text))
layer_other f (Form-F.Variable text) e no_word = refl
layer_other f (Form-F.Row text) e no_word = refl
layer_other f (Form-F.Numeral text) e no_word = refl
layer_other f (Form-F.Quoted text) e no_word = refl
layer_other f (Form-F.List parts) e no_word = refl

pub word_text_other : (f : Form) → ((text : Bytes) → f ≡ form.Word text → ⊥) → word_text f ≡ None
unfolding word_text
word_text_other f no_word = layer_other f (out-Form f) (sym (roll-out-Form f)) no_word

pub is_word-is : (f : Form) (text : Bytes) → f ≡ form.Word text → is_word f ≡ true
is_word-is f text e = ap is_some (word_text-is f text e)

pub is_word_other : (f : Form) → ((text : Bytes) → f ≡ form.Word text → ⊥) → is_word f ≡ false
is_word_other f no_word = ap is_some (word_text_other f no_word)

pub ruleset word_laws = (word_text-is, word_text_other)

pub ruleset is_word_laws = (is_word-is, is_word_other)
