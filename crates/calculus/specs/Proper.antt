-- Proper clauses.
use Rattle.std.specs.Prelude.{◌≡◌, List, [], ◌∷◌, Bool, true, false, not, ◌&&◌}
use Rattle.std.specs.List.{list_all, list_any}
use Rattle.kif_tree.specs.declared.form.Form.{Form, para-Form, out-Form}
use Rattle.kif_tree.specs.declared.form.Form.TheOpen.{Form-F}
use Rattle.kif_tree.specs.Clauses.{Literals, is_answer}
use Rattle.kif_tree.specs.Shape.{is_list}
use Rattle.calculus.specs.Tidy.{IsTidy}
use Rattle.calculus.specs.Closed.{rowless_clause}

abbrev pub is_word_layer : Form-F Form → Bool
is_word_layer (Form-F.Word text) = true
is_word_layer (Form-F.Variable text) = false
is_word_layer (Form-F.Row text) = false
is_word_layer (Form-F.Numeral text) = false
is_word_layer (Form-F.Quoted text) = false
is_word_layer (Form-F.List parts) = false

-- a part beside whether each list in it has a word at its head
abbrev pub Part : Type 0
Part = Form × Bool

abbrev pub begins_with_word : List Part → Bool
begins_with_word [] = false
begins_with_word (head ∷ parts) = is_word_layer (out-Form head.0)

abbrev pub heads_step : Form-F Part → Bool
heads_step (Form-F.Word text) = true
heads_step (Form-F.Variable text) = true
heads_step (Form-F.Row text) = true
heads_step (Form-F.Numeral text) = true
heads_step (Form-F.Quoted text) = true
heads_step (Form-F.List parts) = begins_with_word parts && list_all (λ (part : Part). part.1) parts

-- each list in the form has a word at its head
unfoldable pub has_word_heads : Form → Bool
has_word_heads = para-Form Bool heads_step

-- a clause as inputs have it
pub record IsProper (clause : Literals) : Type 0 where
  pub is_tidy : IsTidy clause
  pub asserts : list_any (λ literal. not (is_answer literal.atom)) clause ≡ true
  pub lists : list_all (λ literal. is_list literal.atom) clause ≡ true
  pub headed : list_all (λ literal. has_word_heads literal.atom) clause ≡ true
  pub rowless : rowless_clause clause ≡ true
