-- When a choice fits a form.
use Rattle.std.specs.Prelude.{◌≡◌, ℕ, List, [], ◌∷◌, length, filter, Bool, true, false, not, ◌||◌, nat_eq}
use Rattle.std.specs.List.{list_all, list_any}
use Rattle.kif_tree.specs.declared.form.Form.{Form, out-Form}
use Rattle.kif_tree.specs.declared.form.Form.TheOpen.{Form-F}
use Rattle.kif_tree.specs.Terms.{after_head}
use Rattle.kif_tree.specs.Names.{parts_in, is_function_word}
use Rattle.kif_tree.specs.Profile.{compounds, arguments_in, sentences, begins}
use Rattle.sigma_base.specs.Lists.{Each}
use Rattle.taxonomy.specs.Told.{Link}
use Rattle.signatures.specs.Tables.{arity_in}
use Rattle.signatures.specs.declared.told.Arity.{Arity}
use Rattle.signatures.specs.declared.told.Arity.TheVariants.{Exactly, Any, Unstated}
use Rattle.signatures.specs.declared.signatures.Signatures.{Signatures}
use Rattle.var_expand.specs.Choices.{is_variable, is_row, Choice, after}
use Rattle.var_expand.specs.Conditions.{conditions, IsMet}

-- a list that is headed by a variable
abbrev pub has_variable_head : List Form → Bool
has_variable_head [] = false
has_variable_head (head ∷ arguments) = is_variable head

-- a list whose count of arguments or whose head is chosen: one that a variable heads or with a row variable among its arguments
abbrev pub varies : List Form → Bool
varies parts = has_variable_head parts || list_any is_row (after_head parts)

-- ---- how many arguments

abbrev pub takes : Arity → ℕ → Bool
takes (Exactly arity) count = nat_eq count arity
takes Any count = true
takes Unstated count = true

abbrev pub head_takes : Signatures → Form-F Form → ℕ → Bool
head_takes signatures (Form-F.Word text) count = takes (arity_in signatures text) count
head_takes signatures (Form-F.Variable text) count = true
head_takes signatures (Form-F.Row text) count = true
head_takes signatures (Form-F.Numeral text) count = true
head_takes signatures (Form-F.Quoted text) count = true
head_takes signatures (Form-F.List parts) count = true

-- the list has as many arguments as its head takes, or nothing says how many that are
abbrev pub has_count : Signatures → List Form → Bool
has_count signatures [] = true
has_count signatures (head ∷ arguments) = head_takes signatures (out-Form head) (length arguments)

abbrev pub counts_fit : Signatures → Form → Choice → Bool
counts_fit signatures f choice = list_all (λ parts. has_count signatures (after choice parts)) (filter varies (compounds f))

-- ---- names at their places

-- after the choice, a list that a variable headed is headed by a word that names a function
abbrev pub becomes_term : Choice → Form → Bool
becomes_term choice f = begins is_function_word (after choice (parts_in f))

abbrev pub is_application : Form → Bool
is_application f = has_variable_head (parts_in f)

-- in argument place the names are those of functions
abbrev pub arguments_fit : Form → Choice → Bool
arguments_fit f choice = list_all (becomes_term choice) (filter is_application (arguments_in f))

-- in sentence place they aren't
abbrev pub sentences_fit : Form → Choice → Bool
sentences_fit f choice = list_all (λ part. not (becomes_term choice part)) (filter is_application (sentences f))

-- ---- all together

pub record Fits (links : List Link) (signatures : Signatures) (f : Form) (choice : Choice) : Type 0 where
  pub counts : counts_fit signatures f choice ≡ true
  pub arguments : arguments_fit f choice ≡ true
  pub sentences : sentences_fit f choice ≡ true
  pub conditions : Each (λ parts. IsMet links (after choice parts)) (conditions f)
