-- What makes two forms equal, by whatever their variables become. Each substitution is such a filling.
use Rattle.std.specs.Prelude.{◌≡◌, List, Bool, true, ◌&&◌}
use Rattle.sigma_base.specs.Lists.{Each}
use Rattle.kif_tree.specs.declared.form.Form.{Form}
use Rattle.kif_tree.specs.declared.subst.Pair.{Pair}
use Rattle.kif_tree.specs.Terms.{has_no_row}
use Rattle.kif_tree.specs.Subst.{Filling, bind, apply}
use Rattle.calculus.specs.Proper.{has_word_heads}

-- the filling makes the forms equal
abbrev pub Unifies : Filling → Form → Form → Type 0
Unifies g first second = bind g first ≡ bind g second

-- nothing does
abbrev pub HasNone : Form → Form → Type 0
HasNone first second = (g : Filling) → Unifies g first second → ⊥

-- no two fillings, one for each form, make them equal
abbrev pub HasNoneApart : Form → Form → Type 0
HasNoneApart first second = (f g : Filling) → bind f first ≡ bind g second → ⊥

-- The substitution makes the forms equal, and every substitution that does so is it followed by another one. Every filling that does so is
-- the substitution followed by that filling itself.
pub record IsMostGeneral (pairs : List Pair) (first second : Form) : Type 0 where
  pub equal : apply pairs first ≡ apply pairs second
  pub general : (other : List Pair) → apply other first ≡ apply other second → (next : List Pair) × ((form : Form) → apply other form ≡ apply next (apply pairs form))
  pub absorbed : (other : Filling) → Unifies other first second → (form : Form) → bind other form ≡ bind other (apply pairs form)

-- no row variable occurs, and each list has a word at its head
abbrev pub is_plain : Form → Bool
is_plain form = has_no_row form && has_word_heads form

-- the forms of the pairs are plain
abbrev pub ArePlain : List Pair → Type 0
ArePlain pairs = Each (λ (pair : Pair). is_plain pair.term ≡ true) pairs
