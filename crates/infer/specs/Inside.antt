-- Where the parts that a rule takes stand in its clauses.
use Rattle.std.specs.Prelude.{◌≡◌, ℕ, List, Bool, true, false, Some}
use Rattle.kif_tree.specs.declared.form.Form.{Form}
use Rattle.kif_tree.specs.declared.clause.Literal.{Literal}
use Rattle.kif_tree.specs.Clauses.{Literals, is_answer}
use Rattle.calculus.specs.declared.places.Opened.{Opened}
use Rattle.calculus.specs.declared.places.Sides.{Sides}
use Rattle.calculus.specs.Rules.{nth, sides, from_side, to_side, opened}

-- the literal of that number is an equality literal with these sides, the one that is replaced first
pub record IsEquation (clause : Literals) (number : ℕ) (flipped : Bool) (from to : Form) : Type 0 where
  pub literal : Literal
  pub at : nth clause number ≡ Some literal
  pub positive : literal.positive ≡ true
  pub equality : Sides
  pub equal : sides literal.atom ≡ Some equality
  pub from_is : from ≡ from_side flipped equality
  pub to_is : to ≡ to_side flipped equality

-- the path leads to the form in the literal of that number
pub record LeadsTo (clause : Literals) (number : ℕ) (path : List ℕ) (form : Form) : Type 0 where
  pub literal : Literal
  pub at : nth clause number ≡ Some literal
  pub place : Opened
  pub opens : opened path literal.atom ≡ Some place
  pub is : place.inner ≡ form

-- a positive literal and a negative one, neither an answer literal
pub record MayMeet (left right : Literal) : Type 0 where
  pub left_positive : left.positive ≡ true
  pub right_negative : right.positive ≡ false
  pub left_asserts : is_answer left.atom ≡ false
  pub right_asserts : is_answer right.atom ≡ false
