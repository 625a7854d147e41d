-- Relation names: the words of a list of forms that stand for relations.
use Rattle.std.specs.Prelude.{◌≡◌, ◌≢◌, ◌⊎◌, ◌↔◌, List, [], ◌∷◌, map, Bool, true, false, not, ◌&&◌, ◌||◌, Contains}
use Rattle.std.specs.List.{list_any}
use Rattle.kif_tree.specs.Terms.{Bytes}
use Rattle.kif_tree.specs.Clauses.{is_headed, begins_with}
use Rattle.kif_tree.specs.Shape.{is_among, logical_words, has_word}
use Rattle.kif_tree.specs.declared.form.Form.{Form, para-Form}
use Rattle.kif_tree.specs.declared.form.Form.TheOpen.{Form-F}
use Rattle.kif_tree.specs.declared.place.Located.{Located}
use Rattle.sigma_base.specs.Lists.{Each}
use Rattle.signatures.specs.Arities.{shown_heads, IsArity}
use Rattle.signatures.specs.Nearest.{IsBefore}
use Rattle.signatures.specs.declared.told.Arity.{Arity}
use Rattle.signatures.specs.declared.told.Arity.TheVariants.{Unstated}

-- the form is only shown, and its words aren't words of the snapshot for its sake
abbrev pub is_shown : Form → Bool
is_shown form = list_any (λ head. is_headed head form) shown_heads

-- the word occurs in a form that isn't only shown
abbrev pub is_snapshot_word : List Located → Bytes → Bool
is_snapshot_word forms word = list_any (λ (located : Located). not (is_shown located.form) && has_word word located.form) forms

abbrev pub heads_step : Bytes → Form-F (Form × Bool) → Bool
heads_step name (Form-F.Word text) = false
heads_step name (Form-F.Variable text) = false
heads_step name (Form-F.Row text) = false
heads_step name (Form-F.Numeral text) = false
heads_step name (Form-F.Quoted text) = false
heads_step name (Form-F.List parts) = begins_with name (map (λ (part : Form × Bool). part.0) parts) || list_any (λ (part : Form × Bool). part.1) parts

-- the word stands at the head of a list, at any depth of the form
unfoldable pub heads : Bytes → Form → Bool
heads name = para-Form Bool (heads_step name)

-- the word stands at the head of a list in one of the forms, those that are only shown among them
abbrev pub heads_a_list : List Located → Bytes → Bool
heads_a_list forms word = list_any (λ (located : Located). heads word located.form) forms

abbrev pub HasStatedArity : List Located → Bytes → Type 0
HasStatedArity forms word = (arity : Arity) × IsArity forms word arity × (arity ≢ Unstated)

pub record IsRelationName (forms : List Located) (word : Bytes) : Type 0 where
  pub occurs : is_snapshot_word forms word ≡ true
  pub not_logical : is_among logical_words word ≡ false
  pub not_shown_head : is_among shown_heads word ≡ false
  pub used : (heads_a_list forms word ≡ true) ⊎ HasStatedArity forms word

-- each word stands before those that come later
abbrev pub AreAscending : List Bytes → Type 0
AreAscending [] = Unit {0}
AreAscending (word ∷ words) = Each (IsBefore word) words × AreAscending words

-- all relation names, each once, by bytes
pub record AreRelationNames (forms : List Located) (words : List Bytes) : Type 0 where
  pub ascending : AreAscending words
  pub exactly : (word : Bytes) → Contains words word ↔ IsRelationName forms word
