-- What is missing of a word, or wrong with it.
use Rattle.std.specs.Prelude.{◌≡◌, ◌≢◌, List, [], ◌∷◌, Bool, true, false, not, ◌&&◌, if◌then◌else◌, codes, Option, Some, None}
use Rattle.std.specs.List.{filter_map, list_any}
use Rattle.kif_tree.specs.Terms.{Bytes}
use Rattle.kif_tree.specs.Clauses.{is_word}
use Rattle.kif_tree.specs.Names.{parts_in}
use Rattle.kif_tree.specs.Shape.{is_among, first_of, logical_words, has_word}
use Rattle.kif_tree.specs.declared.form.Form.{Form, out-Form}
use Rattle.kif_tree.specs.declared.place.Located.{Located}
use Rattle.kif_tree.specs.declared.place.Place.{Place}
use Rattle.taxonomy.specs.declared.told.Told.{Told}
use Rattle.taxonomy.specs.Chains.{parents}
use Rattle.taxonomy.specs.Disjoint.{AreDisjointBy}
use Rattle.taxonomy.specs.Told.{links, told_taxonomy}
use Rattle.signatures.specs.Arities.{built_in, IsArity}
use Rattle.signatures.specs.Relations.{is_shown, is_snapshot_word, IsRelationName}
use Rattle.signatures.specs.declared.told.Arity.TheVariants.{Unstated}

-- a word of the snapshot that is neither logical nor built-in
pub record IsPlainWord (forms : List Located) (word : Bytes) : Type 0 where
  pub occurs : is_snapshot_word forms word ≡ true
  pub not_logical : is_among logical_words word ≡ false
  pub not_built_in : built_in word ≡ None

abbrev pub place_with : Bytes → Located → Option Place
place_with word located = if not (is_shown located.form) && has_word word located.form then Some located.place else None

-- where the first form with the word stands, of those that aren't only shown
abbrev pub first_with : List Located → Bytes → Option Place
first_with forms word = first_of (filter_map (place_with word) forms)

-- no told form has the word first
pub record HasNoParent (forms : List Located) (place : Place) (word : Bytes) (other : Option Place) : Type 0 where
  pub plain : IsPlainWord forms word
  pub not_entity : word ≢ codes "Entity"
  pub no_parent : parents (links forms) word ≡ []
  pub first : first_with forms word ≡ Some place
  pub alone : other ≡ None

abbrev pub documents_in : Bytes → List Form → Bool
documents_in word (head ∷ subject ∷ more) = is_word (codes "documentation") (out-Form head) && is_word word (out-Form subject)
documents_in word _ = false

-- the form is headed `documentation`, and the word is its first argument
abbrev pub documents : Bytes → Located → Bool
documents word located = documents_in word (parts_in located.form)

pub record HasNoDocumentation (forms : List Located) (place : Place) (word : Bytes) (other : Option Place) : Type 0 where
  pub plain : IsPlainWord forms word
  pub undocumented : list_any (documents word) forms ≡ false
  pub first : first_with forms word ≡ Some place
  pub alone : other ≡ None

-- two different words at or above the word are told to be disjoint
pub record HasDisjointParents (forms : List Located) (place : Place) (word : Bytes) (other : Option Place) : Type 0 where
  pub plain : IsPlainWord forms word
  pub told : Told
  pub more : List Told
  pub has_parent : parents (links forms) word ≡ told ∷ more
  pub at : place ≡ told.place
  pub by : Place
  pub disjoint : AreDisjointBy (told_taxonomy forms) word word by
  pub names : other ≡ Some by

-- nothing says how many arguments the relation takes
pub record HasUnstatedArity (forms : List Located) (place : Place) (word : Bytes) (other : Option Place) : Type 0 where
  pub name : IsRelationName forms word
  pub unstated : IsArity forms word Unstated
  pub first : first_with forms word ≡ Some place
  pub alone : other ≡ None
