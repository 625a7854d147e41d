-- What is wrong with words as it is found: by tables, at the first form that has them.
use Rattle.std.specs.Prelude.{◌≡◌, ℕ, ◌⊎◌, List, ◌∷◌, ◌++◌, length, Bool, true, false, not, ◌&&◌, ◌||◌, nat_eq, codes, Option, Some, None, is_none}
use Rattle.std.specs.Str.{bytes_eq}
use Rattle.kif_tree.specs.Names.{parts_in}
use Rattle.kif_tree.specs.Places.{PlacesDiffer}
use Rattle.kif_tree.specs.Shape.{is_among, logical_words, has_word}
use Rattle.kif_tree.specs.Terms.{Bytes}
use Rattle.kif_tree.specs.declared.form.Form.{Form}
use Rattle.kif_tree.specs.declared.place.Located.{Located}
use Rattle.kif_tree.specs.declared.place.Place.{Place}
use Rattle.taxonomy.specs.declared.told.Told.{Told}
use Rattle.taxonomy.specs.Chains.{parents}
use Rattle.taxonomy.specs.Disjoint.{AreDisjointBy}
use Rattle.taxonomy.specs.Told.{Link, ToldTaxonomy, told_taxonomy, word_text}
use Rattle.signatures.specs.Arities.{built_in}
use Rattle.signatures.specs.Relations.{is_shown}
use Rattle.signatures.specs.Tables.{arity_in, relations_in}
use Rattle.signatures.specs.declared.signatures.Signatures.{Signatures}
use Rattle.signatures.specs.declared.told.Arity.{Arity}
use Rattle.signatures.specs.declared.told.Arity.TheVariants.{Exactly, Any, Unstated}
use Rattle.diagnose.specs.declared.diagnostic.Diagnostic.{Diagnostic}
use Rattle.diagnose.specs.declared.words.WordTables.{WordTables}
use Rattle.diagnose.specs.WordTables.{AreWords, IsDocumented, IsUnstated, AreSeen}

abbrev pub second_text : List Form → Option Bytes
second_text (head ∷ second ∷ more) = word_text second
second_text _ = None

-- the second part of a list, where that is a word
abbrev pub second_word : Form → Option Bytes
second_word form = second_text (parts_in form)

-- neither logical nor built-in
unfoldable pub is_plain : Bytes → Bool
is_plain word = not (is_among logical_words word) && is_none (built_in word)

abbrev pub lacks_parent : ToldTaxonomy → Bytes → Bool
lacks_parent taxonomy word = nat_eq (length (parents taxonomy.links word)) 0 && (not (bytes_eq word (codes "Entity")) && is_plain word)

abbrev pub lacks_documentation : WordTables → Bytes → Bool
lacks_documentation tables word = not (is_among tables.documented word) && is_plain word

-- a diagnostic that names a word and no other place
abbrev pub of_word : ℕ → Place → Bytes → Diagnostic
of_word code place word = record { code = code; place = place; term = word; other = None }

-- what is missing of the word, said at the place
abbrev pub IsFault : ToldTaxonomy → WordTables → Place → Bytes → Diagnostic → Type 0
IsFault taxonomy tables place word d =
    ((lacks_parent taxonomy word ≡ true) × (d ≡ of_word 1 place word))
    ⊎ (((lacks_documentation tables word ≡ true) × (d ≡ of_word 2 place word))
    ⊎ ((is_among tables.unstated word ≡ true) × (d ≡ of_word 11 place word)))

abbrev pub is_unstated : Arity → Bool
is_unstated (Exactly count) = false
is_unstated Any = false
is_unstated Unstated = true

-- the relation names of the tables without a stated arity
abbrev pub AreUnstated : Signatures → List Bytes → Type 0
AreUnstated signatures words = (word : Bytes) → is_among words word ≡ (is_among (relations_in signatures) word && is_unstated (arity_in signatures word))

-- the words that pass the test were added
abbrev pub Gains : (Bytes → Bool) → List Bytes → List Bytes → Type 0
Gains test old new = (word : Bytes) → is_among new word ≡ (is_among old word || test word)

-- a fault of a word that passes the test and isn't among the old ones
pub record IsNew (Fault : Bytes → Diagnostic → Type 0) (old : List Bytes) (test : Bytes → Bool) (d : Diagnostic) : Type 0 where
  pub word : Bytes
  pub new : is_among old word ≡ false
  pub has : test word ≡ true
  pub fault : Fault word d

abbrev pub is_word : Bytes → Bytes → Bool
is_word word other = bytes_eq other word

abbrev pub occurs_in : Form → Bytes → Bool
occurs_in form word = has_word word form

-- the first of the links that tell a parent of the word stands at the place
pub record IsFirstTold (links : List Link) (word : Bytes) (place : Place) : Type 0 where
  pub told : Told
  pub more : List Told
  pub has_parent : parents links word ≡ told ∷ more
  pub at : told.place ≡ place

-- the form is the first to tell a parent of its second word, at or above which two words are told to be disjoint
pub record IsDisjoint (taxonomy : ToldTaxonomy) (located : Located) (d : Diagnostic) : Type 0 where
  pub word : Bytes
  pub second : second_word located.form ≡ Some word
  pub plain : is_plain word ≡ true
  pub first : IsFirstTold taxonomy.links word located.place
  pub by : Place
  pub disjoint : AreDisjointBy taxonomy word word by
  pub is : d ≡ record { code = 3; place = located.place; term = word; other = Some by }

-- the form stands among forms of which the tables are made, and the words of those before it were seen
pub record StandsAmong (before : List Located) (located : Located) (after : List Located) (taxonomy : ToldTaxonomy) (tables : WordTables) (seen : List Bytes) : Type 0 where
  pub differ : PlacesDiffer (before ++ located ∷ after)
  pub not_shown : is_shown located.form ≡ false
  pub told : taxonomy ≡ told_taxonomy (before ++ located ∷ after)
  pub documented : AreWords (IsDocumented (before ++ located ∷ after)) tables.documented
  pub unstated : AreWords (IsUnstated (before ++ located ∷ after)) tables.unstated
  pub before_it : AreSeen before seen
