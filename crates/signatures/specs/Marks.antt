-- Sets of words.
use Rattle.std.specs.Prelude.{◌≡◌, List, map, Bool, true, false, ◌||◌, is_some}
use Rattle.std.specs.BTreeMap.{BTreeMap, keys, get_by}
use Rattle.std.specs.HashMap.{HashMap}
use Rattle.std.specs.Cmp.Lexicographic.{slice_cmp}
use Rattle.std.specs.Ordering.{nat_cmp}
use Rattle.std.specs.Str.{bytes_eq}
use Rattle.kif_tree.specs.Clauses.{begins_with}
use Rattle.kif_tree.specs.Terms.{Bytes}
use Rattle.kif_tree.specs.declared.form.Form.{Form}
use Rattle.signatures.specs.declared.told.Arity.{Arity}
use Rattle.signatures.specs.declared.told.Arity.TheVariants.{Exactly, Any, Unstated}
use Rattle.signatures.specs.Relations.{heads}
use Rattle.signatures.specs.WordTables.{Key, find}

abbrev pub Marks : Type 0 → Type 0
Marks S = HashMap Key (Unit {0}) S

abbrev pub has : {S : Type 0} → Marks S → Bytes → Bool
has marks word = is_some (find marks word)

-- the words that pass the test were added
abbrev pub Marked : {S : Type 0} → (Bytes → Bool) → Marks S → Marks S → Type 0
Marked test old new = (word : Bytes) → has new word ≡ (has old word || test word)

abbrev pub is_word : Bytes → Bytes → Bool
is_word word other = bytes_eq other word

abbrev pub begins : List Form → Bytes → Bool
begins parts word = begins_with word parts

abbrev pub heads_in : Form → Bytes → Bool
heads_in form word = heads word form

-- the words are those that pass the test
abbrev pub AreMarked : {S : Type 0} → (Bytes → Bool) → Marks S → Type 0
AreMarked test marks = (word : Bytes) → has marks word ≡ test word

-- the same in the order of the words
abbrev pub OrderedMarks : Type 0
OrderedMarks = BTreeMap Key (Unit {0})

abbrev pub has_ordered : OrderedMarks → Bytes → Bool
has_ordered marks word = is_some (get_by (λ (key : Key). slice_cmp nat_cmp word key.items) marks)

abbrev pub key_words : OrderedMarks → List Bytes
key_words marks = map (λ (key : Key). key.items) (keys marks)

abbrev pub is_stated : Arity → Bool
is_stated (Exactly number) = true
is_stated Any = true
is_stated Unstated = false
