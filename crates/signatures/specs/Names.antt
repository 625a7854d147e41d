-- Relation names as the code tests them.
use Rattle.std.specs.HashMap.{HashMap}
use Rattle.std.specs.Prelude.{◌≡◌, Bool, true, None, is_some, not, ◌&&◌, ◌||◌}
use Rattle.kif_tree.specs.Shape.{is_among, logical_words, has_word}
use Rattle.kif_tree.specs.declared.form.Form.{Form}
use Rattle.kif_tree.specs.Terms.{Bytes}
use Rattle.signatures.specs.declared.inherited.Inherited.{Inherited}
use Rattle.signatures.specs.declared.told.Arity.{Arity}
use Rattle.signatures.specs.Arities.{shown_heads, built_in}
use Rattle.signatures.specs.WordTables.{Key, Has}
use Rattle.signatures.specs.Marks.{Marks, OrderedMarks, has, has_ordered, is_stated}
use Rattle.signatures.specs.declared.names.Found.{Found}
use Rattle.signatures.specs.Tables.{arity_by}

-- a word of the snapshot is a relation name
abbrev pub is_name : {S : Type 0} → Marks S → Inherited Arity → Bytes → Bool
is_name heads arities word = not (is_among logical_words word) && (not (is_among shown_heads word) && (has heads word || is_stated (arity_by arities word)))

-- the words that the table has something for were marked
pub record MarksKeys {V S : Type 0} (table : HashMap Key V S) (old new : Marks S) : Type 0 where
  pub kept : (word : Bytes) → has old word ≡ true → has new word ≡ true
  pub marked : (word : Bytes) → Has table word → has new word ≡ true

-- each name is there, but for built-in words
abbrev pub AreCandidates : {S : Type 0} → Marks S → Inherited Arity → Marks S → Type 0
AreCandidates heads arities candidates = (word : Bytes) → built_in word ≡ None → is_name heads arities word ≡ true → has candidates word ≡ true

abbrev pub may_be_name : {S : Type 0} → Marks S → Bytes → Bool
may_be_name candidates word = has candidates word || is_some (built_in word)

-- of the words that were looked at the names are there
abbrev pub HasNames : {S : Type 0} → Marks S → Inherited Arity → Found → Type 0
HasNames heads arities found = (word : Bytes) → has found.seen word ≡ true → is_name heads arities word ≡ true → has_ordered found.ordered word ≡ true

-- the names among the words that pass the test were added
abbrev pub AddsNames : {S : Type 0} → Marks S → Inherited Arity → (Bytes → Bool) → Found → Found → Type 0
AddsNames heads arities test old new = HasNames heads arities old → HasNames heads arities new × ((word : Bytes) → has_ordered new.ordered word ≡ (has_ordered old.ordered word || (is_name heads arities word && test word)))

-- the names among the words that pass the test
abbrev pub AreNames : {S : Type 0} → Marks S → Inherited Arity → (Bytes → Bool) → OrderedMarks → Type 0
AreNames heads arities test ordered = (word : Bytes) → has_ordered ordered word ≡ (is_name heads arities word && test word)

abbrev pub occurs_in : Form → Bytes → Bool
occurs_in form word = has_word word form
