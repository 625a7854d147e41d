-- Tables with a value for some words, and words that are gone through.
use Rattle.std.proofs.Common.{◌≡◌, ◌⊎◌, List, [], ◌∷◌, ◌++◌, Bool, true, false, if◌then◌else◌, refl, sym, ap, subst, ◌∙◌, inl, inr}
use Rattle.std.specs.Prelude.{Option, Some, None, is_some, unwrap_or}
use Rattle.std.specs.Str.{bytes_eq}
use Rattle.std.specs.HashMap.{HashMap, UpdatesBy}
use Rattle.std.specs.Map.{lookup, KeepsOthers}
use Rattle.std.specs.Cmp.Lexicographic.{nat_list_eq_equiv}
use Rattle.std.proofs.lemmas.Slice.Eq.{bytes_eq-Decides}
use Rattle.sigma_base.specs.Lists.{each_append, each_map}
use Rattle.kif_tree.specs.Terms.{Bytes}
use Rattle.signatures.specs.WordTables.{Key, find, IsSet, IsTaken, IsPushed, IsTableOf, IsGoneThrough}

apart : (word other key : Bytes) → bytes_eq word other ≡ false → bytes_eq word key ≡ true → bytes_eq other key ≡ false
apart word other key n y = nat_list_eq_equiv.symm other key ∙ sym (nat_list_eq_equiv.congr word key other y) ∙ n

module _ {V S : Type 0} where
  -- the table has the value for the word, and what it had for others
  pub updated_by : (old new : HashMap Key V S) (word : Bytes) (value : Option V) → UpdatesBy (λ (x y : Key). bytes_eq x.items y.items) (λ (key : Key). bytes_eq word key.items) old new value
      → (other : Bytes) → find new other ≡ (if bytes_eq other word then value else find old other)
  unfolding KeepsOthers
  updated_by old new word value h other = go (bytes_eq other word) refl
    where
      go : (b : Bool) → bytes_eq other word ≡ b → find new other ≡ (if b then value else find old other)
      go true e = ap (find new) ((bytes_eq-Decides other word).0 e) ∙ h.1
      go false e = h.3 (λ (key : Key). bytes_eq other key.items) (λ x y. nat_list_eq_equiv.congr other x.items y.items) (λ key. apart word other key.items (nat_list_eq_equiv.symm word other ∙ e))

  pub set_by : (old new : HashMap Key V S) (key : Key) (word : Bytes) (value : V) → key.items ≡ word → UpdatesBy (λ (x y : Key). bytes_eq x.items y.items) (λ (k : Key). bytes_eq key.items k.items) old new (Some value) → IsSet old new word value
  set_by old new key word value same h = λ other. updated_by old new key.items (Some value) h other ∙ ap (λ (w : Bytes). if bytes_eq other w then Some value else find old other) same

-- ---- lists of words

module _ {X S : Type 0} where
  pub taken_by : (old new : HashMap Key (List X) S) (word : Bytes) → UpdatesBy (λ (x y : Key). bytes_eq x.items y.items) (λ (key : Key). bytes_eq word key.items) old new None → IsTaken old new word
  taken_by old new word h = λ other apart. updated_by old new word None h other ∙ ap (λ b. if b then None else find old other) apart

  pub pushed_by : (old mid new : HashMap Key (List X) S) (word : Bytes) (list longer : List X) (item : X) → list ≡ unwrap_or (find old word) [] → IsTaken old mid word → longer ≡ list ++ item ∷ [] → IsSet mid new word longer → IsPushed old new word item
  pushed_by old mid new word list longer item is taken more set = λ other. set other ∙ go other (bytes_eq other word) refl
    where
      go : (other : Bytes) (b : Bool) → bytes_eq other word ≡ b → (if b then Some longer else find mid other) ≡ (if b then Some (unwrap_or (find old other) [] ++ item ∷ []) else find old other)
      go other true e = ap (λ (xs : List X). Some xs) (more ∙ ap (λ (xs : List X). xs ++ item ∷ []) (is ∙ ap (λ (w : Bytes). unwrap_or (find old w) []) (sym ((bytes_eq-Decides other word).0 e))))
      go other false e = taken other e

-- ---- words that are gone through

module _ {V S : Type 0} (IsRight : Bytes → V → Type 0) (NeedsNone : Bytes → Type 0) where
  pub table_of_none : (table : HashMap Key V S) → table.entries ≡ [] → IsTableOf IsRight NeedsNone [] table
  table_of_none table empty = record {
    right = λ word value e. let none : find table word ≡ None = ap (λ (es : List (Key × V)). lookup (λ (key : Key). bytes_eq word key.items) es) empty in absurd (cc);
    all = tt;
  }

  pub table_of_more : (words : List Bytes) (old new : HashMap Key V S) (word : Bytes) → IsTableOf IsRight NeedsNone words old → IsGoneThrough IsRight NeedsNone old new word → IsTableOf IsRight NeedsNone (words ++ word ∷ []) new
  table_of_more words old new word table gone = record {
    right = λ other value e. go other value (gone.right other value e);
    all =
        each_append (λ other. find new other ≡ None → NeedsNone other) words (word ∷ [])
        (each_map (λ other. find old other ≡ None → NeedsNone other) (λ other. find new other ≡ None → NeedsNone other) (λ other h e. h (gone.kept other e)) words table.all) (gone.here, tt);
  }
    where
      go : (other : Bytes) (value : V) → ((find old other ≡ Some value) ⊎ IsRight other value) → IsRight other value
      go other value (inl e) = table.right other value e
      go other value (inr h) = h

  pub gone_known : (table : HashMap Key V S) (word : Bytes) (b : Bool) → b ≡ is_some (find table word) → b ≡ true → IsGoneThrough IsRight NeedsNone table table word
  gone_known table word b is known = record {
    right = λ other value e. inl e;
    kept = λ other e. e;
    here = λ e. let some : is_some (find table word) ≡ true = sym is ∙ known in let none : is_some (find table word) ≡ false = ap is_some e in absurd (cc);
  }

  pub gone_without : (table : HashMap Key V S) (word : Bytes) → NeedsNone word → IsGoneThrough IsRight NeedsNone table table word
  gone_without table word h = record { right = λ other value e. inl e; kept = λ other e. e; here = λ e. h }

  pub gone_with : (old new : HashMap Key V S) (word : Bytes) (value : V) → IsRight word value → IsSet old new word value → IsGoneThrough IsRight NeedsNone old new word
  gone_with old new word value right set = record {
    right = λ other v e. case other v (bytes_eq other word) refl (sym (set other) ∙ e);
    kept = λ other e. drop_set other (bytes_eq other word) (sym (set other) ∙ e);
    here = λ e. let there : find new word ≡ Some value = set word ∙ ap (λ (b : Bool). if b then Some value else find old word) ((bytes_eq-Decides word word).1 refl) in absurd (cc);
  }
    where
      case : (other : Bytes) (v : V) (b : Bool) → bytes_eq other word ≡ b → (if b then Some value else find old other) ≡ Some v → (find old other ≡ Some v) ⊎ IsRight other v
      case other v true is e = let same : value ≡ v = cc in inr (subst (λ (w : Bytes). IsRight w v) (sym ((bytes_eq-Decides other word).0 is)) (subst (IsRight word) same right))
      case other v false is e = inl e

      drop_set : (other : Bytes) (b : Bool) → (if b then Some value else find old other) ≡ None → find old other ≡ None
      drop_set other true e = absurd (cc)
      drop_set other false e = e
