-- Tables of types, one for each number of an argument.
use Rattle.std.proofs.Common.{◌≡◌, ℕ, ◌+◌, ◌<◌, ◌&&◌, List, [], ◌∷◌, length, get_or, take, Bool, true, false, refl, sym, ap, subst, ◌∙◌, inr, codes, if◌then◌else◌, nat_eq}
use Rattle.std.specs.Prelude.{Option, Some, None, is_some}
use Rattle.std.specs.HashMap.{HashMap, get}
use Rattle.std.specs.List.{filter_map, cons_option}
use Rattle.std.specs.Str.{bytes_eq}
use Rattle.sigma_base.specs.Lists.{Each, each_map}
use Rattle.kif_tree.specs.Terms.{Bytes}
use Rattle.kif_tree.specs.declared.place.Located.{Located}
use Rattle.taxonomy.proofs.GraphLaws.{each_take_more}
use Rattle.taxonomy.specs.Told.{links, ToldArgument, told_argument, arguments}
use Rattle.signatures.specs.declared.told.TypeTold.{TypeTold}
use Rattle.signatures.specs.declared.inherited.Inherited.{Inherited}
use Rattle.signatures.specs.ArgumentTables.{ArgumentTypes, IsTable, AreRight, IsThere, AreLeft, AddsNumber, AreTables}
use Rattle.signatures.specs.Inherited.{Inherits}
use Rattle.signatures.specs.Tables.{types_by as types_of}
use Rattle.signatures.specs.TypeTables.{NumberedTypes, types_for, type_at, as_found}
use Rattle.signatures.specs.Types.{type_told, tells_subclass, type_in, own_types, AreTypes}
use Rattle.signatures.specs.WordTables.{Key, find}
use Rattle.signatures.proofs.TypeLaws.{are_types, flip, equal}

module _ {S T : Type 0} (forms : List Located) where
  pub number_none : (own : NumberedTypes S) (tables : ArgumentTypes T) (located : Located) → told_argument located ≡ None → AddsNumber forms own own tables tables located
  number_none own tables located none = record { right = λ l r. r; left = λ l. l; kept = λ n h. h; here = λ told e. let no_way : Some told ≡ None = sym e ∙ none in absurd (cc) }

  pub number_there : (own : NumberedTypes S) (tables : ArgumentTypes T) (located : Located) (told : ToldArgument) (b : Bool) → told_argument located ≡ Some told → b ≡ is_some (get nat_eq tables told.number) → b ≡ true → AddsNumber forms own own tables tables located
  number_there own tables located told b is found there = record {
    right = λ l r. r;
    left = λ l. l;
    kept = λ n h. h;
    here = λ other e. let same : told ≡ other = one told other is e in ap (λ (t : ToldArgument). is_some (get nat_eq tables t.number)) (sym same) ∙ sym found ∙ there;
  }
    where
      one : (a b : ToldArgument) → told_argument located ≡ Some a → told_argument located ≡ Some b → a ≡ b
      one a b e f = cc

  pub number_added : (own_old own_new : NumberedTypes S) (old new : ArgumentTypes T) (located : Located) (told : ToldArgument) (table : HashMap Key (List TypeTold) S) (types : Inherited (List TypeTold)) (b : Bool) → told_argument located ≡ Some told
      → b ≡ is_some (get nat_eq old told.number) → b ≡ false → ((word : Bytes) → find table word ≡ types_for own_old told.number word) → ((other : ℕ) (word : Bytes) → nat_eq other told.number ≡ false → types_for own_new other word ≡ types_for own_old other word)
      → ((word : Bytes) → find types.own word ≡ find table word) → Inherits (links forms) types → get nat_eq new told.number ≡ Some types → ((other : ℕ) → nat_eq told.number other ≡ false → get nat_eq new other ≡ get nat_eq old other)
      → AddsNumber forms own_old own_new old new located
  number_added own_old own_new old new located told table types b is found missing taken others own inherits here there = record {
    right = λ left right number t e. is_right left right number t e (nat_eq told.number number) refl;
    left = λ left number word none. still left number word none (nat_eq told.number number) refl;
    kept = λ number h. kept number h (nat_eq told.number number) refl;
    here = λ other e. let same : told ≡ other = one told other is e in ap (λ (t : ToldArgument). is_some (get nat_eq new t.number)) (sym same) ∙ ap is_some here;
  }
    where
      one : (a b : ToldArgument) → told_argument located ≡ Some a → told_argument located ≡ Some b → a ≡ b
      one a b e f = cc

      table_is : AreLeft forms own_old old → IsTable forms told.number types
      table_is left = ((λ word. own word ∙ taken word ∙ left told.number word (sym found ∙ missing)), inherits)

      is_right : AreLeft forms own_old old → AreRight forms old → (number : ℕ) (t : Inherited (List TypeTold)) → get nat_eq new number ≡ Some t → (d : Bool) → nat_eq told.number number ≡ d → IsTable forms number t
      is_right left right number t e true same =
          let n : told.number ≡ number = equal told.number number same in
          let t_is : types ≡ t = only t (ap (get nat_eq new) n ∙ e) in
          subst (λ (k : ℕ). IsTable forms k t) n (subst (IsTable forms told.number) t_is (table_is left))
        where
          only : (t : Inherited (List TypeTold)) → get nat_eq new told.number ≡ Some t → types ≡ t
          only t f = cc
      is_right left right number t e false other = right number t (sym (there number other) ∙ e)

      still : AreLeft forms own_old old → (number : ℕ) (word : Bytes) → is_some (get nat_eq new number) ≡ false → (d : Bool) → nat_eq told.number number ≡ d → types_for own_new number word ≡ as_found (filter_map (type_at number word) forms)
      still left number word none true same =
          let n : told.number ≡ number = equal told.number number same in
          let some : is_some (get nat_eq new number) ≡ true = ap (λ (k : ℕ). is_some (get nat_eq new k)) (sym n) ∙ ap is_some here in absurd (cc)
      still left number word none false other = others number word (flip told.number number other) ∙ left number word (ap is_some (sym (there number other)) ∙ none)

      kept : (number : ℕ) → is_some (get nat_eq old number) ≡ true → (d : Bool) → nat_eq told.number number ≡ d → is_some (get nat_eq new number) ≡ true
      kept number h true same = let n : told.number ≡ number = equal told.number number same in ap (λ (k : ℕ). is_some (get nat_eq new k)) (sym n) ∙ ap is_some here
      kept number h false other = ap is_some (there number other) ∙ h

-- the tables so far
abbrev pub AreSoFar : {S T : Type 0} → List Located → List Located → NumberedTypes S → ArgumentTypes T → Type 0
AreSoFar forms gone own tables = AreLeft forms own tables × AreTables forms gone tables

pub tables_more : {S T : Type 0} (forms : List Located) (i : ℕ) (located : Located) (own_old own_new : NumberedTypes S) (old new : ArgumentTypes T) → i < length forms → located ≡ get_or forms i located → AreSoFar forms (take i forms) own_old old
    → AddsNumber forms own_old own_new old new located → AreSoFar forms (take (i + 1) forms) own_new new
tables_more forms i located own_old own_new old new lt is so_far adds = (
  adds.left so_far.0,
  record {
    right = adds.right so_far.0 so_far.1.right;
    all =
        each_take_more (IsThere new) forms i located lt (each_map (IsThere old) (IsThere new) (λ l h told e. adds.kept told.number (h told e)) (take i forms) so_far.1.all) (subst (IsThere new) is adds.here);
  },
)

none_told : (forms : List Located) (word : Bytes) (number : ℕ) → Each (λ (located : Located). (told : ToldArgument) → told_argument located ≡ Some told → nat_eq told.number number ≡ false) forms → own_types forms word number ≡ []
none_told [] word number h = refl
none_told (located ∷ forms) word number h = go (told_argument located) refl (none_told forms word number h.1)
  where
    nothing : (b : Bool) (t : Option TypeTold) → (if b && false then t else None) ≡ None
    nothing true t = refl
    nothing false t = refl

    go : (o : Option ToldArgument) → told_argument located ≡ o → own_types forms word number ≡ [] → filter_map (type_in word number) (cons_option o (arguments forms)) ≡ []
    go None e ih = ih
    go (Some told) e ih =
        ap (λ (t : Option TypeTold). cons_option t (own_types forms word number)) (ap (λ b. if bytes_eq told.word word && b then type_of told else None) (h.0 told e) ∙ nothing (bytes_eq told.word word) (type_of told)) ∙ ih
      where
        type_of : ToldArgument → Option TypeTold
        type_of told = type_told told.class told.place (tells_subclass (codes "domain") (codes "domainSubclass") told.head)

pub types_by : {S : Type 0} (forms : List Located) (tables : ArgumentTypes S) → AreTables forms forms tables → (word : Bytes) (number : ℕ) → AreTypes forms word number (types_of (get nat_eq tables number) word)
types_by forms tables are word number = go (get nat_eq tables number) refl
  where
    go : (o : Option (Inherited (List TypeTold))) → get nat_eq tables number ≡ o → AreTypes forms word number (types_of o word)
    go (Some table) e = let right = are.right number table e in are_types forms number table right.0 right.1 word
    go None e = inr (none word, inr (record { none = λ other has chain. has (none other); is = refl }))
      where
        apart : (located : Located) → IsThere tables located → (told : ToldArgument) → told_argument located ≡ Some told → nat_eq told.number number ≡ false
        apart located there told is = not_so (nat_eq told.number number) (λ k. let no_way : true ≡ false = sym (there told is) ∙ ap (λ n. is_some (get nat_eq tables n)) (equal told.number number k) ∙ ap is_some e in absurd (cc))
          where
            not_so : (b : Bool) → (b ≡ true → ⊥) → b ≡ false
            not_so true f = absurd (f refl)
            not_so false f = refl

        none : (w : Bytes) → own_types forms w number ≡ []
        none w = none_told forms w number (each_map (IsThere tables) (λ (located : Located). (told : ToldArgument) → told_argument located ≡ Some told → nat_eq told.number number ≡ false) apart forms are.all)
