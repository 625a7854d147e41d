-- Types told of words, and those that are inherited.
use Rattle.std.proofs.Common.{arith, ◌&&◌, ◌≡◌, ◌≢◌, ℕ, ◌+◌, ◌<◌, ◌⊎◌, List, [], ◌∷◌, ◌++◌, length, get_or, take, Bool, true, false, refl, sym, ap, subst, ◌∙◌, inl, inr, if◌then◌else◌}
use Rattle.std.specs.Prelude.{Option, Some, None, MatchOption, unwrap_or, nat_eq, codes}
use Rattle.std.specs.HashMap.{HashMap, get}
use Rattle.std.proofs.lemmas.Bool.Decides.{nat_tests}
use Rattle.std.specs.List.{filter_map, cons_option}
use Rattle.std.specs.Str.{bytes_eq}
use Rattle.std.proofs.lemmas.Slice.Eq.{bytes_eq-Decides}
use Rattle.std.proofs.lemmas.List.{take_more}
use Rattle.std.proofs.lemmas.List.Elements.{filter_map-append}
use Rattle.kif_tree.specs.Terms.{Bytes}
use Rattle.kif_tree.specs.declared.place.Located.{Located}
use Rattle.signatures.specs.declared.told.TypeTold.{TypeTold}
use Rattle.signatures.specs.declared.types.FoundType.{FoundType}
use Rattle.taxonomy.specs.declared.told.ChainKind.TheVariants as kinds
use Rattle.taxonomy.specs.Chains.{Chain}
use Rattle.taxonomy.specs.Told.{links, ToldArgument, told_argument, ToldPair, told_pair}
use Rattle.signatures.specs.declared.inherited.Inherited.{Inherited}
use Rattle.signatures.specs.Inherited.{first_found, find_near, value_in, Inherits}
use Rattle.signatures.specs.Nearest.{IsNearest, NoneReached}
use Rattle.signatures.specs.Layers.{near_of}
use Rattle.signatures.specs.Types.{type_told, tells_subclass, type_in, own_types, HasTypes, AreInherited, AreNone, AreTypes, range_in, ranges}
use Rattle.signatures.specs.TypeTables.{as_found, found_for, type_by, type_at, range_by, range_at, AddsFound, AreToldTypes, NumberedTypes, find_types, types_for, AddsArgument, AreArguments}
use Rattle.signatures.proofs.ArityLaws.{nearest_as}
use Rattle.signatures.specs.WordTables.{Key, find, Has, IsPushed}

append_none : (xs : List TypeTold) → xs ++ [] ≡ xs
append_none [] = refl
append_none (x ∷ xs) = ap (λ ys. x ∷ ys) (append_none xs)

found_list : (xs : List TypeTold) → unwrap_or (as_found xs) [] ≡ xs
found_list [] = refl
found_list (x ∷ xs) = refl

found_more : (xs : List TypeTold) (x : TypeTold) → Some (xs ++ x ∷ []) ≡ as_found (xs ++ x ∷ [])
found_more [] x = refl
found_more (y ∷ xs) x = refl

pub adds_none : {S : Type 0} → (table : HashMap Key (List TypeTold) S) → AddsFound table table None
adds_none table = λ word types e. e ∙ ap as_found (sym (append_none types))

pub adds_one : {S : Type 0} → (old new : HashMap Key (List TypeTold) S) (found : FoundType) (told : TypeTold) → told ≡ record { subclass = found.subclass; class = found.class.now; place = found.place } → IsPushed old new found.word.now told → AddsFound old new (Some found)
adds_one old new found told told_is pushed = λ other types e. pushed other ∙ go other types e (bytes_eq other found.word.now) refl
  where
    one : (other : Bytes) (b : Bool) → bytes_eq found.word.now other ≡ b → found_for other (Some found) ≡ (if b then Some told else None)
    one other b h = ap (λ (d : Bool). if d then Some (record { subclass = found.subclass; class = found.class.now; place = found.place }) else None) h ∙ ap (λ (t : TypeTold). if b then Some t else None) (sym told_is)

    go : (other : Bytes) (types : List TypeTold) → find old other ≡ as_found types → (b : Bool) → bytes_eq other found.word.now ≡ b
        → (if b then Some (unwrap_or (find old other) [] ++ told ∷ []) else find old other) ≡ as_found (types ++ cons_option (found_for other (Some found)) [])
    go other types e true h =
        let equal : other ≡ found.word.now = (bytes_eq-Decides other found.word.now).0 h in
        let here : found_for other (Some found) ≡ Some told = one other true ((bytes_eq-Decides found.word.now other).1 (sym equal)) in
        ap (λ (o : Option (List TypeTold)). Some (unwrap_or o [] ++ told ∷ [])) e ∙ ap (λ (ts : List TypeTold). Some (ts ++ told ∷ [])) (found_list types) ∙ found_more types told
        ∙ ap (λ (o : Option TypeTold). as_found (types ++ cons_option o [])) (sym here)
    go other types e false h =
        let apart : bytes_eq found.word.now other ≡ false = not_same (bytes_eq found.word.now other) (λ k. let no_way : true ≡ false = sym ((bytes_eq-Decides other found.word.now).1 (sym ((bytes_eq-Decides found.word.now other).0 k))) ∙ h in absurd (cc)) in
        e ∙ ap as_found (sym (append_none types)) ∙ ap (λ (o : Option TypeTold). as_found (types ++ cons_option o [])) (sym (one other false apart))
      where
        not_same : (b : Bool) → (b ≡ true → ⊥) → b ≡ false
        not_same true no_way = absurd (no_way refl)
        not_same false no_way = refl

pub told_more : {S : Type 0} → (told : Bytes → Located → Option TypeTold) (forms : List Located) (i : ℕ) (located : Located) (old new : HashMap Key (List TypeTold) S) (found : Option FoundType) → i < length forms → located ≡ get_or forms i located
    → AreToldTypes told (take i forms) old → ((word : Bytes) → found_for word found ≡ told word located) → AddsFound old new found → AreToldTypes told (take (i + 1) forms) new
told_more told forms i located old new found lt is h found_is adds = λ word.
    adds word (filter_map (told word) (take i forms)) (h word)
    ∙ ap (λ (o : Option TypeTold). as_found (filter_map (told word) (take i forms) ++ cons_option o [])) (found_is word)
    ∙ sym
    (ap (λ (fs : List Located). as_found (filter_map (told word) fs)) (take_more forms i located lt) ∙ ap as_found (filter_map-append (told word) (take i forms) (get_or forms i located ∷ []))
    ∙ ap (λ (l : Located). as_found (filter_map (told word) (take i forms) ++ cons_option (told word l) [])) (sym is))

pub adds_by : {S : Type 0} → (old new : HashMap Key (List TypeTold) S) (o : Option FoundType) (found : FoundType) (word : Bytes) (told : TypeTold) → o ≡ Some found → word ≡ found.word.now
    → told ≡ record { subclass = found.subclass; class = found.class.now; place = found.place } → IsPushed old new word told → AddsFound old new o
adds_by old new o found word told is same told_is pushed = subst (AddsFound old new) (sym is) (adds_one old new found told told_is (subst (λ (w : Bytes). IsPushed old new w told) same pushed))

-- ---- tables by the numbers of arguments

pub equal : (a b : ℕ) → nat_eq a b ≡ true → a ≡ b
equal a b h = grind (arith, nat_tests)

pub flip : (a b : ℕ) → nat_eq a b ≡ false → nat_eq b a ≡ false
flip a b h = grind (arith, nat_tests)

module _ {S : Type 0} where
  pub argument_none : (tables : NumberedTypes S) (located : Located) → told_argument located ≡ None → AddsArgument tables tables located
  argument_none tables located none = λ number word types e. e ∙ ap as_found (sym (append_none types)) ∙ ap (λ (o : Option ToldArgument). as_found (types ++ cons_option (type_by word number o) [])) (sym none)

  pub argument_one : (old mid new : NumberedTypes S) (table longer : HashMap Key (List TypeTold) S) (found : Option FoundType) (told : ToldArgument) (located : Located) → told_argument located ≡ Some told
      → ((word : Bytes) → find table word ≡ types_for old told.number word) → ((other : ℕ) (word : Bytes) → nat_eq other told.number ≡ false → types_for mid other word ≡ types_for old other word)
      → ((word : Bytes) → found_for word found ≡ type_in word told.number told) → AddsFound table longer found
      → get nat_eq new told.number ≡ Some longer → ((other : ℕ) → nat_eq told.number other ≡ false → get nat_eq new other ≡ get nat_eq mid other) → AddsArgument old new located
  argument_one old mid new table longer found told located is taken others found_is adds here there = λ number word types e. go number word types e (nat_eq number told.number) refl
    where
      told_is : (number : ℕ) (word : Bytes) → type_at number word located ≡ type_in word number told
      told_is number word = ap (type_by word number) is

      apart : (number : ℕ) (word : Bytes) → nat_eq number told.number ≡ false → type_in word number told ≡ None
      apart number word e = ap (λ b. if bytes_eq told.word word && b then type_told told.class told.place (tells_subclass (codes "domain") (codes "domainSubclass") told.head) else None) (flip number told.number e) ∙ nothing (bytes_eq told.word word) (type_told told.class told.place (tells_subclass (codes "domain") (codes "domainSubclass") told.head))
        where
          nothing : (b : Bool) (t : Option TypeTold) → (if b && false then t else None) ≡ None
          nothing true t = refl
          nothing false t = refl

      go : (number : ℕ) (word : Bytes) (types : List TypeTold) → types_for old number word ≡ as_found types → (b : Bool) → nat_eq number told.number ≡ b → types_for new number word ≡ as_found (types ++ cons_option (type_at number word located) [])
      go number word types e true same =
          let n : number ≡ told.number = equal number told.number same in
          ap (λ (k : ℕ). types_for new k word) n ∙ ap (λ (o : Option (HashMap Key (List TypeTold) S)). find_types o word) here
          ∙ adds word types (taken word ∙ ap (λ (k : ℕ). types_for old k word) (sym n) ∙ e)
          ∙ ap (λ (o : Option TypeTold). as_found (types ++ cons_option o [])) (found_is word ∙ ap (λ (k : ℕ). type_in word k told) (sym n) ∙ sym (told_is number word))
      go number word types e false other =
          ap (λ (o : Option (HashMap Key (List TypeTold) S)). find_types o word) (there number (flip number told.number other)) ∙ others number word other ∙ e ∙ ap as_found (sym (append_none types))
          ∙ ap (λ (o : Option TypeTold). as_found (types ++ cons_option o [])) (sym (told_is number word ∙ apart number word other))

  pub arguments_more : (forms : List Located) (i : ℕ) (located : Located) (old new : NumberedTypes S) → i < length forms → located ≡ get_or forms i located → AreArguments (take i forms) old → AddsArgument old new located → AreArguments (take (i + 1) forms) new
  arguments_more forms i located old new lt is h adds = λ number word.
      adds number word (filter_map (type_at number word) (take i forms)) (h number word)
      ∙ sym
      (ap (λ (fs : List Located). as_found (filter_map (type_at number word) fs)) (take_more forms i located lt) ∙ ap as_found (filter_map-append (type_at number word) (take i forms) (get_or forms i located ∷ []))
      ∙ ap (λ (l : Located). as_found (filter_map (type_at number word) (take i forms) ++ cons_option (type_at number word l) [])) (sym is))

-- ---- types of the argument with one number

by_composed : {X Y Z : Type 0} (f : X → Option Y) (g : Y → Option Z) (h : X → Option Z) → ((x : X) → MatchOption (f x) (h x ≡ None) (λ y. h x ≡ g y)) → (xs : List X) → filter_map h xs ≡ filter_map g (filter_map f xs)
by_composed f g h each [] = refl
by_composed {X = X} {Y = Y} {Z = Z} f g h each (x ∷ xs) = go (f x) (each x) (by_composed f g h each xs)
  where
    go : (o : Option Y) → MatchOption o (h x ≡ None) (λ y. h x ≡ g y) → filter_map h xs ≡ filter_map g (filter_map f xs) → cons_option (h x) (filter_map h xs) ≡ filter_map g (cons_option o (filter_map f xs))
    go None e ih = ap (λ (o : Option Z). cons_option o (filter_map h xs)) e ∙ ih
    go (Some y) e ih = ap (λ (o : Option Z). cons_option o (filter_map h xs)) e ∙ ap (λ (zs : List Z). cons_option (g y) zs) ih

pub types_are : (forms : List Located) (number : ℕ) (word : Bytes) → filter_map (type_at number word) forms ≡ own_types forms word number
types_are forms number word = by_composed told_argument (type_in word number) (type_at number word) (λ located. each (told_argument located)) forms
  where
    each : (o : Option ToldArgument) → MatchOption o (type_by word number o ≡ None) (λ told. type_by word number o ≡ type_in word number told)
    each None = refl
    each (Some told) = refl

pub ranges_are : (forms : List Located) (word : Bytes) → filter_map (range_at word) forms ≡ ranges forms word
ranges_are forms word = by_composed told_pair (range_in word) (range_at word) (λ located. each (told_pair located)) forms
  where
    each : (o : Option ToldPair) → MatchOption o (range_by word o ≡ None) (λ told. range_by word o ≡ range_in word told)
    each None = refl
    each (Some told) = refl

pub ranges_by : {S : Type 0} → (forms : List Located) (table : HashMap Key (List TypeTold) S) → AreToldTypes range_at forms table → (word : Bytes) → unwrap_or (find table word) [] ≡ ranges forms word
ranges_by forms table h word = ap (λ (o : Option (List TypeTold)). unwrap_or o []) (h word) ∙ found_list (filter_map (range_at word) forms) ∙ ranges_are forms word

as_found_none : (xs : List TypeTold) → as_found xs ≡ None → xs ≡ []
as_found_none [] e = refl
as_found_none (x ∷ xs) e = absurd (cc)

as_found_some : (xs types : List TypeTold) → as_found xs ≡ Some types → (xs ≢ []) × (types ≡ xs)
as_found_some [] types e = absurd (cc)
as_found_some (x ∷ xs) types e = ((λ k. absurd (cc)), cc)

found_some : (xs : List TypeTold) → (xs ≢ []) → as_found xs ≡ Some xs
found_some [] h = absurd (h refl)
found_some (x ∷ xs) h = refl

pub are_types : (forms : List Located) (number : ℕ) (table : Inherited (List TypeTold)) → AreToldTypes (type_at number) forms table.own → Inherits (links forms) table → (word : Bytes)
    → AreTypes forms word number (unwrap_or (value_in table word) [])
are_types forms number table own inherits word = by_own (find table.own word) refl
  where
    own_is : (w : Bytes) → find table.own w ≡ as_found (own_types forms w number)
    own_is w = own w ∙ ap as_found (types_are forms number w)

    back : (w : Bytes) → Chain (links forms) kinds.Relation word w → HasTypes forms number w → Has table.own w
    back w chain has = (own_types forms w number, own_is w ∙ found_some (own_types forms w number) has)

    forth : (w : Bytes) → Has table.own w → HasTypes forms number w
    forth w has = (as_found_some (own_types forms w number) has.0 (sym (own_is w) ∙ has.1)).0

    inherited : (o : Option Bytes) → MatchOption o (NoneReached (links forms) (Has table.own) word) (IsNearest (links forms) (Has table.own) word)
        → AreInherited forms word number (unwrap_or (find_near table.own o) []) ⊎ AreNone forms word number (unwrap_or (find_near table.own o) [])
    inherited (Some near) n = inl (record {
      near = near;
      nearest = nearest_as (links forms) (Has table.own) (HasTypes forms number) word near n back (forth near);
      own = ap (λ (o : Option (List TypeTold)). unwrap_or o []) (own_is near) ∙ found_list (own_types forms near number);
    })
    inherited None n = inr (record { none = λ other has chain. n other (back other chain has) chain; is = refl })

    by_own : (o : Option (List TypeTold)) → find table.own word ≡ o → AreTypes forms word number (unwrap_or (first_found o (find_near table.own (near_of (find table.nearest word)))) [])
    by_own (Some types) e = inl (as_found_some (own_types forms word number) types (sym (own_is word) ∙ e))
    by_own None e = inr (as_found_none (own_types forms word number) (sym (own_is word) ∙ e), inherited (near_of (find table.nearest word)) (inherits word e))
