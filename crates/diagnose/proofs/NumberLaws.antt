-- Types are told of arguments with small numbers only, and those of an argument are told once.
use Rattle.std.proofs.Common.{◌≡◌, ℕ, ◌<◌, ◌≤◌, ◌^◌, ◌⊎◌, List, [], ◌∷◌, length, Bool, true, false, refl, sym, ap, ◌∙◌, arith, inl, inr, if◌then◌else◌}
use Rattle.std.specs.Prelude.{Option, Some, None, MatchOption, ◌&&◌, nat_eq, nat_lt, codes}
use Rattle.std.specs.List.{filter_map, cons_option}
use Rattle.std.specs.Str.{bytes_eq, all_ascii_digits}
use Rattle.std.specs.Str.Parse.{digits_value}
use Rattle.std.proofs.lemmas.Bool.Decides.{nat_tests}
use Rattle.std.proofs.lemmas.Str.Parse.{digits_value_short, numerals_by_value, tells_all_ascii_digits}
use Rattle.kif_tree.specs.Terms.{Bytes}
use Rattle.kif_tree.specs.declared.form.Form.{Form, out-Form}
use Rattle.kif_tree.specs.declared.form.Form.TheOpen.{Form-F}
use Rattle.kif_tree.specs.declared.place.Located.{Located}
use Rattle.kif_tree.specs.declared.place.Place.{Place}
use Rattle.taxonomy.specs.Told.{links, ToldArgument, arguments, told_argument, argument_of_parts, argument_of, parts_of, word_texts, short_number, number_layer, is_short_number}
use Rattle.signatures.specs.Types.{type_in, type_told, tells_subclass, own_types, HasTypes, AreInherited, AreNone, AreTypes}
use Rattle.signatures.specs.declared.told.TypeTold.{TypeTold}
use Rattle.signatures.proofs.NameLaws.{nearest_one}

abbrev IsSmall : Option ℕ → Type 0
IsSmall o = MatchOption o (Unit {0}) (λ n. n < 1000000000)

abbrev IsOfSmall : Option ToldArgument → Type 0
IsOfSmall o = MatchOption o (Unit {0}) (λ told. told.number < 1000000000)

both : (a b : Bool) → (a && b) ≡ true → (a ≡ true) × (b ≡ true)
both true b h = (refl, h)
both false b h = absurd (cc)

short_value : (text : Bytes) → is_short_number text ≡ true → digits_value 10 text < 1000000000
short_value text h =
    let p = both (all_ascii_digits text) (nat_lt 0 (length text) && nat_lt (length text) 10) h in
    let q = both (nat_lt 0 (length text)) (nat_lt (length text) 10) p.1 in
    let short : length text < 10 = grind (arith, nat_tests, q.1) in
    let bound : digits_value 10 text < 10 ^ 9 = digits_value_short (numerals_by_value (λ ds. all_ascii_digits ds ≡ true) tells_all_ascii_digits) text 9 p.0 (omega (arith, short)) in
    omega (arith, bound)

layer_small : (layer : Form-F Form) → IsSmall (number_layer layer)
layer_small (Form-F.Word text) = tt
layer_small (Form-F.Variable text) = tt
layer_small (Form-F.Row text) = tt
layer_small (Form-F.Numeral text) = go (is_short_number text) refl
  where
    go : (b : Bool) → is_short_number text ≡ b → IsSmall (if b then Some (digits_value 10 text) else None)
    go true e = short_value text e
    go false e = tt
layer_small (Form-F.Quoted text) = tt
layer_small (Form-F.List parts) = tt

number_small : (f : Form) → IsSmall (short_number f)
unfolding short_number
number_small f = layer_small (out-Form f)

of_small : (place : Place) (texts : Option (List Bytes)) (o : Option ℕ) → IsSmall o → IsOfSmall (argument_of place texts o)
of_small place (Some (head ∷ word ∷ class ∷ [])) (Some number) h = go (nat_eq number 0)
  where
    go : (b : Bool) → IsOfSmall (if b then None else Some (record { head = head; word = word; number = number; class = class; place = place }))
    go true = tt
    go false = h
of_small place (Some (head ∷ word ∷ class ∷ more ∷ texts)) (Some number) h = tt
of_small place (Some (head ∷ word ∷ [])) (Some number) h = tt
of_small place (Some (head ∷ [])) (Some number) h = tt
of_small place (Some []) (Some number) h = tt
of_small place (Some []) None h = tt
of_small place (Some (head ∷ [])) None h = tt
of_small place (Some (head ∷ word ∷ [])) None h = tt
of_small place (Some (head ∷ word ∷ class ∷ [])) None h = tt
of_small place (Some (head ∷ word ∷ class ∷ more ∷ texts)) None h = tt
of_small place None (Some number) h = tt
of_small place None None h = tt

parts_small : (place : Place) (parts : List Form) → IsOfSmall (argument_of_parts place parts)
parts_small place [] = tt
parts_small place (a ∷ []) = tt
parts_small place (a ∷ b ∷ []) = tt
parts_small place (a ∷ b ∷ c ∷ []) = tt
parts_small place (a ∷ b ∷ c ∷ d ∷ []) = of_small place (word_texts (a ∷ b ∷ d ∷ [])) (short_number c) (number_small c)
parts_small place (a ∷ b ∷ c ∷ d ∷ e ∷ parts) = tt

-- nothing is told of a great number
type_none : (word : Bytes) (number : ℕ) (told : ToldArgument) → told.number < 1000000000 → 1000000000 ≤ number → type_in word number told ≡ None
type_none word number told small great = go (bytes_eq told.word word) (nat_eq told.number number) refl
  where
    go : (a b : Bool) → nat_eq told.number number ≡ b
        → (if a && b then type_told told.class told.place (tells_subclass (codes "domain") (codes "domainSubclass") told.head) else None) ≡ None
    go true true e = absurd (let same : told.number ≡ number = grind (arith, nat_tests, e) in omega (arith, same, small, great))
    go true false e = refl
    go false b e = refl

no_own : (forms : List Located) (word : Bytes) (number : ℕ) → 1000000000 ≤ number → own_types forms word number ≡ []
no_own [] word number great = refl
no_own (located ∷ forms) word number great = go (told_argument located) (parts_small located.place (parts_of located.form)) (no_own forms word number great)
  where
    go : (o : Option ToldArgument) → IsOfSmall o → own_types forms word number ≡ [] → filter_map (type_in word number) (cons_option o (arguments forms)) ≡ []
    go None h ih = ih
    go (Some told) h ih = ap (λ (o : Option TypeTold). cons_option o (own_types forms word number)) (type_none word number told h great) ∙ ih

pub no_types : (forms : List Located) (word : Bytes) (number : ℕ) (types : List TypeTold) → 1000000000 ≤ number → AreTypes forms word number types → types ≡ []
no_types forms word number types great (inl h) = h.1 ∙ no_own forms word number great
no_types forms word number types great (inr h) = go h.1
  where
    go : AreInherited forms word number types ⊎ AreNone forms word number types → types ≡ []
    go (inl i) = i.own ∙ no_own forms i.near number great
    go (inr n) = n.is

-- ---- an argument has its types once

pub types_one : (forms : List Located) (word : Bytes) (number : ℕ) (a b : List TypeTold) → AreTypes forms word number a → AreTypes forms word number b → a ≡ b
types_one forms word number a b (inl h) (inl k) = h.1 ∙ sym k.1
types_one forms word number a b (inl h) (inr k) = absurd (h.0 k.0)
types_one forms word number a b (inr h) (inl k) = absurd (k.0 h.0)
types_one forms word number a b (inr h) (inr k) = go h.1 k.1
  where
    go : AreInherited forms word number a ⊎ AreNone forms word number a → AreInherited forms word number b ⊎ AreNone forms word number b → a ≡ b
    go (inl i) (inl j) =
        i.own ∙ ap (λ (w : Bytes). own_types forms w number) (nearest_one (links forms) (HasTypes forms number) word i.near j.near i.nearest j.nearest) ∙ sym j.own
    go (inl i) (inr u) = absurd (u.none i.near i.nearest.has i.nearest.reached.shortest)
    go (inr u) (inl j) = absurd (u.none j.near j.nearest.has j.nearest.reached.shortest)
    go (inr u) (inr v) = u.is ∙ sym v.is
