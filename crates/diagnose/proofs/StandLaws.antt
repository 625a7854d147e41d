-- Where forms stand.
use Rattle.std.proofs.Common.{◌≡◌, ◌&&◌, not, zero, suc, List, [], ◌∷◌, ◌++◌, Bool, true, false, if◌then◌else◌, refl, sym, ap, ◌∙◌, arith}
use Rattle.std.specs.Prelude.{Option, Some, None, Contains}
use Rattle.std.specs.List.{filter_map, cons_option}
use Rattle.std.proofs.lemmas.List.Elements.{Contains-append_right}
use Rattle.sigma_base.specs.Lists.{Each}
use Rattle.kif_tree.specs.declared.place.Located.{Located}
use Rattle.kif_tree.specs.declared.place.Place.{Place}
use Rattle.kif_tree.specs.Terms.{Bytes}
use Rattle.kif_tree.specs.Places.{PlacesDiffer}
use Rattle.kif_tree.specs.Shape.{first_of, has_word}
use Rattle.taxonomy.proofs.ChainLaws.{contains_head, contains_tail}
use Rattle.taxonomy.proofs.GraphLaws.{each_in}
use Rattle.signatures.specs.Relations.{is_shown}
use Rattle.diagnose.specs.Words.{place_with, first_with}

-- ---- places

place_among : (forms : List Located) (one : Located) (other : Located) → Contains forms other → Each (λ (l : Located). one.place ≡ l.place → ⊥) forms → one.place ≡ other.place → ⊥
place_among forms one other among h same = each_in (λ (l : Located). one.place ≡ l.place → ⊥) forms other among h same

-- at one place stands one form
pub one_at_place : (forms : List Located) (a b : Located) → PlacesDiffer forms → Contains forms a → Contains forms b → a.place ≡ b.place → a ≡ b
one_at_place [] a b h (k, lt, is) _ same = absurd (omega (arith, lt))
one_at_place (first ∷ forms) a b h (zero, lt, is) (zero, lt', is') same = sym is ∙ is'
one_at_place (first ∷ forms) a b h (zero, lt, is) (suc m, lt', is') same =
    absurd (place_among forms first b (m, omega (arith, lt'), is') h.0 (ap (λ (l : Located). l.place) is ∙ same))
one_at_place (first ∷ forms) a b h (suc n, lt, is) (zero, lt', is') same =
    absurd (place_among forms first a (n, omega (arith, lt), is) h.0 (ap (λ (l : Located). l.place) is' ∙ sym same))
one_at_place (first ∷ forms) a b h (suc n, lt, is) (suc m, lt', is') same = one_at_place forms a b h.1 (n, omega (arith, lt), is) (m, omega (arith, lt'), is') same

pub middle : (before : List Located) (located : Located) (after : List Located) → Contains (before ++ located ∷ after) located
middle before located after = Contains-append_right before (located ∷ after) located (contains_head located after)

-- a form that isn't only shown stands at the place
pub record IsOn (forms : List Located) (place : Place) : Type 0 where
  pub located : Located
  pub among : Contains forms located
  pub at : located.place ≡ place
  pub not_shown : is_shown located.form ≡ false

on_later : (first : Located) (forms : List Located) (place : Place) → IsOn forms place → IsOn (first ∷ forms) place
on_later first forms place on = record { located = on.located; among = contains_tail first forms on.located on.among; at = on.at; not_shown = on.not_shown }

not_true : (b : Bool) → not b ≡ true → b ≡ false
not_true true h = sym h
not_true false h = refl

both : (a b : Bool) → (a && b) ≡ true → (a ≡ true) × (b ≡ true)
both true b h = (refl, h)
both false b h = absurd (cc)

pub first_is_on : (forms : List Located) (word : Bytes) (place : Place) → first_with forms word ≡ Some place → IsOn forms place
first_is_on [] word place e = absurd (cc)
first_is_on (first ∷ forms) word place e = go (not (is_shown first.form) && has_word word first.form) refl (first_is_on forms word place) e
  where
    go : (b : Bool) → (not (is_shown first.form) && has_word word first.form) ≡ b → (first_with forms word ≡ Some place → IsOn forms place)
        → first_of (cons_option (if b then Some first.place else None) (filter_map (place_with word) forms)) ≡ Some place → IsOn (first ∷ forms) place
    go true is ih e =
        let same : first.place ≡ place = cc in
        record { located = first; among = contains_head first forms; at = same; not_shown = not_true (is_shown first.form) (both (not (is_shown first.form)) (has_word word first.form) is).0 }
    go false is ih e = on_later first forms place (ih e)

-- what forms tell stands where one of them does
pub record Tells {Y : Type 0} (tell : Located → Option Y) (forms : List Located) (y : Y) : Type 0 where
  pub located : Located
  pub among : Contains forms located
  pub told : tell located ≡ Some y

pub picked : {X Y : Type 0} (f : X → Option Y) (xs : List X) (y : Y) → Contains (filter_map f xs) y → (x : X) × Contains xs x × (f x ≡ Some y)
picked f [] y (k, lt, is) = absurd (omega (arith, lt))
picked {X = X} {Y = Y} f (first ∷ xs) y h = go (f first) refl (picked f xs y) h
  where
    later : (x : X) × Contains xs x × (f x ≡ Some y) → (x : X) × Contains (first ∷ xs) x × (f x ≡ Some y)
    later (x, among, is) = (x, contains_tail first xs x among, is)

    go : (o : Option Y) → f first ≡ o → (Contains (filter_map f xs) y → (x : X) × Contains xs x × (f x ≡ Some y)) → Contains (cons_option o (filter_map f xs)) y → (x : X) × Contains (first ∷ xs) x × (f x ≡ Some y)
    go None is ih h = later (ih h)
    go (Some x) is ih (zero, lt, same) = (first, contains_head first xs, is ∙ ap Some same)
    go (Some x) is ih (suc k, lt, same) = later (ih (k, omega (arith, lt), same))

pub told_by : {Y : Type 0} (tell : Located → Option Y) (forms : List Located) (y : Y) → Contains (filter_map tell forms) y → Tells tell forms y
told_by tell forms y h = let p = picked tell forms y h in record { located = p.0; among = p.1; told = p.2 }
