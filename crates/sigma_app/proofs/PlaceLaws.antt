-- Why the forms of the files of a command stand at different places.
use Rattle.std.proofs.Common.{◌≡◌, ◌≢◌, ℕ, ◌+◌, ◌≤◌, List, [], ◌∷◌, ◌++◌, sym, ap, subst, arith}
use Rattle.sigma_base.specs.Lists.{Each, each_map, each_append}
use Rattle.kif_tree.specs.declared.place.Located.{Located}
use Rattle.kif_tree.specs.declared.place.Place.{Place}
use Rattle.kif_tree.specs.Places.{PlacesDiffer}
use Rattle.kif_tree.specs.Terms.{Bytes}
use Rattle.kif_reader.specs.Spelling.{Lexed, SpellsForms}
use Rattle.sigma_app.specs.declared.files.Part.{Part}
use Rattle.sigma_app.specs.Files.{Contents, AreWhole, SpellParts}

abbrev StandsApart : Located → Located → Type 0
StandsApart one other = one.place ≢ other.place

-- ---- forms of one text

-- a form of this constituent, and its number is this one or a later one
abbrev IsFrom : ℕ → ℕ → Located → Type 0
IsFrom constituent number located = (located.place.constituent ≡ constituent) × (number ≤ located.place.form)

from_next : (constituent number : ℕ) (located : Located) → IsFrom constituent (number + 1) located → IsFrom constituent number located
from_next constituent number located (here, late) = (here, omega (arith, late))

spelled_from : (constituent number : ℕ) (forms : List Located) (tokens : List Lexed) → SpellsForms constituent number forms tokens → Each (IsFrom constituent number) forms
spelled_from constituent number [] tokens h = tt
spelled_from constituent number (located ∷ more) tokens h =
    let at : located.place.form ≡ number = h.3.number_is in (
      (h.3.constituent_is, omega (arith, at)),
      each_map (IsFrom constituent (number + 1)) (IsFrom constituent number) (from_next constituent number) more (spelled_from constituent (number + 1) more h.1 h.4),
    )

later_apart : (constituent number : ℕ) (located other : Located) → located.place.form ≡ number → IsFrom constituent (number + 1) other → StandsApart located other
later_apart constituent number located other at (here, late) same =
    let form : located.place.form ≡ other.place.form = ap (λ (place : Place). place.form) same in omega (arith, at, late, form)

spelled_apart : (constituent number : ℕ) (forms : List Located) (tokens : List Lexed) → SpellsForms constituent number forms tokens → PlacesDiffer forms
spelled_apart constituent number [] tokens h = tt
spelled_apart constituent number (located ∷ more) tokens h = (
  each_map (IsFrom constituent (number + 1)) (StandsApart located) (λ other from. later_apart constituent number located other h.3.number_is from) more
      (spelled_from constituent (number + 1) more h.1 h.4),
  spelled_apart constituent (number + 1) more h.1 h.4,
)

-- ---- forms of several texts

apart_append : (xs ys : List Located) → PlacesDiffer xs → PlacesDiffer ys → Each (λ (x : Located). Each (StandsApart x) ys) xs → PlacesDiffer (xs ++ ys)
apart_append [] ys a b h = b
apart_append (x ∷ xs) ys a b h = (each_append (StandsApart x) xs ys a.0 h.0, apart_append xs ys a.1 b h.1)

-- the form is of this constituent or of a later one
abbrev IsSince : ℕ → Located → Type 0
IsSince constituent located = constituent ≤ located.place.constituent

abbrev StandSince : ℕ → List Located → Type 0
StandSince constituent forms = PlacesDiffer forms × Each (IsSince constituent) forms

since_apart : (constituent number : ℕ) (located other : Located) → IsFrom constituent number located → IsSince (constituent + 1) other → StandsApart located other
since_apart constituent number located other (here, late) since same =
    let place : located.place.constituent ≡ other.place.constituent = ap (λ (place : Place). place.constituent) same in omega (arith, here, since, place)

since_next : (constituent : ℕ) (located : Located) → IsSince (constituent + 1) located → IsSince constituent located
since_next constituent located since = omega (arith, since)

from_since : (constituent number : ℕ) (located : Located) → IsFrom constituent number located → IsSince constituent located
from_since constituent number located (here, late) = omega (arith, here)

both_since : (constituent : ℕ) (mine rest : List Located) → PlacesDiffer mine → Each (IsFrom constituent 1) mine → StandSince (constituent + 1) rest → StandSince constituent (mine ++ rest)
both_since constituent mine rest apart from (others, since) = (
  apart_append mine rest apart others
      (each_map (IsFrom constituent 1) (λ (x : Located). Each (StandsApart x) rest)
      (λ located here. each_map (IsSince (constituent + 1)) (StandsApart located) (λ other later. since_apart constituent 1 located other here later) rest since) mine from),
  each_append (IsSince constituent) mine rest
      (each_map (IsFrom constituent 1) (IsSince constituent) (from_since constituent 1) mine from)
      (each_map (IsSince (constituent + 1)) (IsSince constituent) (since_next constituent) rest since),
)

whole_since : (contents : Contents) (at : ℕ) (paths : List Bytes) (parts : List Part) (forms : List Located) → AreWhole contents at paths parts → SpellParts parts forms → StandSince at forms
whole_since contents at [] [] forms whole spelled = subst (StandSince at) (sym spelled) (tt, tt)
whole_since contents at [] (part ∷ parts) forms whole spelled = let no_way : part ∷ parts ≡ [] = whole in absurd (cc)
whole_since contents at (path ∷ paths) [] forms whole spelled = absurd whole
whole_since contents at (path ∷ paths) (part ∷ parts) forms whole (mine, rest, e, spells, more) =
    let of_part = spells.spelled.spelled in
    let here : SpellsForms at 1 mine spells.tokens = subst (λ (n : ℕ). SpellsForms n 1 mine spells.tokens) whole.0.numbered of_part in
    subst (StandSince at) (sym e)
    (both_since at mine rest (spelled_apart at 1 mine spells.tokens here) (spelled_from at 1 mine spells.tokens here) (whole_since contents (at + 1) paths parts rest whole.1 more))

-- the forms of files, each of which is the load of its position, stand at different places
pub whole_apart : (contents : Contents) (paths : List Bytes) (parts : List Part) (forms : List Located) → AreWhole contents 1 paths parts → SpellParts parts forms → PlacesDiffer forms
whole_apart contents paths parts forms whole spelled = (whole_since contents 1 paths parts forms whole spelled).0
