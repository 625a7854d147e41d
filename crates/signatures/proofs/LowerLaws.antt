-- Tables of lower words grow form by form.
use Rattle.std.proofs.Common.{◌≡◌, ◌||◌, List, Bool, true, false, refl, sym, ap, ◌∙◌}
use Rattle.std.specs.Prelude.{None}
use Rattle.std.specs.HashMap.{HashMap}
use Rattle.kif_tree.specs.Terms.{Bytes}
use Rattle.kif_tree.specs.Shape.{is_among}
use Rattle.kif_tree.specs.declared.place.Located.{Located}
use Rattle.taxonomy.specs.Told.{told_link}
use Rattle.signatures.specs.Lowers.{lower_by, is_lower, lows_of, AddsLower}
use Rattle.signatures.specs.WordTables.{Key}

or_none : (b : Bool) → (b || false) ≡ b
or_none true = refl
or_none false = refl

adds_nothing : {S : Type 0} (table : HashMap Key (List Bytes) S) (located : Located) → ((low high : Bytes) → is_lower low high located ≡ false) → AddsLower table table located
adds_nothing table located h = λ low high. sym (ap (λ b. is_among (lows_of table high) low || b) (h low high) ∙ or_none (is_among (lows_of table high) low))

pub adds_no_link : {S : Type 0} (table : HashMap Key (List Bytes) S) (located : Located) → told_link located ≡ None → AddsLower table table located
adds_no_link table located none = adds_nothing table located (λ low high. ap (lower_by low high) none)
