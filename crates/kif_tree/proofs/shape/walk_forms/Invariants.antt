use Rattle.std.proofs.Common.{◌≡◌, ◌≤◌, map, drop}
use Rattle.kif_tree.specs.declared.place.Located.{Located}
use Rattle.kif_tree.specs.Shape as spec
use Rattle.kif_tree.proofs.shape.walk_forms.Given as goal

abbrev pub invariant-loop-located : goal.invariant-loop-located
invariant-loop-located l = record {
  fits : l.next ≤ 18446744073709551615;
  left : spec.walked l.next (map (λ (located : Located). spec.as_top located.form) (drop l.located-index l.forms)) ≡ spec.walked 0 (map (λ (located : Located). spec.as_top located.form) l.forms);
}
