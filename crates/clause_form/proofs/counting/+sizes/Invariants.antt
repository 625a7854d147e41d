use Rattle.std.proofs.Common.{◌≡◌, map, take}
use Rattle.clause_form.specs.Sizes.{sizes, totals, capped_sizes}
use Rattle.clause_form.proofs.counting.+sizes.Given as goal

abbrev pub invariant-totals_of-loop-part : goal.invariant-totals_of-loop-part
invariant-totals_of-loop-part l = record {
  sums : l.sums ≡ capped_sizes (totals (map sizes (take l.part-index l.parts))).sums;
  products : l.products ≡ capped_sizes (totals (map sizes (take l.part-index l.parts))).products;
}
