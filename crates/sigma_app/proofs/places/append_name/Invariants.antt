use Rattle.std.proofs.Common.{◌≡◌, length}
use Rattle.kif_tree.specs.Printed as spec
use Rattle.sigma_app.proofs.places.append_name.Given as goal

abbrev pub invariant-loop-names : goal.invariant-loop-names
invariant-loop-names l = record {
  searched : spec.name_of l.names l.number ≡ spec.name_of l.fn.names l.number;
  kept : l.out ≡ l.fn.out;
}

abbrev pub decreases-loop-names : goal.decreases-loop-names
decreases-loop-names l = length l.names
