use Rattle.std.proofs.Common.{length}
use Rattle.std.specs.Prelude.{◌↔◌}
use Rattle.sig_io.specs.Named.{names_of, AreDistinct}
use Rattle.sig_io.proofs.named.have_own_names.Given as goal

abbrev pub invariant-loop-files : goal.invariant-loop-files
invariant-loop-files l = AreDistinct (names_of l.fn.files) ↔ AreDistinct (names_of l.files)

abbrev pub decreases-loop-files : goal.decreases-loop-files
decreases-loop-files l = length l.files
