use Rattle.std.proofs.Common.{◌≡◌, ◌++◌, List, true}
use Rattle.std.specs.HashMap.{keys}
use Rattle.kif_tree.specs.Terms.{Bytes}
use Rattle.sigma_base.specs.Lists.{Each}
use Rattle.signatures.specs.Marks.{has}
use Rattle.signatures.specs.WordTables.{Key}
use Rattle.signatures.proofs.names.mark_keys.Given as goal

abbrev pub invariant-loop-key : goal.invariant-loop-key
invariant-loop-key g l = (done : List Key) × (done ++ l.key-iterator ≡ keys l.table) × ((w : Bytes) → has l.fn.marks w ≡ true → has l.marks w ≡ true) × Each (λ (k : Key). has l.marks k.items ≡ true) done
