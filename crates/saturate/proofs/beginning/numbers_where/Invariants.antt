use Rattle.std.proofs.Common.{◌≡◌, filter}
use Rattle.kif_tree.specs.Clauses.{same_sign}
use Rattle.saturate.specs.Inputs.{is_query_number}
use Rattle.saturate.specs.Runs as spec
use Rattle.saturate.proofs.beginning.numbers_where.Given as goal

abbrev pub invariant-loop-number : goal.invariant-loop-number
invariant-loop-number l = l.numbers ≡ filter (λ number. same_sign l.of_query (is_query_number l.inputs number)) (spec.numbers_from 0 l.number)
