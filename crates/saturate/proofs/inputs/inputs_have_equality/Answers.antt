use Rattle.std.proofs.Common.{arith}
use Rattle.std.proofs.lemmas.List.Folds.{list_any_at}
use Rattle.sigma_base.specs.Lists.{list_any-map}
use Rattle.saturate.proofs.inputs.inputs_have_equality.Goals as goal

pub returns-then-has_equality : goal.returns-then-has_equality
returns-then-has_equality c = grind (arith, list_any_at, list_any-map)
