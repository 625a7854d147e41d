use Rattle.std.proofs.Common.{◌++◌}
use Rattle.signatures.specs.Arities.{function_classes, relation_classes}
use Rattle.signatures.proofs.arities.by_class.Goals as goal

pub returns : goal.returns
returns c = c.or_by.ensures (function_classes ++ relation_classes) c.or_by_relation-found.ensures
