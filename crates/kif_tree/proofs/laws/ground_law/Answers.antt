use Rattle.std.proofs.Common.{false}
use Rattle.kif_tree.proofs.SubstLaws.{clean-bind}
use Rattle.kif_tree.proofs.laws.ground_law.Goals as goal

pub returns : goal.returns
returns c = λ g form rowless fills. clean-bind false g fills form rowless
