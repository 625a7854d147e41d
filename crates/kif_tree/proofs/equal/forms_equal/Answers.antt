use Rattle.std.proofs.lemmas.Bool.Decides.{same_from_decides}
use Rattle.kif_tree.specs.Terms.{same}
use Rattle.kif_tree.specs.SameLaws.{same-Decides}
use Rattle.kif_tree.proofs.equal.forms_equal.Goals as goal

pub returns-clause-test : goal.returns-clause-test
returns-clause-test c = same_from_decides c.trees_equal.result (same c.args.first.now c.args.second.now) c.trees_equal.ensures (same-Decides c.args.first.now c.args.second.now)
