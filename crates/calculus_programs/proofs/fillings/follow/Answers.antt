use Rattle.std.proofs.Common.{◌≡◌, ◌++◌, map, ap, ◌∙◌, arith}
use Rattle.kif_tree.specs.Subst.{value_of}
use Rattle.calculus_programs.specs.Pairs.{fill_pair}
use Rattle.calculus_programs.proofs.FillingLaws.{follows_pairs}
use Rattle.calculus_programs.proofs.fillings.follow.Goals as goal

pub returns : goal.returns
returns c =
    let out : c.append_pairs.new.out ≡ map (fill_pair (value_of c.args.then.now)) c.args.first.now.pairs ++ c.args.then.now = grind arith in
    ap value_of out ∙ follows_pairs c.args.first.now.pairs c.args.then.now
