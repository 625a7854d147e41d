use Rattle.std.proofs.Common.{arith, ◌+◌}
use Rattle.sigma_base.proofs.SliceLaws.{to_the_end}
use Rattle.calculus_programs.proofs.OpenLaws.{argument_some}
use Rattle.calculus_programs.proofs.opening.frame_at.Goals as goal

pub returns : goal.returns
returns c = λ inner is.
    let some = argument_some c.args.parts.now c.args.at c.index-parts-0.result inner c.requires.argument c.requires.there c.index-parts-0.is is in
    let end = to_the_end c.args.parts.now (c.args.at + 1) in
    grind (arith, some, end, c.in_ok-before.ensures, c.in_ok-following.ensures, c.in_ok-head.ensures)
