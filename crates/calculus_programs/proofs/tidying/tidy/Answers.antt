use Rattle.std.proofs.Common.{◌≡◌, refl, arith}
use Rattle.kif_tree.specs.Clauses.{Literals}
use Rattle.calculus.specs.Tidy.{tidy, without_repeats, renamed}
use Rattle.calculus_programs.proofs.tidying.tidy.Goals as goal

tidy_is : (c : Literals) → tidy c ≡ renamed (without_repeats c)
unfolding tidy
tidy_is c = refl

pub returns : goal.returns
returns c = let is = tidy_is c.args.clause.now in grind (arith, is)
