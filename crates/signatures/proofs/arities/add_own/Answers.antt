use Rattle.signatures.specs.OwnArities.{IsRight, NeedsNone}
use Rattle.signatures.proofs.WordTableLaws.{gone_with}
use Rattle.signatures.proofs.arities.add_own.Goals as goal

pub returns : goal.returns
returns c = λ forms valences told.
    gone_with (IsRight forms) (NeedsNone forms) c.args.table.now c.set.new.table c.args.word.now c.in-Some.arity (c.in-Some.ensures forms valences told) c.in_ok-set.ensures
