use Rattle.std.proofs.Common.{sym, arith}
use Rattle.kif_tree.proofs.ProfileLaws.{none_applied}
use Rattle.kif_tree.proofs.profile.applies_own.Goals as goal

pub returns-then-is_empty : goal.returns-then-is_empty
returns-then-is_empty c = sym (none_applied c.args.parts.now c.bound-names.result.now c.bound-names.ensures (grind arith))
