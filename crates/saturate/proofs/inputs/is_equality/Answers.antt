use Rattle.std.proofs.Common.{length, sym, ap, ◌∙◌}
use Rattle.saturate.proofs.InputLaws.{equality_headed}
use Rattle.saturate.proofs.inputs.is_equality.Goals as goal

pub returns-then-parts_of-eq3 : goal.returns-then-parts_of-eq3
returns-then-parts_of-eq3 c =
    c.is_headed.ensures ∙ equality_headed c.args.atom.now (sym (ap length c.parts_of.ensures) ∙ c.if-parts_of-eq3.true)
