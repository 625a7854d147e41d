use Rattle.std.proofs.Common.{ap, ◌∙◌, ◌&&◌, not}
use Rattle.std.specs.Str.{bytes_eq}
use Rattle.kif_tree.specs.Shape.{is_among}
use Rattle.diagnose.proofs.VariableLaws.{drops_step, drops_skip}
use Rattle.diagnose.proofs.variables.remove_listed.Goals as goal
use Rattle.diagnose.proofs.variables.remove_listed.Goals.{in-Variable, in_default}

pub loop-part-preserved : goal.loop-part-preserved
loop-part-preserved c = elim c.match-part.branch [
  | in-Variable w ↦
      rw w.set-is
      (drops_step c.args.listed.now c.loop-part.part-index c.part-item.result w.in-Variable.text c.args.set.now c.loop-part.set w.remove.new.self c.loop-part-test.true c.part-item.is w.in-Variable.is c.loop-part.invariant
      (λ name. w.remove.ensures name ∙ ap (λ text. is_among c.loop-part.set name && not (bytes_eq name text)) w.bytes.ensures))
  | in_default w ↦
      rw w.set-is (drops_skip c.args.listed.now c.loop-part.part-index c.part-item.result c.args.set.now c.loop-part.set c.loop-part-test.true c.part-item.is w.in_default.not-Variable c.loop-part.invariant)
]
