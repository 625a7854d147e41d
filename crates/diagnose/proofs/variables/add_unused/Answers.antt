use Rattle.std.proofs.Common.{subst}
use Rattle.std.specs.Str.{bytes_eq}
use Rattle.kif_tree.specs.Shape.{is_among}
use Rattle.kif_tree.specs.Terms.{Bytes}
use Rattle.diagnose.specs.Found.{Adds}
use Rattle.diagnose.specs.VariableWalk.{IsOnlyIn}
use Rattle.diagnose.proofs.VariableLaws.{unused_step, unused_skip}
use Rattle.diagnose.proofs.variables.add_unused.Goals as goal
use Rattle.diagnose.proofs.variables.add_unused.Goals.{in-Variable+in_ok-add_unless, in_default}

pub loop-part-preserved : goal.loop-part-preserved
loop-part-preserved c = elim c.match-part.branch [
  | in-Variable+in_ok-add_unless w ↦
      rw w.found-is
      (unused_step c.args.place c.args.listed.now c.loop-part.part-index c.part-item.result w.in-Variable.text c.args.within.now c.args.found.now.items c.loop-part.found.items w.add_unless.new.found.items
      c.loop-part-test.true c.part-item.is w.in-Variable.is c.loop-part.invariant
      (subst (λ (text : Bytes). Adds (IsOnlyIn 7 c.args.place (λ other. bytes_eq other text) (is_among c.args.within.now)) c.loop-part.found.items w.add_unless.new.found.items) w.bytes.ensures w.in_ok-add_unless.ensures))
  | in_default w ↦
      rw w.found-is
      (unused_skip c.args.place c.args.listed.now c.loop-part.part-index c.part-item.result c.args.within.now c.args.found.now.items c.loop-part.found.items c.loop-part-test.true c.part-item.is
      w.in_default.not-Variable c.loop-part.invariant)
]
