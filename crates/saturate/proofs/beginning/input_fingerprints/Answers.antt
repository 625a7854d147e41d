use Rattle.std.proofs.Common.{◌<◌, length, sym, ap, ◌∙◌, arith}
use Rattle.saturate.specs.declared.table.FingerprintTable.{FingerprintTable}
use Rattle.saturate.specs.Marks.{tabled_with}
use Rattle.saturate.proofs.BeginningLaws.{tabled_inputs, there_is}
use Rattle.saturate.proofs.beginning.input_fingerprints.Goals as goal
use Rattle.saturate.proofs.beginning.input_fingerprints.Goals.{in-Some+in_ok-add, in_default}

pub loop-number-preserved : goal.loop-number-preserved
loop-number-preserved c =
    let inputs = c.args.inputs.now in
    elim c.match-get.branch [
      | in-Some+in_ok-add w ↦
          w.table-is ∙ w.in_ok-add.ensures
          ∙ ap (λ (table : FingerprintTable). tabled_with table w.in-Some.input.now.clause) c.loop-number.invariant
          ∙ sym (tabled_inputs inputs c.loop-number.number w.in-Some.input.now (sym w.in-Some.ensures))
      | in_default w ↦
          let below : c.loop-number.number < length inputs = omega (arith, c.count-number-end.ensures) in
          absurd (there_is inputs c.loop-number.number below (sym w.in_default.ensures))
    ]
