use Rattle.std.proofs.Common.{◌+◌, ◌-◌, ◌∙◌, List, take, drop, length, refl, sym}
use Rattle.kif_tree.specs.declared.form.Form.{Form}
use Rattle.clause_form.specs.ReadingLaws.{reading_other}
use Rattle.clause_form.specs.Readings.{reading}
use Rattle.clause_form.proofs.ReadLaws.{always, read_empty, headed, read_connected, read_plain, so_far, each_next, step_matrices, step_counts}
use Rattle.clause_form.proofs.reading.+read.Goals as goal

pub read-returns-in_default : goal.read-returns-in_default
read-returns-in_default t c =
    rw (reading_other c.args.prefix.now c.args.form.now c.in_default.not-List) (record { matrix = c.literal.ensures; counts = always c.literal.result refl })

pub read-returns-in_default-items-clause-matrix : goal.read-returns-in_default-items-clause-matrix
read-returns-in_default-items-clause-matrix t c =
    rw (read_empty c.args.prefix.now c.args.form.now c.in-List.parts c.items.result.now c.in-List.is c.items.ensures c.in_default-items.len_below) c.literal-in_default-items.ensures

pub read-returns-in_default-items-clause-counts : goal.read-returns-in_default-items-clause-counts
read-returns-in_default-items-clause-counts t c =
    rw (read_empty c.args.prefix.now c.args.form.now c.in-List.parts c.items.result.now c.in-List.is c.items.ensures c.in_default-items.len_below) (always c.literal-in_default-items.result refl)

pub read-returns-in-Some-clause-matrix : goal.read-returns-in-Some-clause-matrix
read-returns-in-Some-clause-matrix t c =
    let rest : List Form = take (length c.items.result.now - 1) (drop 1 c.items.result.now) in
    let is = headed c.args.form.now c.head-item.result c.in-List.parts c.items.result.now c.in-List.is c.items.ensures c.in-len1-up.len_at_least c.head-item.is in
    rw (read_connected c.args.prefix.now c.args.form.now c.head-item.result rest c.in-Some.connective is (sym c.connective_of.ensures ∙ c.in-Some.is)) c.read_connected.ensures.matrix

pub read-returns-in-Some-clause-counts : goal.read-returns-in-Some-clause-counts
read-returns-in-Some-clause-counts t c =
    let rest : List Form = take (length c.items.result.now - 1) (drop 1 c.items.result.now) in
    let is = headed c.args.form.now c.head-item.result c.in-List.parts c.items.result.now c.in-List.is c.items.ensures c.in-len1-up.len_at_least c.head-item.is in
    rw (read_connected c.args.prefix.now c.args.form.now c.head-item.result rest c.in-Some.connective is (sym c.connective_of.ensures ∙ c.in-Some.is)) c.read_connected.ensures.counts

pub read-returns-in-None-clause-matrix : goal.read-returns-in-None-clause-matrix
read-returns-in-None-clause-matrix t c =
    let rest : List Form = take (length c.items.result.now - 1) (drop 1 c.items.result.now) in
    let is = headed c.args.form.now c.head-item.result c.in-List.parts c.items.result.now c.in-List.is c.items.ensures c.in-len1-up.len_at_least c.head-item.is in
    rw (read_plain c.args.prefix.now c.args.form.now c.head-item.result rest is (sym c.connective_of.ensures ∙ c.in-None.is)) c.literal-in-None.ensures

pub read-returns-in-None-clause-counts : goal.read-returns-in-None-clause-counts
read-returns-in-None-clause-counts t c =
    let rest : List Form = take (length c.items.result.now - 1) (drop 1 c.items.result.now) in
    let is = headed c.args.form.now c.head-item.result c.in-List.parts c.items.result.now c.in-List.is c.items.ensures c.in-len1-up.len_at_least c.head-item.is in
    rw (read_plain c.args.prefix.now c.args.form.now c.head-item.result rest is (sym c.connective_of.ensures ∙ c.in-None.is)) (always c.literal-in-None.result refl)

pub read_group-loop-part-preserved : goal.read_group-loop-part-preserved
read_group-loop-part-preserved t c =
    let before = so_far c.args.prefix.now c.args.parts.now c.args.sign c.args.scope.now c.args.counts.now c.loop-part.part-index in
    let after = so_far c.args.prefix.now c.args.parts.now c.args.sign c.args.scope.now c.args.counts.now (c.loop-part.part-index + 1) in
    let next = each_next c.args.prefix.now c.args.parts.now c.args.sign c.args.scope.now c.args.counts.now c.loop-part.part-index c.part-item.result c.loop-part-test.true c.part-item.is in
    let read = reading c.args.prefix.now c.part-item.result c.args.sign c.args.scope.now in
    let held = c.loop-part.invariant in (
      step_matrices before after read c.loop-part.matrices c.push.new.self c.in_ok-read.field-0 c.loop-part.counts held.0 held.1 next c.in_ok-read.ensures.matrix c.in_ok-push.ensures.ok,
      step_counts before after read c.loop-part.counts c.read.new.counts held.1 next c.in_ok-read.ensures.counts,
    )
