use Rattle.std.proofs.Common.{◌≡◌}
use Rattle.kif_tree.specs.Names.{free_names}
use Rattle.clause_form.proofs.AskedLaws.{asks_variable, asks_no_other}
use Rattle.clause_form.proofs.query.asked_variables.Goals as goal
use Rattle.clause_form.proofs.query.asked_variables.Goals.{in-Variable+in_ok-copy+in_ok-push, in_default}

pub loop-name-preserved : goal.loop-name-preserved
loop-name-preserved c =
    let names = c.items-name-items.result.now in
    let i = c.loop-name.name-index in
    elim c.match-name.branch [
      | in-Variable+in_ok-copy+in_ok-push w ↦
          let more = asks_variable names i c.name-item.result w.in-Variable.text c.loop-name-test.true c.name-item.is w.in-Variable.is in
          cc (w.in_ok-copy.ensures, w.in_ok-push.ensures.ok)
      | in_default w ↦
          let free : names ≡ free_names c.args.query.now = cc (c.in_ok-names.ensures, c.items-name-items.ensures) in
          let more = asks_no_other c.args.query.now names i c.name-item.result free c.loop-name-test.true c.name-item.is w.in_default.not-Variable in
          cc
    ]
