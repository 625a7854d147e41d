use Rattle.std.proofs.Common.{◌∙◌, arith}
use Rattle.saturate.specs.Runs.{clauses}
use Rattle.answers.proofs.LineLaws.{length-steps_at, line_more, line_missing, lines_done}
use Rattle.answers.proofs.extraction.lines_at.Goals as goal
use Rattle.answers.proofs.extraction.lines_at.Goals.{in-Some+in_ok-line_of+in_ok-push, in_default}

pub bounds-numbers-at : goal.bounds-numbers-at
bounds-numbers-at c =
    let count = length-steps_at c.args.reached.now.steps c.args.steps.now c.args.numbers.now c.requires.steps c.requires.there in omega (arith, count)

pub loop-at-preserved : goal.loop-at-preserved
loop-at-preserved c =
    let r = c.args.reached.now in
    elim c.match-clause.branch [
      | in-Some+in_ok-line_of+in_ok-push w ↦ line_more r.inputs r.steps (clauses r) c.args.steps.now c.args.numbers.now c.loop-at.at c.loop-at.lines _
          w.in-Some.clause.now w.index-steps-at.result w.in_ok-line_of.field-0 c.requires.there c.requires.steps c.loop-at-test.true
          w.in-Some.ensures w.index-steps-at.is w.in_ok-line_of.ensures c.loop-at.invariant (w.lines-is ∙ w.in_ok-push.ensures.ok)
      | in_default w ↦ absurd (line_missing r.steps (clauses r) c.args.steps.now c.args.numbers.now c.loop-at.at c.requires.there c.requires.steps c.requires.clauses
          c.loop-at-test.true w.in_default.ensures)
    ]

pub returns : goal.returns
returns c =
    let r = c.args.reached.now in
    lines_done r.inputs r.steps (clauses r) c.args.steps.now c.args.numbers.now c.loop-at.at c.loop-at.lines c.requires.there c.requires.steps c.loop-at-test.false c.loop-at.invariant
