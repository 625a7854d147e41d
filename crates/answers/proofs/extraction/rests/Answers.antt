use Rattle.std.proofs.Common.{◌≡◌, ◌+◌, ◌<◌, length, ◌∙◌, arith}
use Rattle.answers.proofs.WantedLaws.{step_marks, skip_marks, are_rests}
use Rattle.answers.proofs.extraction.rests.Goals as goal
use Rattle.answers.proofs.extraction.rests.Goals.{else-loop-at-test, then-loop-at-test+else-at-number, then-index+in_ok-push, else-index}

pub loop-at-preserved : goal.loop-at-preserved
loop-at-preserved c =
    let all : length c.in_ok-wanted.wanted.items ≡ c.args.number + 1 = c.in_ok-wanted.ensures.counted in
    let within : c.loop-at.at < length c.in_ok-wanted.wanted.items = omega arith in
    elim c.if-index.branch [
      | then-index+in_ok-push w ↦ step_marks c.in_ok-wanted.wanted.items c.loop-at.at c.loop-at.numbers c.if-index.numbers c.index.result.now within c.loop-at.invariant
          c.index.ensures w.if-index.true (w.numbers-is ∙ w.in_ok-push.ensures.ok)
      | else-index w ↦ skip_marks c.in_ok-wanted.wanted.items c.loop-at.at c.loop-at.numbers c.if-index.numbers c.index.result.now within c.loop-at.invariant
          c.index.ensures w.if-index.false w.numbers-is
    ]

pub returns : goal.returns
returns c =
    let all : length c.in_ok-wanted.wanted.items ≡ c.args.number + 1 = c.in_ok-wanted.ensures.counted in
    let within : c.loop-at.at < length c.in_ok-wanted.wanted.items = omega arith in
    elim c.loop-at-test.branch [
      | else-loop-at-test w ↦ absurd (omega arith)
      | then-loop-at-test+else-at-number w ↦ elim w.if-index.branch [
        | then-index+in_ok-push v ↦ are_rests c.args.steps.now c.args.number c.in_ok-wanted.wanted.items (c.loop-at.at + 1) _ (omega arith) c.in_ok-wanted.ensures
            (step_marks c.in_ok-wanted.wanted.items c.loop-at.at c.loop-at.numbers _ w.index.result.now within c.loop-at.invariant
            w.index.ensures v.if-index.true (w.numbers-is ∙ v.numbers-is ∙ v.in_ok-push.ensures.ok))
        | else-index v ↦ are_rests c.args.steps.now c.args.number c.in_ok-wanted.wanted.items (c.loop-at.at + 1) _ (omega arith) c.in_ok-wanted.ensures
            (skip_marks c.in_ok-wanted.wanted.items c.loop-at.at c.loop-at.numbers _ w.index.result.now within c.loop-at.invariant
            w.index.ensures v.if-index.false (w.numbers-is ∙ v.numbers-is))
      ]
    ]
