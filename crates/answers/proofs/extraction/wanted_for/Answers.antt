use Rattle.std.proofs.Common.{◌+◌, ◌-◌, ◌∙◌, ap, arith}
use Rattle.answers.specs.Proofs.{parents}
use Rattle.answers.proofs.MarkLaws.{written}
use Rattle.answers.proofs.WantedLaws.{begin_wanted, step_wanted, skip_wanted, tells_rests}
use Rattle.answers.proofs.extraction.wanted_for.Goals as goal
use Rattle.answers.proofs.extraction.wanted_for.Goals.{then-index, else-index, else-loop-back-test, then-loop-back-test+else-back-number}

pub loop-back-init : goal.loop-back-init
loop-back-init c = begin_wanted c.args.steps.now c.args.number _ c.in_ok-wanted.wanted.items (omega arith) (c.in_ok-wanted.ensures.items_if_clones_equal (λ y same. same))

pub loop-back-preserved : goal.loop-back-preserved
loop-back-preserved c =
    elim c.if-index.branch [
      | then-index w ↦ step_wanted c.args.steps.now c.requires.earlier c.args.number c.loop-back.back w.index-steps-at.result c.loop-back.wanted.items _ c.index.result.now
          c.loop-back-test.true c.requires.there c.loop-back.invariant w.index-steps-at.is c.index.ensures w.if-index.true
          (ap (λ v. v.items) w.wanted-is ∙ written c.loop-back.wanted _ _ (parents w.index-steps-at.result) w.as_mut_slice.ensures.value w.want_parents.ensures)
      | else-index w ↦ skip_wanted c.args.steps.now c.args.number c.loop-back.back c.loop-back.wanted.items _ c.index.result.now
          c.loop-back-test.true c.loop-back.invariant c.index.ensures w.if-index.false (ap (λ v. v.items) w.wanted-is)
    ]

pub returns : goal.returns
returns c =
    elim c.loop-back-test.branch [
      | else-loop-back-test w ↦ absurd (omega arith)
      | then-loop-back-test+else-back-number w ↦ elim w.if-index.branch [
        | then-index v ↦ tells_rests c.args.steps.now c.args.number (c.args.number + 1 - (c.loop-back.back + 1)) _ (omega arith)
            (step_wanted c.args.steps.now c.requires.earlier c.args.number c.loop-back.back v.index-steps-at.result c.loop-back.wanted.items _ w.index.result.now
            w.loop-back-test.true c.requires.there c.loop-back.invariant v.index-steps-at.is w.index.ensures v.if-index.true
            (ap (λ u. u.items) w.wanted-is ∙ ap (λ u. u.items) v.wanted-is
            ∙ written c.loop-back.wanted _ _ (parents v.index-steps-at.result) v.as_mut_slice.ensures.value v.want_parents.ensures))
        | else-index v ↦ tells_rests c.args.steps.now c.args.number (c.args.number + 1 - (c.loop-back.back + 1)) _ (omega arith)
            (skip_wanted c.args.steps.now c.args.number c.loop-back.back c.loop-back.wanted.items _ w.index.result.now
            w.loop-back-test.true c.loop-back.invariant w.index.ensures v.if-index.false (ap (λ u. u.items) w.wanted-is ∙ ap (λ u. u.items) v.wanted-is))
      ]
    ]
