use Rattle.std.proofs.Common.{◌≤◌, ◌+◌, ℕ, length, get_or, ◌∙◌, arith}
use Rattle.sigma_base.specs.Lists.{each_of_all}
use Rattle.calculus_programs.proofs.PickLaws.{nth-none, nth-some}
use Rattle.answers.proofs.WantedLaws.{few_below}
use Rattle.answers.proofs.LineLaws.{step_more, no_step_more, parents_among}
use Rattle.answers.proofs.extraction.steps_at.Goals as goal
use Rattle.answers.proofs.extraction.steps_at.Goals.{in-Some+in_ok-renumbered+in_ok-push, in_default}

pub renumbered-requires-clause-few : goal.renumbered-requires-clause-few
renumbered-requires-clause-few c =
    let bound : length c.args.numbers.now + 0 ≤ 4294967296 =
    few_below c.args.numbers.now 0 4294967296 c.requires.closed.ascending (each_of_all (λ (n : ℕ). 0 ≤ n) (λ n. omega arith) c.args.numbers.now)
    (λ i h. let fits = c.type_inv.numbers i in omega (arith, fits.fits)) (omega arith) in
    omega (arith, bound)

pub renumbered-requires-clause-parents : goal.renumbered-requires-clause-parents
renumbered-requires-clause-parents c =
    let found = c.in-Some.ensures.lookup in
    parents_among c.args.steps.now c.args.numbers.now c.loop-number.number-index c.in-Some.step.now c.loop-number-test.true c.requires.closed.closed
    (nth-some c.args.steps.now (get_or c.args.numbers.now c.loop-number.number-index 0) c.in-Some.step.now found.3.0 found.1)

pub loop-number-preserved : goal.loop-number-preserved
loop-number-preserved c =
    elim c.match-get.branch [
      | in-Some+in_ok-renumbered+in_ok-push w ↦
          (let found = w.in-Some.ensures.lookup in
          step_more c.args.steps.now c.args.numbers.now c.loop-number.number-index c.loop-number.list _ w.in-Some.step.now w.in_ok-renumbered.field-0 c.loop-number-test.true
          (nth-some c.args.steps.now (get_or c.args.numbers.now c.loop-number.number-index 0) w.in-Some.step.now found.3.0 found.1)
          w.in_ok-renumbered.ensures c.loop-number.invariant (w.list-is ∙ w.in_ok-push.ensures.ok))
      | in_default w ↦
          (let missing = w.in_default.ensures.lookup in
          no_step_more c.args.steps.now c.args.numbers.now c.loop-number.number-index c.loop-number.list _ c.loop-number-test.true
          (nth-none c.args.steps.now (get_or c.args.numbers.now c.loop-number.number-index 0) missing.3) c.loop-number.invariant w.list-is)
    ]
