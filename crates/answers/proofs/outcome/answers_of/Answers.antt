use Rattle.std.proofs.Common.{◌<◌, List, ℕ, length, get_or, sym, subst}
use Rattle.answers.specs.Outcomes.{IsAnswerOf}
use Rattle.answers.proofs.OutcomeLaws.{correspond_more, found_there}
use Rattle.answers.proofs.outcome.answers_of.Goals as goal

pub answer_of-requires-clause-there : goal.answer_of-requires-clause-there
answer_of-requires-clause-there c =
    let same = c.items-number-items.ensures in
    let within : c.loop-number.number-index < length c.args.reached.now.found = subst (λ (numbers : List ℕ). c.loop-number.number-index < length numbers) same c.loop-number-test.true in
    subst (λ (numbers : List ℕ). get_or numbers c.loop-number.number-index 0 < length c.args.reached.now.steps) (sym same)
    (found_there c.args.reached.now c.loop-number.number-index c.requires within)

pub loop-number-preserved : goal.loop-number-preserved
loop-number-preserved c =
    correspond_more (IsAnswerOf c.args.asked.now c.args.reached.now) c.items-number-items.result.now c.loop-number.number-index c.loop-number.answers _ c.in_ok-answer_of.field-0
    c.loop-number-test.true c.loop-number.invariant c.in_ok-answer_of.ensures c.in_ok-push.ensures.ok
