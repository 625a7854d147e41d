use Rattle.std.proofs.Common.{◌<◌, List, ℕ, length, sym, subst}
use Rattle.sigma_base.specs.Lists.{Each}
use Rattle.calculus.specs.declared.step.Step.{Step}
use Rattle.answers.specs.Proofs.{AreRests, AreClosed}
use Rattle.answers.proofs.RestLaws.{rests_closed, rests_within}
use Rattle.answers.proofs.extraction.proof_of.Goals as goal

pub steps_at-requires : goal.steps_at-requires
steps_at-requires c =
    let rests = subst (λ (steps : List Step). AreRests steps c.args.number c.in_ok-numbers.numbers) c.items.ensures c.in_ok-numbers.ensures in
    let closed = rests_closed c.args.reached.now.steps c.args.number c.in_ok-numbers.numbers rests in
    record {
      closed = subst (λ (steps : List Step). AreClosed steps c.items-3.result.now) (sym c.items-2.ensures)
          (subst (λ (numbers : List ℕ). AreClosed c.args.reached.now.steps numbers) (sym c.items-3.ensures) closed);
    }

pub lines_at-requires-clause-there : goal.lines_at-requires-clause-there
lines_at-requires-clause-there c =
    let rests = subst (λ (steps : List Step). AreRests steps c.args.number c.in_ok-numbers.numbers) c.items.ensures c.in_ok-numbers.ensures in
    let there = rests_within c.args.reached.now.steps c.requires.earlier c.args.number c.in_ok-numbers.numbers c.requires.there rests in
    subst (Each (λ number. number < length c.args.reached.now.steps)) (sym c.items-5.ensures) there
