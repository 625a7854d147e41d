use Rattle.std.proofs.Common.{sym, ◌∙◌}
use Rattle.saturate.proofs.SoundLaws.{runs_are_sound}
use Rattle.saturate.proofs.EndsHoldLaws.{ends_hold}
use Rattle.answers.specs.Questions as spec
use Rattle.answers.proofs.ProvedLaws.{outcomes_are_proved, outcomes_end}
use Rattle.answers.proofs.question.ask.Goals as goal

asked : (c : goal.After-drop-found-2) → spec.IsAsked c.args.set.now c.args.query.now c.args.limits c.in_ok-outcome.outcome
asked c = record {
  within = sym c.check.ensures ∙ c.in_default.is;
  query = c.in-Ok.found;
  is_query = c.in-Ok.ensures.answer;
  turns = c.in_ok-search.search.turns;
  reached = _;
  end = c.in_ok-search.search.ended;
  runs = c.in_ok-search.ensures.run;
  shows = c.in_ok-outcome.ensures;
}

-- what is shown is proved
pub returns-clause-proved : goal.returns-clause-proved
returns-clause-proved c =
    outcomes_are_proved runs_are_sound ends_hold c.args.set.now c.args.query.now c.args.limits c.in_ok-outcome.outcome c.in_ok-search.ensures.set (asked c)

-- and its end is what is told
pub returns-clause-end : goal.returns-clause-end
returns-clause-end c = outcomes_end ends_hold c.args.set.now c.args.query.now c.args.limits c.in_ok-outcome.outcome c.in_ok-search.ensures.set (asked c)
