use Rattle.std.proofs.Common.{◌≡◌, ◌+◌, ◌++◌, length}
use Rattle.answers.specs.Pages as spec
use Rattle.answers.proofs.page.append_answers.Given as goal

abbrev pub invariant-loop-answers : goal.invariant-loop-answers
invariant-loop-answers l = record {
  written : l.out ++ spec.answers_text l.names l.number l.answers ≡ l.initial.out ++ spec.answers_text l.names 0 l.fn.answers;
  counted : l.number + length l.answers ≡ length l.fn.answers;
}

abbrev pub decreases-loop-answers : goal.decreases-loop-answers
decreases-loop-answers l = length l.answers
