use Rattle.std.proofs.Common.{◌≡◌, ◌+◌, ◌++◌, length}
use Rattle.answers.specs.Pages as spec
use Rattle.answers.proofs.page.append_lines.Given as goal

abbrev pub invariant-loop-lines : goal.invariant-loop-lines
invariant-loop-lines l = record {
  written : l.out ++ spec.lines_text l.names l.number l.lines ≡ l.initial.out ++ spec.lines_text l.names 0 l.fn.lines;
  counted : l.number + length l.lines ≡ length l.fn.lines;
}

abbrev pub decreases-loop-lines : goal.decreases-loop-lines
decreases-loop-lines l = length l.lines
