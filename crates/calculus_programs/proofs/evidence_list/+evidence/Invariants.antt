use Rattle.std.proofs.Common.{◌+◌, ◌*◌}
use Rattle.calculus_programs.proofs.evidence_list.+evidence.Given as goal

abbrev pub decreases-append_evidence : goal.decreases-append_evidence
decreases-append_evidence l = 2 * l.number

abbrev pub decreases-append_parent : goal.decreases-append_parent
decreases-append_parent l = 2 * l.parent + 1
