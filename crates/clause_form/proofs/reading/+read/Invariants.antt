use Rattle.std.proofs.Common.{◌≡◌, ◌+◌, ◌*◌, map, max, take}
use Rattle.kif_tree.specs.declared.form.Form.{size-Form}
use Rattle.clause_form.specs.Reads as reads
use Rattle.clause_form.specs.Readings as spec
use Rattle.clause_form.proofs.reading.+read.Given as goal

abbrev pub invariant-read_group-loop-part : goal.invariant-read_group-loop-part
invariant-read_group-loop-part l =
    (l.matrices ≡ (spec.each (map (reads.beside l.prefix) (take l.part-index l.parts)) l.sign l.scope l.initial.counts).matrices)
    × (l.counts ≡ (spec.each (map (reads.beside l.prefix) (take l.part-index l.parts)) l.sign l.scope l.initial.counts).counts)

abbrev pub decreases-read : goal.decreases-read
decreases-read l = 4 * goal.size-read l

abbrev pub decreases-read_connected : goal.decreases-read_connected
decreases-read_connected l = 4 * goal.size-read_connected l + 3

abbrev pub decreases-read_equivalence : goal.decreases-read_equivalence
decreases-read_equivalence l = 4 * max (size-Form l.first.now) (size-Form l.second.now) + 2

abbrev pub decreases-read_two : goal.decreases-read_two
decreases-read_two l = 4 * max (size-Form l.first.now) (size-Form l.second.now) + 1

abbrev pub decreases-read_group : goal.decreases-read_group
decreases-read_group l = 4 * goal.size-read_group l + 1

abbrev pub decreases-read_quantified : goal.decreases-read_quantified
decreases-read_quantified l = 4 * size-Form l.body.now + 1
