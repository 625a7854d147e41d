use Rattle.std.proofs.Common.{drop}
use Rattle.diagnose.proofs.MergeLaws.{front_ascending, both_known, one_form_at, at_end}
use Rattle.diagnose.proofs.merged.merge.Goals as goal

pub loop-located-preserved : goal.loop-located-preserved
loop-located-preserved c =
    let so_far = c.loop-located.invariant in
    let first_here = c.part_at.result.0.now in
    let second_here = c.part_at-in-loop-located.result.0.now in
    let first_later = c.part_at.result.1.now in
    let second_later = c.part_at-in-loop-located.result.1.now in
    one_form_at c.args.forms.now c.loop-located.located-index c.located-item.result c.args.first.now c.args.second.now c.loop-located.first_left.now c.loop-located.second_left.now first_here second_here first_later second_later c.loop-located.list.items c.append_both.new.list.items
    c.loop-located-test.true c.located-item.is c.requires.places so_far c.part_at.ensures c.part_at-in-loop-located.ensures
    (c.in_ok-append_both.ensures c.in_ok-positions.ensures (front_ascending c.args.forms.now c.located-item.result.place c.loop-located.first_left.now first_here first_later c.part_at.ensures so_far.left_ascending)
    (front_ascending c.args.forms.now c.located-item.result.place c.loop-located.second_left.now second_here second_later c.part_at-in-loop-located.ensures so_far.right_ascending)
    (both_known c.args.forms.now (drop c.loop-located.located-index c.args.forms.now) c.located-item.result.place c.loop-located.first_left.now c.loop-located.second_left.now first_here second_here first_later second_later c.part_at.ensures c.part_at-in-loop-located.ensures so_far.left_placed so_far.right_placed))

pub returns : goal.returns
returns c = at_end c.args.forms.now c.loop-located.located-index c.args.first.now c.args.second.now c.loop-located.first_left.now c.loop-located.second_left.now c.loop-located.list.items c.loop-located-test.false c.loop-located.invariant
