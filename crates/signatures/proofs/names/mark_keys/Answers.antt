use Rattle.std.proofs.Common.{[], ◌∙◌}
use Rattle.signatures.proofs.CandidateLaws.{marked_word, marks_all}
use Rattle.signatures.proofs.names.mark_keys.Goals as goal

pub loop-key-init : goal.loop-key-init
loop-key-init g c = ([], c.into_iter-key-iterator.ensures.into_iter_gives ∙ c.keys-key-items.ensures.rest, (λ w h. h), tt)

pub loop-key-preserved : goal.loop-key-preserved
loop-key-preserved g c =
    marked_word c.args.table.now c.args.marks.now c.loop-key.marks c.mark.new.marks c.loop-key.invariant.0 c.loop-key.key-iterator c.next.new.self c.in-Some.key.now c.as_slice.result.now c.in-Some.ensures.steps c.as_slice.ensures.value
    c.loop-key.invariant.1 c.in_ok-mark.ensures c.loop-key.invariant.2 c.loop-key.invariant.3

pub returns : goal.returns
returns g c =
    marks_all c.args.table.now c.args.marks.now c.loop-key.marks c.loop-key.invariant.0 c.loop-key.key-iterator c.in-None.ensures.steps.0 c.loop-key.invariant.1 c.loop-key.invariant.2 c.loop-key.invariant.3
