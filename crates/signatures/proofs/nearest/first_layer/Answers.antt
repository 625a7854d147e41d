use Rattle.std.proofs.Common.{subst, sym, ◌∙◌}
use Rattle.signatures.specs.Lowers.{lows_of}
use Rattle.signatures.proofs.PassLaws.{KeysGone, keys_none, keys_more, keys_all}
use Rattle.signatures.proofs.nearest.first_layer.Goals as goal

pub loop-key-init : goal.loop-key-init
loop-key-init g c =
    subst (λ next. KeysGone (lows_of c.args.lowers.now) c.args.own.now c.args.notes.now c.args.notes.now next c.into_iter-key-iterator.result) (sym c.new-next.ensures)
    (keys_none (lows_of c.args.lowers.now) c.args.own.now c.args.notes.now c.into_iter-key-iterator.result (c.into_iter-key-iterator.ensures.into_iter_gives ∙ c.keys-key-items.ensures.rest))

pub loop-key-preserved : goal.loop-key-preserved
loop-key-preserved g c =
    keys_more (lows_of c.args.lowers.now) c.args.own.now c.args.notes.now c.loop-key.notes c.pass_down.new.notes c.loop-key.next c.pass_down.new.next c.loop-key.key-iterator c.next.new.self c.in-Some.key.now c.as_slice-word.result.now
    c.in-Some.ensures.steps c.as_slice-word.ensures.value c.loop-key.invariant c.in_ok-pass_down.ensures

pub returns : goal.returns
returns g c = keys_all (lows_of c.args.lowers.now) c.args.own.now c.args.notes.now c.loop-key.notes c.loop-key.next c.loop-key.key-iterator c.in-None.ensures.steps.0 c.loop-key.invariant
