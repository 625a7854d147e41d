use Rattle.std.proofs.Common.{◌≡◌, ◌+◌, ◌-◌, subst, arith, rules}
use Rattle.kif_reader.specs.Reading.{Took, Met, Ended}
use Rattle.kif_reader.proofs.CountLaws.{Counted, counted_step, counted_found, counted_ended, counted_met}
use Rattle.kif_reader.proofs.read.token_spot.Goals as goal

pub returns-then-left-eq0 : goal.returns-then-left-eq0
returns-then-left-eq0 c tokens before whole =
    let took : Took c.in-Ok.token c.loop-step.tokens c.next.new.self = search rules in
    counted_found c.args.text.now c.in-Ok.token c.loop-step.tokens c.next.new.self c.args.number tokens before
    (subst (λ left. Counted c.args.text.now c.loop-step.tokens left c.args.number) c.if-left-eq0.true c.loop-step.invariant) took whole

pub loop-step-preserved : goal.loop-step-preserved
loop-step-preserved c =
    let took : Took c.in-Ok.token c.loop-step.tokens c.next.new.self = search rules in
    let some : c.loop-step.left ≡ c.loop-step.left - 1 + 1 = omega (arith, c.if-left-eq0.false) in
    counted_step c.args.text.now c.in-Ok.token c.loop-step.tokens c.next.new.self c.loop-step.left (c.loop-step.left - 1) c.args.number c.loop-step.invariant took some

pub unreachable-requires : goal.unreachable-requires
unreachable-requires c =
    let met : Met c.in-Err.field-0 c.loop-step.tokens c.next.new.self = search rules in
    counted_met c.args.text.now c.in-Err.field-0 c.loop-step.tokens c.next.new.self c.loop-step.left c.args.number c.requires.within.0 c.requires.within.1 c.loop-step.invariant met c.requires.within.2

pub unreachable-requires-2 : goal.unreachable-requires-2
unreachable-requires-2 c =
    let ended : Ended c.loop-step.tokens c.next.new.self = search rules in
    counted_ended c.args.text.now c.loop-step.tokens c.next.new.self c.loop-step.left c.args.number c.requires.within.0 c.requires.within.1 c.loop-step.invariant ended c.requires.within.2 c.requires.within.3
