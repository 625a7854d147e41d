use Rattle.std.proofs.Common.{◌≡◌, true, false, Option, sym, ap, ◌∙◌}
use Rattle.calculus_programs.proofs.PickLaws.{ok_map}
use Rattle.saturate.specs.declared.ended.Ended.{Ended}
use Rattle.saturate.specs.Runs.{without, IsDropped}
use Rattle.saturate.proofs.TurnLaws.{given_below, taken_consistent, dropped_indexed, processed_indexed, turn_works}
use Rattle.saturate.proofs.turn.take_turn.Goals as goal

pub is_dropped-requires-clause-given : goal.is_dropped-requires-clause-given
is_dropped-requires-clause-given c = given_below c.args.state.now c.args.turn c.in-Some.given c.requires.consistent c.in-Some.ensures

pub returns-then-dropped-clause-consistent : goal.returns-then-dropped-clause-consistent
returns-then-dropped-clause-consistent c =
    taken_consistent c.args.state.now c.in-Some.given c.kept_count-state.result c.in_ok-state.field-0 c.args.state.now.reached.processed c.requires.consistent
    (c.in_ok-state.ensures ∙ ap (without c.in-Some.given) c.items.ensures) c.kept_count-state.ensures
    (dropped_indexed c.args.state.now c.in-Some.given c.in_ok-state.field-0 c.requires.consistent (c.in_ok-state.ensures ∙ ap (without c.in-Some.given) c.items.ensures)
    (c.in_ok-dropped.ensures.0 c.if-dropped.true))

pub work-requires : goal.work-requires
work-requires c =
    taken_consistent c.args.state.now c.in-Some.given c.kept_count-state-2.result c.in_ok-state.field-0 c.push.new.self c.requires.consistent
    (c.in_ok-state.ensures ∙ ap (without c.in-Some.given) c.items.ensures) c.kept_count-state-2.ensures
    (processed_indexed c.args.state.now c.in-Some.given c.in_ok-state.field-0 c.requires.consistent (c.in_ok-state.ensures ∙ ap (without c.in-Some.given) c.items.ensures)
    c.args.turn c.push.new.self c.in-Some.ensures c.in_ok-push.ensures.ok)

pub returns-clause-turn : goal.returns-clause-turn
returns-clause-turn c =
    let r = c.args.state.now.reached in
    let given = c.in-Some.given in
    let stays : IsDropped r given → ⊥ = λ dropped. let no_way : true ≡ false = sym (c.in_ok-dropped.ensures.1 dropped) ∙ c.if-dropped.false in absurd (cc) in
    ok_map c.work.result _ _
    (λ (end : Option Ended) works. turn_works c.args.limits.now c.args.turn given r c.work.new.state.reached c.in_ok-state.field-0 c.push.new.self end c.in-Some.ensures stays
    (c.in_ok-state.ensures ∙ ap (without given) c.items.ensures) c.in_ok-push.ensures.ok works)
    c.work.ensures.works
