use Rattle.std.proofs.Common.{[], ◌∷◌, ◌++◌, ap, subst, sym, ◌∙◌}
use Rattle.std.specs.Prelude.{is_some}
use Rattle.std.proofs.lemmas.Result.{on_ok_weaker}
use Rattle.signatures.specs.WordTables.{find, IsSet}
use Rattle.signatures.specs.Layers.{need_of, as_note}
use Rattle.signatures.proofs.WordLaws.{has_not}
use Rattle.signatures.proofs.LayerLaws.{passes_own, passes_nothing, passes_better, passes_first}
use Rattle.signatures.proofs.nearest.pass.Goals as goal

pub returns-then-contains_key : goal.returns-then-contains_key
returns-then-contains_key g c =
    passes_own c.args.own.now c.args.distance c.args.near.now c.args.notes.now c.args.next.now c.args.low.now c.contains_key.result (c.contains_key.ensures ∙ ap (λ w. is_some (find c.args.own.now w)) c.bytes.ensures) c.if-contains_key.true

pub returns-in-Nothing : goal.returns-in-Nothing
returns-in-Nothing g c =
    passes_nothing c.args.own.now c.args.distance c.args.near.now c.args.notes.now c.args.next.now c.args.low.now
    (sym c.in-Nothing.is ∙ c.need_for.ensures ∙ ap (λ w. need_of (find c.args.notes.now w) c.args.distance c.args.near.now) c.bytes-2.ensures)

pub returns-in-Better : goal.returns-in-Better
returns-in-Better g c =
    on_ok_weaker c.set_note.result
    (λ set.
    passes_better c.args.own.now c.args.distance c.args.near.now c.args.notes.now c.set_note.new.notes c.args.low.now (subst (λ w. IsSet c.args.notes.now c.set_note.new.notes w (as_note c.args.distance c.args.near.now)) c.bytes-in-Better.ensures set)
    (has_not c.args.own.now c.args.low.now c.contains_key.result (c.contains_key.ensures ∙ ap (λ w. is_some (find c.args.own.now w)) c.bytes.ensures) c.if-contains_key.false) c.args.next.now
    (sym c.in-Better.is ∙ c.need_for.ensures ∙ ap (λ w. need_of (find c.args.notes.now w) c.args.distance c.args.near.now) c.bytes-2.ensures))
    c.set_note.ensures

pub returns-in_ok-push-in-First : goal.returns-in_ok-push-in-First
returns-in_ok-push-in-First g c =
    on_ok_weaker c.set_note-in-First.result
    (λ set.
    passes_first c.args.own.now c.args.distance c.args.near.now c.args.notes.now c.set_note-in-First.new.notes c.args.low.now (subst (λ w. IsSet c.args.notes.now c.set_note-in-First.new.notes w (as_note c.args.distance c.args.near.now)) c.bytes-in-First.ensures set)
    (has_not c.args.own.now c.args.low.now c.contains_key.result (c.contains_key.ensures ∙ ap (λ w. is_some (find c.args.own.now w)) c.bytes.ensures) c.if-contains_key.false) c.args.next.now c.push.new.self
    (sym c.in-First.is ∙ c.need_for.ensures ∙ ap (λ w. need_of (find c.args.notes.now w) c.args.distance c.args.near.now) c.bytes-2.ensures) (c.in_ok-push-in-First.ensures.ok ∙ ap (λ t. c.args.next.now ++ t ∷ []) c.in_ok-copy-in-First.ensures))
    c.set_note-in-First.ensures
