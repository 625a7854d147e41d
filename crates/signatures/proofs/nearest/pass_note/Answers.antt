use Rattle.std.proofs.Common.{sym, ◌∙◌}
use Rattle.std.proofs.lemmas.Result.{on_ok_weaker}
use Rattle.signatures.specs.Lowers.{lows_of}
use Rattle.signatures.proofs.PassLaws.{note_missing, note_passed}
use Rattle.signatures.proofs.nearest.pass_note.Goals as goal

pub returns-in_default : goal.returns-in_default
returns-in_default g c = note_missing (lows_of c.args.lowers.now) c.args.own.now c.args.notes.now c.args.next.now c.args.distance c.args.word.now (sym c.in_default.ensures.value)

pub returns : goal.returns
returns g c =
    on_ok_weaker c.pass_down.result
    (λ passes.
    note_passed (lows_of c.args.lowers.now) c.args.own.now c.args.notes.now c.pass_down.new.notes c.args.next.now c.pass_down.new.next c.args.distance c.args.word.now c.bytes.result.now c.in-Some.note.now (sym c.in-Some.ensures.value)
    (c.bytes.ensures ∙ c.in_ok-near.ensures) passes)
    c.pass_down.ensures
