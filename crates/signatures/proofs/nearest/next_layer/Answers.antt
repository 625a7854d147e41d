use Rattle.std.proofs.Common.{[], subst, sym}
use Rattle.signatures.specs.Layers.{PassesNotes}
use Rattle.signatures.specs.Lowers.{lows_of}
use Rattle.signatures.proofs.PassLaws.{notes_none, notes_more}
use Rattle.signatures.proofs.nearest.next_layer.Goals as goal

pub loop-word-init : goal.loop-word-init
loop-word-init g c =
    subst (λ next. PassesNotes (lows_of c.args.lowers.now) c.args.own.now c.args.notes.now c.args.notes.now [] next c.args.distance []) (sym c.new-next.ensures)
    (notes_none (lows_of c.args.lowers.now) c.args.own.now c.args.notes.now [] c.args.distance)

pub loop-word-preserved : goal.loop-word-preserved
loop-word-preserved g c =
    notes_more (lows_of c.args.lowers.now) c.args.own.now c.args.notes.now c.loop-word.notes c.pass_note.new.notes [] c.loop-word.next c.pass_note.new.next c.args.distance c.args.layer.now c.loop-word.word-index c.word-item.result c.bytes.result.now
    c.loop-word-test.true c.word-item.is c.bytes.ensures c.loop-word.invariant c.in_ok-pass_note.ensures
