use Rattle.std.proofs.Common.{true, false, refl, ap, sym, ◌∙◌}
use Rattle.std.specs.Cmp.Lexicographic.{lists_agrees}
use Rattle.std.specs.Ordering.{is_lt, is_some_and}
use Rattle.signatures.specs.WordTables.{find}
use Rattle.signatures.proofs.LayerLaws.{need_is}
use Rattle.signatures.proofs.nearest.need_for.Goals as goal

pub returns-then-lt : goal.returns-then-lt
returns-then-lt c =
    need_is (find c.args.notes.now c.args.word.now) c.in-Some.note.now c.args.distance c.args.near.now c.bytes.result.now true (sym c.in-Some.ensures.value) c.if-note-distance.false c.bytes.ensures
    (sym (sym c.if-lt.true ∙ c.lt.ensures ∙ ap (is_some_and is_lt) (lists_agrees (λ x y. refl) c.args.near.now c.bytes.result.now)))

pub returns : goal.returns
returns c =
    need_is (find c.args.notes.now c.args.word.now) c.in-Some.note.now c.args.distance c.args.near.now c.bytes.result.now false (sym c.in-Some.ensures.value) c.if-note-distance.false c.bytes.ensures
    (sym (sym c.if-lt.false ∙ c.lt.ensures ∙ ap (is_some_and is_lt) (lists_agrees (λ x y. refl) c.args.near.now c.bytes.result.now)))
