use Rattle.std.proofs.Common.{refl, ap, ◌∙◌, inr}
use Rattle.translate.specs.Pieces as spec
use Rattle.translate.proofs.PieceLaws.{above_room}
use Rattle.translate.proofs.piece.of_variants.Goals as goal

pub returns-then-not-have_room : goal.returns-then-not-have_room
returns-then-not-have_room c =
    inr (
      refl,
      above_room c.args.located.now _ c.in_ok-guarded.guarded c.items-2.result.now c.items-3.result.now c.some_has_too_many.result c.have_room.result c.args.room
          (c.in_ok-guarded.ensures ∙ ap (spec.guarded_variants c.args.signatures.now c.args.located.now.place) c.items.ensures)
          c.items-2.ensures c.some_has_too_many.ensures c.if-some_has_too_many.false c.items-3.ensures c.have_room.ensures c.if-not-have_room.true,
    )
