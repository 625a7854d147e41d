use Rattle.std.proofs.Common.{sym, ap, ◌∙◌, ◌++◌, ◌∷◌, []}
use Rattle.kif_tree.specs.declared.form.Form.{Form}
use Rattle.kif_tree.proofs.FreeLaws.{led_more, led_name, seen_more, seen_still, kept_more, kept_still}
use Rattle.kif_tree.proofs.free.once.Goals as goal
use Rattle.kif_tree.proofs.free.once.Goals.{then-not-has+in_ok-add+in_ok-copy+in_ok-push, else-not-has}

pub loop-name-preserved : goal.loop-name-preserved
loop-name-preserved c =
    let next = led_more c.args.names.now c.loop-name.name-index c.name-item.result c.loop-name-test.true c.name-item.is in
    elim c.if-not-has.branch [
      | then-not-has+in_ok-add+in_ok-copy+in_ok-push w ↦ rw (w.seen-is, w.kept-is) (record {
        seen = seen_more c.loop-name.seen w.add.new.self _ _ c.name-item.result.now next c.loop-name.invariant.seen w.in_ok-add.ensures;
        kept = λ all.
            w.in_ok-push.ensures.ok ∙ ap (λ (name : Form). c.loop-name.kept ++ name ∷ []) w.in_ok-copy.ensures
            ∙ kept_more c.loop-name.seen _ c.loop-name.kept _ c.name-item.result.now next (led_name c.args.names.now c.loop-name.name-index c.name-item.result c.loop-name-test.true c.name-item.is all)
            (sym c.has.ensures ∙ w.if-not-has.true) c.loop-name.invariant.seen (c.loop-name.invariant.kept all);
      })
      | else-not-has w ↦ rw (w.seen-is, w.kept-is) (record {
        seen = seen_still c.loop-name.seen _ _ c.name-item.result.now next (sym c.has.ensures ∙ w.if-not-has.false) c.loop-name.invariant.seen;
        kept = λ all.
            kept_still c.loop-name.seen _ c.loop-name.kept _ c.name-item.result.now next (led_name c.args.names.now c.loop-name.name-index c.name-item.result c.loop-name-test.true c.name-item.is all)
            (sym c.has.ensures ∙ w.if-not-has.false) c.loop-name.invariant.seen (c.loop-name.invariant.kept all);
      })
    ]
