use Rattle.std.proofs.Common.{◌-◌, length, take, drop, sym, ap, ◌∙◌}
use Rattle.std.proofs.lemmas.Result.{on_ok_weaker}
use Rattle.kif_tree.specs.Shape.{is_among, logical_words}
use Rattle.diagnose.proofs.ArgumentLaws.{begins_with_rest, adds_headed}
use Rattle.diagnose.proofs.arguments.add_of_parts.Goals as goal

pub returns : goal.returns
returns c =
    on_ok_weaker c.add_of_types.result (λ h forms given.
    adds_headed forms c.args.place c.args.parts.now c.head-item.result (take (length c.args.parts.now - 1) (drop 1 c.args.parts.now)) c.in-Word.text
    (begins_with_rest c.args.parts.now c.head-item.result c.in-len1-up.len_at_least c.head-item.is) c.in-Word.is
    (ap (is_among logical_words) (sym c.bytes.ensures) ∙ sym c.is_logical_word.ensures ∙ c.if-is_logical_word.false)
    c.args.found.now.items c.add_of_count.new.found.items c.add_of_types.new.found.items (c.in_ok-add_of_count.ensures forms given) (h forms given)) c.add_of_types.ensures
