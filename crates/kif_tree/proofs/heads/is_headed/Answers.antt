use Rattle.std.proofs.Common.{sym, ap, ◌∙◌}
use Rattle.std.specs.Str.{bytes_eq}
use Rattle.kif_tree.proofs.HeadLaws.{headed_other, headed_none, headed_no_word, headed_word}
use Rattle.kif_tree.proofs.heads.is_headed.Goals as goal

pub returns-in_default : goal.returns-in_default
returns-in_default c = sym (headed_other c.args.name.now c.args.form.now c.in_default.not-List)

pub returns-in_default-items : goal.returns-in_default-items
returns-in_default-items c = sym (headed_none c.args.name.now c.args.form.now c.items.result.now (rw c.items.ensures c.in-List.is) c.in_default-items.len_below)

pub returns-in_default-head : goal.returns-in_default-head
returns-in_default-head c =
    sym (headed_no_word c.args.name.now c.args.form.now c.items.result.now c.head-item.result (rw c.items.ensures c.in-List.is) c.in-len1-up.len_at_least c.head-item.is c.in_default-head.not-Word)

pub returns : goal.returns
returns c =
    let headed = headed_word c.args.name.now c.args.form.now c.items.result.now c.head-item.result c.in-Word.text (rw c.items.ensures c.in-List.is) c.in-len1-up.len_at_least c.head-item.is c.in-Word.is in
    c.eq.ensures ∙ ap (bytes_eq c.args.name.now) c.bytes.ensures ∙ sym headed
