use Rattle.std.proofs.Common.{sym, ap, ◌∙◌}
use Rattle.std.proofs.lemmas.Result.{on_ok_weaker}
use Rattle.diagnose.specs.Order.{codes_ascend}
use Rattle.diagnose.proofs.OrderLaws.{appends_all}
use Rattle.diagnose.proofs.order.append_ordered.Goals as goal

pub returns-then-codes_ascend : goal.returns-then-codes_ascend
returns-then-codes_ascend c =
    on_ok_weaker c.append_all.result
    (λ is positions known.
    appends_all c.args.forms.now c.args.place c.args.found.items c.args.list.now.items c.append_all.new.list.items known
    (ap (codes_ascend 0) (sym c.as_slice.ensures.value) ∙ sym c.codes_ascend.ensures ∙ c.if-codes_ascend.true) is)
    c.append_all.ensures
