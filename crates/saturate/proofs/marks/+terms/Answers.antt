use Rattle.std.proofs.Common.{List, map, length, take, drop, ◌-◌, arith}
use Rattle.std.proofs.lemmas.List.{at_drop_all}
use Rattle.kif_tree.specs.declared.form.Form.{Form}
use Rattle.saturate.specs.Marks.{joined, terms}
use Rattle.saturate.proofs.TermMarkLaws.{terms-arguments}
use Rattle.saturate.proofs.marks.+terms.Goals as goal

pub returns-after-loop-argument : goal.returns-after-loop-argument
returns-after-loop-argument t c =
    let parts = c.items-in-List.result.now in
    let whole = terms-arguments parts c.in-len1-up.len_at_least in
    let end = at_drop_all (λ (left : List Form). joined c.loop-argument.marks (map terms left)) (take (length parts - 1) (drop 1 parts)) c.loop-argument.argument-index c.loop-argument-test.false in
    grind (arith, whole, end)
