use Rattle.std.proofs.Common.{◌≡◌, ◌∙◌, ◌++◌, sym, ap, List, [], filter, arith}
use Rattle.std.proofs.lemmas.Result.{IfOk-weaker}
use Rattle.kif_tree.specs.declared.form.Form.{Form}
use Rattle.kif_tree.specs.Profile.{compounds}
use Rattle.var_expand.specs.Fitting.{varies}
use Rattle.var_expand.proofs.NothingLaws.{nothing_chosen}
use Rattle.var_expand.proofs.ReplacedLaws.{no_items}
use Rattle.var_expand.proofs.expansion.expand.Goals as goal

pub returns-then-has_no_row : goal.returns-then-has_no_row
returns-then-has_no_row c =
    let f = c.args.form.now in
    let empty : c.items.result.now ≡ [] = no_items c.items.result.now (grind arith) in
    let all : c.items.result.now ≡ filter varies (compounds f) = c.items.ensures ∙ c.in_ok-gather_lists.ensures ∙ ap (λ (lists : List (List Form)). lists ++ filter varies (compounds f)) c.new-lists.ensures in
    IfOk-weaker c.only_variant.result _ _ (λ expanded h. nothing_chosen c.args.taxonomy.now.links c.args.signatures.now f expanded (sym all ∙ empty) (sym c.has_no_row.ensures ∙ c.if-has_no_row.true) h) c.only_variant.ensures
