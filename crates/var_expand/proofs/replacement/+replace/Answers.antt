use Rattle.std.proofs.Common.{◌≡◌, ◌∙◌, sym, ap, [], arith}
use Rattle.kif_tree.specs.declared.form.Form.TheVariants as form
use Rattle.kif_tree.specs.Names.{bound}
use Rattle.var_expand.specs.Replacement.{replaced, without}
use Rattle.var_expand.proofs.ReplacedLaws.{replaced_other, list_replaced, list_kept, ok_is, no_items}
use Rattle.var_expand.proofs.replacement.+replace.Goals as goal

pub replaced-returns-in_default : goal.replaced-returns-in_default
replaced-returns-in_default t c = ok_is c.copy.result c.args.form.now (replaced c.args.form.now c.args.choice.now) (sym (replaced_other c.args.form.now c.args.choice.now c.in_default.not-List)) c.copy.ensures

pub replaced-returns-then-is_empty : goal.replaced-returns-then-is_empty
replaced-returns-then-is_empty t c =
    let none : c.bound-names.result.now ≡ [] = no_items c.bound-names.result.now (grind arith) in
    list_kept c.args.form.now c.items-parts.result.now c.args.choice.now c.in_ok-spliced.field-0 (c.in-List.is ∙ ap form.List (sym c.items-parts.ensures)) (sym c.bound-names.ensures ∙ none) c.in_ok-spliced.ensures

pub replaced-returns : goal.replaced-returns
replaced-returns t c =
    let rest : c.items.result.now ≡ without (bound c.items-parts.result.now) c.args.choice.now = cc (c.in_ok-rest.ensures, c.bound-names.ensures, c.items.ensures) in
    list_replaced c.args.form.now c.items-parts.result.now c.args.choice.now c.items.result.now c.in_ok-spliced-2.field-0 (c.in-List.is ∙ ap form.List (sym c.items-parts.ensures)) rest c.in_ok-spliced-2.ensures
