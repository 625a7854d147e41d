use Rattle.std.proofs.Common.{sym, ap, drop, ◌∙◌, subst}
use Rattle.kif_tree.specs.Names.{is_function_word}
use Rattle.kif_tree.specs.Terms.{Bytes}
use Rattle.diagnose.specs.OfLists.{IsUnfitFunction}
use Rattle.diagnose.proofs.ArgumentLaws.{no_parts, begins_with_first, none_empty, none_headed, none_named, none_unfit, fails_if}
use Rattle.diagnose.proofs.arguments.unfit_function_in.Goals as goal

pub returns-in_default : goal.returns-in_default
returns-in_default c = λ forms given. none_empty forms c.args.type_told.now c.args.parts.now (no_parts c.args.parts.now c.in_default.len_below)

pub returns-in_default-head : goal.returns-in_default-head
returns-in_default-head c = λ forms given.
    none_headed forms c.args.type_told.now c.args.parts.now c.head-item.result (drop 1 c.args.parts.now) (begins_with_first c.args.parts.now c.head-item.result c.in-len1-up.len_at_least c.head-item.is) c.in_default-head.not-Word

pub returns-then-not-ends_with : goal.returns-then-not-ends_with
returns-then-not-ends_with c = λ forms given.
    none_named forms c.args.type_told.now c.args.parts.now c.head-item.result (drop 1 c.args.parts.now) c.in-Word.text (begins_with_first c.args.parts.now c.head-item.result c.in-len1-up.len_at_least c.head-item.is) c.in-Word.is
    (ap (λ (w : Bytes). is_function_word w) (sym c.bytes.ensures) ∙ sym c.ends_with.ensures.value ∙ c.if-not-ends_with.true)

pub returns-then-not-is_unfit_function : goal.returns-then-not-is_unfit_function
returns-then-not-is_unfit_function c = λ forms given.
    none_unfit forms c.args.type_told.now c.args.parts.now c.head-item.result (drop 1 c.args.parts.now) c.in-Word.text (begins_with_first c.args.parts.now c.head-item.result c.in-len1-up.len_at_least c.head-item.is) c.in-Word.is
    (λ h.
    fails_if (IsUnfitFunction forms c.args.type_told.now c.bytes-2.result.now) c.is_unfit_function.result (c.is_unfit_function.ensures forms given) c.if-not-is_unfit_function.true
    (subst (IsUnfitFunction forms c.args.type_told.now) (sym c.bytes-2.ensures) h))
