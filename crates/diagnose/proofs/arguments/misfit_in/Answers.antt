use Rattle.std.proofs.Common.{sym, subst, Bor, codes}
use Rattle.kif_tree.specs.Terms.{Bytes}
use Rattle.diagnose.specs.OfLists.{IsUnfitWord}
use Rattle.diagnose.proofs.ArgumentLaws.{word_misfit, word_fits, list_found, apart_from, holds_if, fails_if}
use Rattle.diagnose.proofs.arguments.misfit_in.Goals as goal

pub returns-then-is_unfit_word : goal.returns-then-is_unfit_word
returns-then-is_unfit_word c = λ forms given.
    word_misfit forms c.args.type_told.now c.args.argument.now c.in-Word.text c.in-Word.is
    (apart_from c.args.type_told.now.class c.bytes.result.now c.as_slice.result.now (codes "Entity") c.eq.result c.bytes.ensures c.as_slice.ensures c.eq.ensures c.if-eq.false)
    (subst (IsUnfitWord forms c.args.type_told.now) c.bytes-in-Word.ensures
    (holds_if (IsUnfitWord forms c.args.type_told.now c.bytes-in-Word.result.now) c.is_unfit_word.result (c.is_unfit_word.ensures forms given) c.if-is_unfit_word.true))

pub returns-else-is_unfit_word : goal.returns-else-is_unfit_word
returns-else-is_unfit_word c = λ forms given.
    word_fits forms c.args.type_told.now c.args.argument.now c.in-Word.text c.in-Word.is (λ h.
    fails_if (IsUnfitWord forms c.args.type_told.now c.bytes-in-Word.result.now) c.is_unfit_word.result (c.is_unfit_word.ensures forms given) c.if-is_unfit_word.false
    (subst (IsUnfitWord forms c.args.type_told.now) (sym c.bytes-in-Word.ensures) h))

pub returns-in-List : goal.returns-in-List
returns-in-List c = λ forms given.
    list_found forms c.args.type_told.now c.args.argument.now (λ (term : Bor Bytes). term.now) c.unfit_function_in.result c.in-List.parts c.items.result.now c.in-List.is c.items.ensures
    (apart_from c.args.type_told.now.class c.bytes.result.now c.as_slice.result.now (codes "Entity") c.eq.result c.bytes.ensures c.as_slice.ensures c.eq.ensures c.if-eq.false)
    (c.unfit_function_in.ensures forms given)
