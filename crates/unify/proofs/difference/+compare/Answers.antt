use Rattle.std.proofs.Common.{ap, arith}
use Rattle.std.proofs.lemmas.List.{same_lists}
use Rattle.kif_tree.specs.declared.form.Form.TheVariants as form
use Rattle.unify.proofs.Clashes.{none_together, list_atom, apart_flip, atoms_apart, lengths_apart, differs_part}
use Rattle.unify.proofs.difference.+compare.Goals as goal

pub compare-returns-in_default-second : goal.compare-returns-in_default-second
compare-returns-in_default-second t c =
    rw c.in-List.is (none_together _ _ (list_atom c.in-List.parts c.args.second.now (c.in_default-second.not-Variable, c.in_default-second.not-List)))

pub compare-returns-in-List-second-2 : goal.compare-returns-in-List-second-2
compare-returns-in-List-second-2 t c =
    rw c.in-List-second-2.is
    (none_together _ _ (apart_flip _ _ (list_atom c.in-List-second-2.field-0 c.args.first.now (c.in_default.not-Variable, c.in_default.not-List))))

pub compare-returns-else-forms_equal : goal.compare-returns-else-forms_equal
compare-returns-else-forms_equal t c =
    none_together c.args.first.now c.args.second.now
    (atoms_apart c.args.first.now c.args.second.now (c.in_default.not-Variable, c.in_default.not-List)
    (c.in_default-second-2.not-Variable, c.in_default-second-2.not-List)
    (λ same. let equal = c.forms_equal.ensures.equal.1 same in cc))

pub first_difference-returns-then-first-second : goal.first_difference-returns-then-first-second
first_difference-returns-then-first-second t c =
    none_together (form.List c.args.first.now) (form.List c.args.second.now) (lengths_apart c.args.first.now c.args.second.now c.if-first-second.true)

pub first_difference-returns-in_default : goal.first_difference-returns-in_default
first_difference-returns-in_default t c =
    differs_part c.args.first.now c.args.second.now c.loop-at.at c.index-first-at.result c.index-second-at.result c.compare.result
    (omega arith) (omega arith) c.index-first-at.is c.index-second-at.is c.in_default.not-Same c.compare.ensures

pub first_difference-returns : goal.first_difference-returns
first_difference-returns t c =
    ap form.List (same_lists c.args.first.now c.args.second.now (omega arith) (λ k d lt. c.loop-at.invariant k d (omega arith)))
