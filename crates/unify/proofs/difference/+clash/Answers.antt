use Rattle.std.proofs.Common.{sym, ◌∙◌, arith}
use Rattle.calculus.proofs.TruthLaws.{false_true, negated}
use Rattle.unify.proofs.Clashes.{list_atom, apart_flip, atoms_apart, lengths_apart, part_apart}
use Rattle.unify.proofs.difference.+clash.Goals as goal

pub clash-returns-in_default-second : goal.clash-returns-in_default-second
clash-returns-in_default-second t c h =
    rw c.in-List.is (list_atom c.in-List.parts c.args.second.now (c.in_default-second.not-Variable, c.in_default-second.not-List))

pub clash-returns-in-List-second-2 : goal.clash-returns-in-List-second-2
clash-returns-in-List-second-2 t c h =
    rw c.in-List-second-2.is (apart_flip _ _ (list_atom c.in-List-second-2.field-0 c.args.first.now (c.in_default.not-Variable, c.in_default.not-List)))

pub clash-returns-in_default-second-2 : goal.clash-returns-in_default-second-2
clash-returns-in_default-second-2 t c h =
    atoms_apart c.args.first.now c.args.second.now (c.in_default.not-Variable, c.in_default.not-List)
    (c.in_default-second-2.not-Variable, c.in_default-second-2.not-List)
    (λ same. false_true (sym (negated c.forms_equal.result h) ∙ c.forms_equal.ensures.equal.1 same))

pub parts_clash-returns-then-first-second : goal.parts_clash-returns-then-first-second
parts_clash-returns-then-first-second t c h = lengths_apart c.args.first.now c.args.second.now c.if-first-second.true

pub parts_clash-returns-then-clash : goal.parts_clash-returns-then-clash
parts_clash-returns-then-clash t c h =
    part_apart c.args.first.now c.args.second.now c.loop-at.at c.index-first-at.result c.index-second-at.result
    (omega arith) (omega arith) c.index-first-at.is c.index-second-at.is (c.clash.ensures c.if-clash.true)
