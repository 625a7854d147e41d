use Rattle.std.proofs.Common.{◌≡◌, ℕ, [], ◌∷◌, sym, ◌∙◌, arith}
use borrow.Author.Tests.{ltb-true, ltb-false}
use Rattle.kif_tree.specs.Names.{bound}
use Rattle.diagnose.proofs.FreeLaws.{bound_short, bound_long}
use Rattle.diagnose.proofs.VariableLaws.{three_items, free_of_quantifier, unused_of_quantifier, bound_of_three, free_of_plain, unused_of_plain, free_of_variable, unused_of_variable, free_of_other, unused_of_other, free_more}
use Rattle.diagnose.proofs.FoundLaws.{adds_more}
use Rattle.diagnose.specs.VariableWalk.{IsUnusedAt}
use Rattle.diagnose.proofs.variables.+collect.Goals as goal
use Rattle.diagnose.proofs.variables.+collect.Goals.{collect_list-in_default-via-then-parts-lt3, collect_list-in_default-via-in-len3+else-quantifies, collect_list-in_default-via-else-parts-lt3+else-parts-lt4}

pub collect-returns-in-Variable-clause-free : goal.collect-returns-in-Variable-clause-free
collect-returns-in-Variable-clause-free t c = free_of_variable c.add.result c.args.form.now c.in-Variable.text c.bytes.result.now c.args.free.now c.add.new.self c.in-Variable.is c.bytes.ensures c.add.ensures

pub collect-returns-in-Variable-clause-found : goal.collect-returns-in-Variable-clause-found
collect-returns-in-Variable-clause-found t c = unused_of_variable c.add.result c.args.place c.args.form.now c.in-Variable.text c.args.found.now.items c.in-Variable.is

pub collect-returns-in_default : goal.collect-returns-in_default
collect-returns-in_default t c = record {
  free = free_of_other c.args.form.now c.args.free.now c.in_default.not-Variable c.in_default.not-List;
  found = unused_of_other c.args.place c.args.form.now c.args.found.now.items c.in_default.not-List;
}

pub collect_all-loop-part-preserved : goal.collect_all-loop-part-preserved
collect_all-loop-part-preserved t c = record {
  free = free_more c.args.parts.now c.loop-part.part-index c.part-item.result c.args.free.now c.loop-part.free c.collect.new.free c.loop-part-test.true c.part-item.is c.loop-part.invariant.free c.in_ok-collect.ensures.free;
  found =
      adds_more (IsUnusedAt c.args.place) c.args.parts.now c.loop-part.part-index c.part-item.result c.args.found.now.items c.loop-part.found.items c.collect.new.found.items c.loop-part-test.true c.part-item.is
      c.loop-part.invariant.found c.in_ok-collect.ensures.found;
}

three : {t : ℕ} → (c : goal.collect_list-After-leave t) → c.args.parts.now ≡ c.head-item.result ∷ c.names-item.result ∷ c.body-item.result ∷ []
three c =
    three_items c.args.parts.now c.head-item.result c.names-item.result c.body-item.result c.in-len3.len_at_least c.in-len3.len_below c.head-item.is c.names-item.is c.body-item.is

pub collect_list-returns-in_ok-collect-in-len3-clause-free :
    goal.collect_list-returns-in_ok-collect-in-len3-clause-free
collect_list-returns-in_ok-collect-in-len3-clause-free t c =
    free_of_quantifier c.leave.result c.args.parts.now c.head-item.result c.names-item.result c.body-item.result c.parts_of.result.now c.new-within.result c.collect.new.free c.args.free.now c.leave.new.free
    (three c) (sym c.quantifies.ensures ∙ c.if-quantifies.true) c.parts_of.ensures c.new-within.ensures c.in_ok-collect-in-len3.ensures.free c.leave.ensures.free

pub collect_list-returns-in_ok-collect-in-len3-clause-found :
    goal.collect_list-returns-in_ok-collect-in-len3-clause-found
collect_list-returns-in_ok-collect-in-len3-clause-found t c =
    unused_of_quantifier c.leave.result c.args.place c.args.parts.now c.head-item.result c.names-item.result c.body-item.result c.parts_of.result.now c.new-within.result c.collect.new.free
    c.args.found.now.items c.collect.new.found.items c.leave.new.found.items
    (three c) (sym c.quantifies.ensures ∙ c.if-quantifies.true) c.parts_of.ensures c.new-within.ensures c.in_ok-collect-in-len3.ensures.free c.in_ok-collect-in-len3.ensures.found c.leave.ensures.found

-- a list that isn't a quantifier's
unbound : {t : ℕ} → (c : goal.collect_list-After-collect_all t) → bound c.args.parts.now ≡ []
unbound c = elim c.in_default.branch [
  | collect_list-in_default-via-then-parts-lt3 w ↦ bound_short c.args.parts.now (omega (arith, ltb-true))
  | collect_list-in_default-via-in-len3+else-quantifies w ↦
      bound_of_three c.args.parts.now w.head-item.result w.names-item.result w.body-item.result
      (three_items c.args.parts.now w.head-item.result w.names-item.result w.body-item.result w.in-len3.len_at_least w.in-len3.len_below w.head-item.is w.names-item.is w.body-item.is)
      (sym w.quantifies.ensures ∙ w.if-quantifies.false)
  | collect_list-in_default-via-else-parts-lt3+else-parts-lt4 w ↦ bound_long c.args.parts.now (omega (arith, ltb-false))
]

pub collect_list-returns-in_default-clause-free : goal.collect_list-returns-in_default-clause-free
collect_list-returns-in_default-clause-free t c = free_of_plain c.collect_all.result c.args.parts.now c.args.free.now c.collect_all.new.free (unbound c) c.collect_all.ensures.free

pub collect_list-returns-in_default-clause-found :
    goal.collect_list-returns-in_default-clause-found
collect_list-returns-in_default-clause-found t c =
    unused_of_plain c.collect_all.result c.args.place c.args.parts.now c.args.found.now.items c.collect_all.new.found.items (unbound c) c.collect_all.ensures.found
