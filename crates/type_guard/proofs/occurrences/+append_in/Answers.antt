use Rattle.std.proofs.Common.{◌≡◌, ◌+◌, ◌||◌, List, ◌++◌, filter, take, refl, sym, ap, ◌∙◌, arith}
use Rattle.std.specs.List.{flat_map}
use Rattle.std.proofs.lemmas.Result.{on_ok_weaker}
use Rattle.kif_tree.specs.NameLaws.{bound_names}
use Rattle.kif_tree.specs.Shape.{lists_names}
use Rattle.type_guard.specs.Guards.{is_of}
use Rattle.type_guard.specs.Occurrences.{Occurrence, occurrences}
use Rattle.type_guard.specs.Reads as reads
use Rattle.type_guard.proofs.WalkLaws.{found_none, of_plain, of_quantifier, under_other, unwanted, unwanted_other, next_found, forms_more, arguments_more}
use Rattle.type_guard.proofs.WantedLaws.{has, led, taken_more, restored}
use Rattle.type_guard.proofs.occurrences.+append_in.Goals as goal
use Rattle.type_guard.proofs.occurrences.+append_in.Goals.{append_of_argument-in_default-via-in-Variable+else-has, append_of_argument-in_default-via-in_default}

pub append_in-returns-in_default : goal.append_in-returns-in_default
append_in-returns-in_default t c = record {
  found = found_none (reads.all c.args.found.now.items) c.args.wanted.now c.args.form.now c.in_default.not-List;
  wanted = λ name. refl;
}

pub append_in_list-returns-then-is_empty-clause-found : goal.append_in_list-returns-then-is_empty-clause-found
append_in_list-returns-then-is_empty-clause-found t c = on_ok_weaker c.append_under_head.result
    (λ h. h ∙ ap (λ (os : List Occurrence). reads.all c.args.found.now.items ++ os) (of_plain c.args.wanted.now c.args.parts.now c.bound-names.result.now c.bound-names.ensures (grind arith))) c.append_under_head.ensures.found

pub append_in_list-returns-clause-found : goal.append_in_list-returns-clause-found
append_in_list-returns-clause-found t c = on_ok_weaker c.add_names.result
    (λ _. c.in_ok-append_under_head.ensures.found ∙ ap (λ (os : List Occurrence). reads.all c.args.found.now.items ++ os)
    (of_quantifier c.args.wanted.now c.mask.new.set c.args.parts.now c.bound-names.result.now c.bound-names.ensures c.in_ok-masked.ensures.set)) c.add_names.ensures

pub append_in_list-returns-clause-wanted : goal.append_in_list-returns-clause-wanted
append_in_list-returns-clause-wanted t c = on_ok_weaker c.add_names.result
    (λ h. restored c.args.wanted.now c.mask.new.set c.append_under_head-2.new.wanted c.add_names.new.set (led c.as_slice.result.now)
    (ap (λ ns. lists_names (led ns)) c.as_slice.ensures.value ∙ c.in_ok-masked.ensures.names (ap lists_names c.bound-names.ensures ∙ bound_names c.args.parts.now))
    (λ f. c.in_ok-masked.ensures.masked f ∙ ap (λ ns. has c.mask.new.set f || has (led ns) f) (sym c.as_slice.ensures.value))
    c.in_ok-append_under_head.ensures.wanted h) c.add_names.ensures

pub append_in_all-loop-form-preserved : goal.append_in_all-loop-form-preserved
append_in_all-loop-form-preserved t c = record {
  found =
      next_found _ _ _ c.args.wanted.now c.loop-form.wanted (reads.all c.args.found.now.items) (reads.all c.loop-form.found.items) (reads.all c.append_in.new.found.items)
      (forms_more (take c.loop-form.form-index c.args.forms.now) (take (c.loop-form.form-index + 1) c.args.forms.now) c.form-item.result
      (taken_more c.args.forms.now c.loop-form.form-index c.form-item.result c.loop-form-test.true c.form-item.is))
      c.loop-form.invariant.wanted c.loop-form.invariant.found c.in_ok-append_in.ensures.found;
  wanted = λ f. c.in_ok-append_in.ensures.wanted f ∙ c.loop-form.invariant.wanted f;
}

pub append_of_word-loop-at-preserved : goal.append_of_word-loop-at-preserved
append_of_word-loop-at-preserved t c = record {
  found =
      next_found _ _ _ c.args.wanted.now c.loop-at.wanted (reads.all c.args.found.now.items) (reads.all c.loop-at.found.items) (reads.all c.append_of_argument.new.found.items)
      (arguments_more c.args.head.now c.args.arguments.now (take c.loop-at.at c.args.arguments.now) (take (c.loop-at.at + 1) c.args.arguments.now) c.loop-at.at c.index-arguments-at.result refl (omega arith)
      (taken_more c.args.arguments.now c.loop-at.at c.index-arguments-at.result (omega arith) c.index-arguments-at.is))
      c.loop-at.invariant.wanted c.loop-at.invariant.found c.in_ok-append_of_argument.ensures.found;
  wanted = λ f. c.in_ok-append_of_argument.ensures.wanted f ∙ c.loop-at.invariant.wanted f;
}

pub append_of_argument-returns-in_default-clause-found : goal.append_of_argument-returns-in_default-clause-found
append_of_argument-returns-in_default-clause-found t c =
    let same_found = elim c.in_default.branch as (λ _. filter (is_of c.args.wanted.now) (occurrences c.args.part.now) ≡ filter (is_of c.args.wanted.now) (reads.of_argument c.args.head.now c.args.argument c.args.part.now)) [
      | append_of_argument-in_default-via-in-Variable+else-has w ↦ unwanted c.args.wanted.now c.args.head.now c.args.argument c.args.part.now (λ _. sym w.has.ensures ∙ w.if-has.false)
      | append_of_argument-in_default-via-in_default w ↦ unwanted_other c.args.wanted.now c.args.head.now c.args.argument c.args.part.now w.in_default.not-Variable
    ] in
    on_ok_weaker c.append_in.result (λ h. h ∙ ap (λ (os : List Occurrence). reads.all c.args.found.now.items ++ os) same_found) c.append_in.ensures.found

pub append_under_head-returns-in_default-head : goal.append_under_head-returns-in_default-head
append_under_head-returns-in_default-head t c = record {
  found = on_ok_weaker c.append_in_all.result
      (λ h. h ∙ ap (λ (os : List Occurrence). reads.all c.args.found.now.items ++ filter (is_of c.args.wanted.now) os)
      (ap (flat_map occurrences) c.operands-in_default-head.ensures ∙ under_other c.args.parts.now c.head-item.result c.in-len1-up.len_at_least c.head-item.is c.in_default-head.not-Word)) c.append_in_all.ensures.found;
  wanted = c.append_in_all.ensures.wanted;
}
