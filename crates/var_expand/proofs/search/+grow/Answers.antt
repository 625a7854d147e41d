use Rattle.std.proofs.Common.{◌≡◌, ◌∙◌, List, sym, ap, subst, map, get_or, arith}
use Rattle.kif_tree.specs.declared.form.Form.{Form}
use Rattle.var_expand.specs.Offered.{Offered}
use Rattle.var_expand.specs.Search.{fitting, offered_variable}
use Rattle.var_expand.proofs.GrowLaws.{hopeless_fitting}
use Rattle.var_expand.proofs.LoopLaws.{grow_begun, grow_more, grow_end, rest_offers, rest_of, length_rest}
use Rattle.var_expand.proofs.MemberLaws.{filled_nothing}
use Rattle.var_expand.proofs.search.+grow.Goals as goal

pub go_on-returns-then-not-branch-clause-found : goal.go_on-returns-then-not-branch-clause-found
go_on-returns-then-not-branch-clause-found t c = sym (filled_nothing c.args.found.now (fitting c.args.problem.now c.args.choice.now.items (map offered_variable c.args.rest.now))
    (hopeless_fitting c.args.problem.now c.args.choice.now.items (map offered_variable c.args.rest.now) c.requires.begun (c.in_ok-can_go_on.ensures.sound c.if-not-branch.true)))

pub grow-grow_with-requires : goal.grow-grow_with-requires
grow-grow_with-requires t c =
    let long = length_rest c.args.rest.now c.offer-item.result c.in-len1-up.len_at_least c.offer-item.is in (
      omega (arith, c.decreases, long),
      (
        c.requires.names,
        (
          c.requires.rows,
          (
            rest_offers c.args.problem.now c.args.rest.now c.requires.rest,
            grow_begun c.args.problem.now c.args.choice.now.items c.loop-option.choice.items c.args.rest.now c.offer-item.result c.items-option-items.result.now c.loop-option.option-index c.option.inside.forms.now
                c.loop-option.invariant.same c.requires.begun c.requires.rest c.in-len1-up.len_at_least c.offer-item.is (c.items-option-items.ensures ∙ ap (λ (offer : Offered). offer.allowed) c.offer.view_is)
                c.loop-option-test.true (subst (λ (b : List Form). b ≡ get_or c.items-option-items.result.now c.loop-option.option-index b) (sym c.option.view_is) c.option-item.is),
          ),
        ),
      ),
    )

pub grow-loop-option-preserved : goal.grow-loop-option-preserved
grow-loop-option-preserved t c = record {
  same = c.in_ok-grow_with.ensures.same ∙ c.loop-option.invariant.same;
  found = grow_more c.args.problem.now c.args.choice.now.items c.loop-option.choice.items c.offer-item.result.variable (map offered_variable (rest_of c.args.rest.now)) c.args.found.now c.loop-option.found c.grow_with.new.found
      c.items-option-items.result.now c.loop-option.option-index c.option.inside.forms.now c.loop-option.invariant.same c.loop-option-test.true (subst (λ (b : List Form). b ≡ get_or c.items-option-items.result.now c.loop-option.option-index b) (sym c.option.view_is) c.option-item.is) c.loop-option.invariant.found c.in_ok-grow_with.ensures.found;
}

pub grow-returns-clause-found : goal.grow-returns-clause-found
grow-returns-clause-found t c = grow_end c.args.problem.now c.args.choice.now.items c.args.rest.now c.offer-item.result c.items-option-items.result.now c.loop-option.option-index c.args.found.now c.loop-option.found
    c.requires.begun c.requires.rest c.in-len1-up.len_at_least c.offer-item.is (c.items-option-items.ensures ∙ ap (λ (offer : Offered). offer.allowed) c.offer.view_is) c.loop-option-test.false c.loop-option.invariant.found
