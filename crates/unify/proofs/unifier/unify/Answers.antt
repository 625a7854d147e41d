use Rattle.std.proofs.Common.{◌≡◌, ◌++◌, ap, ◌∙◌}
use Rattle.kif_tree.specs.Terms.{variables}
use Rattle.kif_tree.specs.Subst.{compose}
use Rattle.unify.proofs.Replacing.{one}
use Rattle.unify.proofs.Measures.{left_over_falls, reached_first, reached_next, finished}
use Rattle.unify.proofs.unifier.unify.Goals as goal

pub solve-init : goal.solve-init
solve-init c =
    rw c.new.ensures (reached_first c.args.first.now c.args.second.now c.in_ok-left.left c.in_ok-right.right c.in_ok-left.ensures c.in_ok-right.ensures)

pub returns-in-Same-clause-general : goal.returns-in-Same-clause-general
returns-in-Same-clause-general c =
    finished c.args.first.now c.args.second.now c.solve.left c.solve.right c.solve.subst.pairs c.solve.invariant c.in-Same.ensures

pub solve-smaller : goal.solve-smaller
solve-smaller c =
    let found : c.in_ok-found-in-Bind.found.pairs ≡ one c.in-Bind.name.now c.in-Bind.term.now = c.in_ok-found-in-Bind.ensures in
    rw (c.in_ok-left-2.ensures, c.in_ok-right-2.ensures, found)
    (left_over_falls (variables c.args.first.now ++ variables c.args.second.now)
    c.solve.left c.solve.right c.in-Bind.name.now c.in-Bind.term.now c.in-Bind.ensures
    (c.solve.invariant.covers c.in-Bind.name.now c.in-Bind.ensures.here))

pub solve-preserved : goal.solve-preserved
solve-preserved c =
    let found : c.in_ok-found-in-Bind.found.pairs ≡ one c.in-Bind.name.now c.in-Bind.term.now = c.in_ok-found-in-Bind.ensures in
    let next : c.in_ok-subst.subst.pairs ≡ compose c.solve.subst.pairs (one c.in-Bind.name.now c.in-Bind.term.now) =
    c.in_ok-subst.ensures ∙ ap (compose c.solve.subst.pairs) found in
    rw (c.in_ok-left-2.ensures, c.in_ok-right-2.ensures, next, found)
    (reached_next c.args.first.now c.args.second.now c.solve.left c.solve.right c.solve.subst.pairs
    c.in-Bind.name.now c.in-Bind.term.now c.solve.invariant c.in-Bind.ensures)
