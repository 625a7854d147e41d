use Rattle.std.proofs.Common.{true, false, inl, inr, sym, ◌∙◌, arith}
use Rattle.kif_tree.specs.Subst.{lookup}
use Rattle.calculus_programs.proofs.PickLaws.{resolved_none, resolved_at}
use Rattle.calculus_programs.proofs.rules.resolve.Goals as goal

pub returns-then-i-left : goal.returns-then-i-left
returns-then-i-left c =
    sym (resolved_none c.args.left.now c.args.left_literal (lookup c.args.left_subst.now.pairs) c.args.right.now c.args.right_literal (lookup c.args.right_subst.now.pairs) (inl (omega arith)))

pub returns-then-j-right : goal.returns-then-j-right
returns-then-j-right c =
    sym (resolved_none c.args.left.now c.args.left_literal (lookup c.args.left_subst.now.pairs) c.args.right.now c.args.right_literal (lookup c.args.right_subst.now.pairs) (inr (omega arith)))

pub returns-then-not-branch : goal.returns-then-not-branch
returns-then-not-branch c =
    let at = resolved_at c.args.left.now c.args.left_literal (lookup c.args.left_subst.now.pairs) c.args.right.now c.args.right_literal (lookup c.args.right_subst.now.pairs)
    c.index-left-i.result c.index-right-j.result (omega arith) (omega arith) c.index-left-i.is c.index-right-j.is in
    sym (at false (grind (arith, c.in_ok-may_resolve.ensures)))

pub returns : goal.returns
returns c =
    let at = resolved_at c.args.left.now c.args.left_literal (lookup c.args.left_subst.now.pairs) c.args.right.now c.args.right_literal (lookup c.args.right_subst.now.pairs)
    c.index-left-i.result c.index-right-j.result (omega arith) (omega arith) c.index-left-i.is c.index-right-j.is in
    sym (at true (grind (arith, c.in_ok-may_resolve.ensures)) ∙ grind (arith, c.new-conclusion.ensures, c.in_ok-append_others.ensures, c.in_ok-append_others-2.ensures))
