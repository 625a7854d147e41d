use Rattle.std.proofs.Common.{true, false, sym, ◌∙◌, arith}
use Rattle.kif_tree.specs.Subst.{lookup}
use Rattle.calculus_programs.proofs.PickLaws.{factored_none, factored_not_before, factored_at}
use Rattle.calculus_programs.proofs.rules.factor.Goals as goal

pub returns-then-j-parent : goal.returns-then-j-parent
returns-then-j-parent c =
    sym (factored_none c.args.parent.now c.args.kept_literal c.args.dropped_literal (lookup c.args.subst.now.pairs) (omega arith))

pub returns-then-i-j : goal.returns-then-i-j
returns-then-i-j c =
    sym (factored_not_before c.args.parent.now c.args.kept_literal c.args.dropped_literal (lookup c.args.subst.now.pairs) (omega arith) (omega arith))

pub returns-then-not-branch : goal.returns-then-not-branch
returns-then-not-branch c =
    let at = factored_at c.args.parent.now c.args.kept_literal c.args.dropped_literal (lookup c.args.subst.now.pairs)
    c.index-parent-i.result c.index-parent-j.result (omega arith) (omega arith) c.index-parent-i.is c.index-parent-j.is in
    sym (at false (grind (arith, c.in_ok-may_merge.ensures)))

pub returns : goal.returns
returns c =
    let at = factored_at c.args.parent.now c.args.kept_literal c.args.dropped_literal (lookup c.args.subst.now.pairs)
    c.index-parent-i.result c.index-parent-j.result (omega arith) (omega arith) c.index-parent-i.is c.index-parent-j.is in
    sym (at true (grind (arith, c.in_ok-may_merge.ensures)) ∙ grind (arith, c.new-conclusion.ensures, c.in_ok-append_others.ensures))
