use Rattle.std.proofs.Common.{[], ◌∷◌, ◌++◌, sym, ap₂, ◌∙◌}
use Rattle.kif_tree.specs.declared.form.Form.{Form}
use Rattle.kif_tree.specs.Subst.{value_of}
use Rattle.kif_tree.specs.Clauses.{Literals, without_answers}
use Rattle.kif_tree.proofs.ClauseLaws.{bare_more}
use Rattle.kif_tree.proofs.subst.ground_instance.Goals as goal

pub loop-literal-preserved : goal.loop-literal-preserved
loop-literal-preserved c =
    c.in_ok-push_unless_answer.ensures
    ∙ ap₂ (λ (before : Literals) (a : Form). before ++ without_answers (record { positive = c.literal-item.result.positive; atom = a } ∷ [])) c.loop-literal.invariant c.in_ok-atom.ensures
    ∙ sym (bare_more (value_of c.args.pairs.now) c.items-literal-items.result.now c.loop-literal.literal-index c.literal-item.result c.loop-literal-test.true c.literal-item.is)
