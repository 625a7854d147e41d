use Rattle.signatures.specs.Below.{arity_word}
use Rattle.signatures.specs.OwnArities.{IsRight, NeedsNone}
use Rattle.signatures.proofs.SubjectLaws.{gone_skip, gone_more}
use Rattle.signatures.proofs.arities.add_all.Goals as goal

pub loop-located-preserved-in_default : goal.loop-located-preserved-in_default
loop-located-preserved-in_default c = λ before own.
    gone_skip (arity_word c.args.below.now c.args.is_link) (IsRight c.args.forms.now) (NeedsNone c.args.forms.now) before c.args.forms.now c.loop-located.located-index c.located-item.result c.loop-located.table
    c.loop-located-test.true c.located-item.is c.in_default.ensures (c.loop-located.invariant before own)

pub loop-located-preserved : goal.loop-located-preserved
loop-located-preserved c = λ before own.
    gone_more (arity_word c.args.below.now c.args.is_link) (IsRight c.args.forms.now) (NeedsNone c.args.forms.now) before c.args.forms.now c.loop-located.located-index c.located-item.result c.loop-located.table c.add_own.new.table
    c.in-Some.word.now c.bytes.result.now c.loop-located-test.true c.located-item.is c.in-Some.ensures c.bytes.ensures (c.loop-located.invariant before own) (c.in_ok-add_own.ensures c.args.forms.now c.requires.valences c.requires.told)
