use Rattle.std.proofs.Common.{◌∙◌, filter, ap, arith}
use Rattle.kif_tree.specs.CompoundLaws.{compounds_other}
use Rattle.kif_tree.specs.Profile.{compounds}
use Rattle.var_expand.specs.Fitting.{varies}
use Rattle.var_expand.specs.Gathered.{if_varies}
use Rattle.var_expand.proofs.GatherLaws.{lists_of}
use Rattle.var_expand.proofs.ListLaws.{nothing_more, ended}
use Rattle.var_expand.proofs.lists.+gather_lists.Goals as goal

pub returns-in_default : goal.returns-in_default
returns-in_default t c = nothing_more _ _ (ap (filter varies) (compounds_other c.args.form.now c.in_default.not-List))

pub returns : goal.returns
returns t c = ended (λ part. filter varies (compounds part)) c.args.lists.now c.loop-part.lists (if_varies c.items-parts.result.now) (filter varies (compounds c.args.form.now)) c.operands-part-items.result.now c.loop-part.part-index
    (omega arith) (cc (c.loop-part.invariant, c.in_ok-push_if_varies.ensures))
    (ap (λ f. filter varies (compounds f)) c.in-List.is ∙ lists_of c.in-List.parts ∙ cc)
