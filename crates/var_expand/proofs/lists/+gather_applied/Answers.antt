use Rattle.std.proofs.Common.{◌∙◌, ap, arith}
use Rattle.std.specs.List.{flat_map}
use Rattle.kif_tree.specs.CompoundLaws.{compounds_other}
use Rattle.kif_tree.specs.Profile.{compounds}
use Rattle.var_expand.specs.Gathered.{applied_below}
use Rattle.var_expand.proofs.GatherLaws.{applied_of}
use Rattle.var_expand.proofs.ListLaws.{nothing_more, ended}
use Rattle.var_expand.proofs.lists.+gather_applied.Goals as goal

pub returns-in_default : goal.returns-in_default
returns-in_default t c = nothing_more _ _ (ap (flat_map (applied_below c.args.logical)) (compounds_other c.args.form.now c.in_default.not-List))

pub returns : goal.returns
returns t c = ended (λ part. flat_map (applied_below c.args.logical) (compounds part)) c.args.lists.now c.loop-part.lists (applied_below c.args.logical c.items-parts.result.now) (flat_map (applied_below c.args.logical) (compounds c.args.form.now)) c.operands-part-items.result.now c.loop-part.part-index
    (omega arith) (cc (c.loop-part.invariant, c.in_ok-push_applied_below.ensures))
    (ap (λ f. flat_map (applied_below c.args.logical) (compounds f)) c.in-List.is ∙ applied_of c.args.logical c.in-List.parts ∙ cc)
