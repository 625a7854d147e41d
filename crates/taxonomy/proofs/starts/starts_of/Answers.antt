use Rattle.std.proofs.Common.{ℕ, List, subst, sym}
use Rattle.taxonomy.specs.declared.numbered.NumberedGroup.{NumberedGroup}
use Rattle.taxonomy.specs.Starts.{IsShared}
use Rattle.taxonomy.proofs.StartLaws.{starts_more}
use Rattle.taxonomy.proofs.starts.starts_of.Goals as goal

pub loop-at-preserved : goal.loop-at-preserved
loop-at-preserved c =
    starts_more c.args.sets.now c.args.groups.now c.loop-at.at c.index-groups-at.result c.loop-at.starts.items c.add_group.new.starts.items c.loop-at-test.true c.index-groups-at.is c.in_ok-add_group.ensures.lowered
    (λ n shared. c.in_ok-add_group.ensures.shared n
    (subst (λ (words : List ℕ). IsShared c.args.sets.now words n) (sym c.items.ensures) (subst (λ (group : NumberedGroup). IsShared c.args.sets.now group.words n) c.index-groups-at.is shared))) c.loop-at.invariant
