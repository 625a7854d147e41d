use Rattle.std.proofs.Common.{refl}
use Rattle.std.proofs.lemmas.Result.{on_ok_weaker}
use Rattle.signatures.proofs.NameLaws.{name_seen, name_never, name_not, name_new}
use Rattle.signatures.proofs.names.add_name.Goals as goal

pub returns-then-not-is_name : goal.returns-then-not-is_name
returns-then-not-is_name c =
    name_not c.args.heads.now c.args.arities.now c.args.found.now (record { seen = c.set.new.table; ordered = c.args.found.now.ordered }) c.args.word.now c.is_name.result c.is_name.ensures c.if-not-is_name.true c.in_ok-set.ensures refl

pub returns : goal.returns
returns c =
    on_ok_weaker c.mark_ordered.result
    (λ ordered.
    name_new c.args.heads.now c.args.arities.now c.args.found.now (record { seen = c.set.new.table; ordered = c.mark_ordered.new.marks }) c.args.word.now c.is_name.result c.is_name.ensures c.if-not-is_name.false c.in_ok-set.ensures ordered)
    c.mark_ordered.ensures

pub returns-then-not-may_be_name : goal.returns-then-not-may_be_name
returns-then-not-may_be_name c = name_never c.args.heads.now c.args.arities.now c.args.candidates.now c.args.found.now c.args.word.now c.may_be_name.result c.requires c.may_be_name.ensures c.if-not-may_be_name.true

pub returns-then-contains_key : goal.returns-then-contains_key
returns-then-contains_key c = name_seen c.args.heads.now c.args.arities.now c.args.found.now c.args.word.now c.contains_key.result c.contains_key.ensures c.if-contains_key.true
