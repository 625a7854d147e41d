use Rattle.type_guard.proofs.GatherLaws.{whole}
use Rattle.type_guard.proofs.guards.gather_guards.Goals as goal

pub returns : goal.returns
returns c =
    whole c.guards_of.result c.args.signatures.now c.args.names.now c.in_ok-wanted.wanted c.args.body.now c.new-found.result.items c.append_in.new.found.items c.as_slice.result.now
    c.in_ok-wanted.ensures c.new-found.ensures.items c.as_slice.ensures.value c.in_ok-append_in.ensures.found c.guards_of.ensures
