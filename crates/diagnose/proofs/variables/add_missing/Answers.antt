use Rattle.diagnose.proofs.VariableLaws.{missing_names, missing_step, missing_all}
use Rattle.diagnose.proofs.variables.add_missing.Goals as goal

pub loop-name-preserved : goal.loop-name-preserved
loop-name-preserved c = record {
  names = missing_names c.in-Some.name c.bytes-in-Some.result.now c.args.names c.loop-name.kept c.add.new.self c.loop-name.left c.pop_first.new.self c.in-Some.ensures c.bytes-in-Some.ensures c.loop-name.invariant.names c.in_ok-add.ensures;
  found =
      missing_step c.args.place c.in-Some.name c.bytes.result.now c.bytes-in-Some.result.now c.loop-name.kept c.add.new.self c.args.other.now c.args.found.now.items c.loop-name.found.items c.add_unless.new.found.items
      c.bytes.ensures c.bytes-in-Some.ensures c.loop-name.invariant.found c.in_ok-add_unless.ensures c.in_ok-add.ensures;
}

pub returns-clause-found : goal.returns-clause-found
returns-clause-found c = missing_all c.args.place c.args.names c.loop-name.kept c.loop-name.left c.args.other.now c.args.found.now.items c.loop-name.found.items c.in_default.ensures c.loop-name.invariant.names c.loop-name.invariant.found
