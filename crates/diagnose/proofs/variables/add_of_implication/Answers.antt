use Rattle.diagnose.proofs.VariableLaws.{adds_implication}
use Rattle.diagnose.proofs.variables.add_of_implication.Goals as goal

pub returns : goal.returns
returns c =
    adds_implication c.args.place c.args.first.now c.args.second.now c.new-in_first.result c.new-in_second.result c.collect.new.free c.collect-2.new.free
    c.args.found.now.items c.collect.new.found.items c.collect-2.new.found.items c.add_missing.new.found.items
    c.new-in_first.ensures c.new-in_second.ensures c.in_ok-collect.ensures.free c.in_ok-collect-2.ensures.free c.in_ok-collect.ensures.found c.in_ok-collect-2.ensures.found c.in_ok-add_missing.ensures.found
