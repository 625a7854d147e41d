use Rattle.diagnose.proofs.ArgumentLaws.{adds_type}
use Rattle.diagnose.proofs.arguments.add_of_type.Goals as goal

pub returns : goal.returns
returns c = λ forms given.
    adds_type forms c.args.type_told.now c.args.argument.now c.args.place c.args.found.now.items c.push.new.self.items c.in-Some.blamed.now c.in_ok-term.term (c.in-Some.ensures forms given) c.in_ok-term.ensures c.in_ok-push.ensures.items
