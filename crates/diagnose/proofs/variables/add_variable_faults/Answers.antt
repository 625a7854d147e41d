use Rattle.std.proofs.Common.{refl}
use Rattle.std.specs.Prelude.{codes}
use Rattle.diagnose.proofs.VariableLaws.{faults_of}
use Rattle.diagnose.proofs.variables.add_variable_faults.Goals as goal

pub returns-in-Some : goal.returns-in-Some
returns-in-Some c =
    faults_of c.add_of_implication.result c.args.located.now.place c.args.located.now.form (codes "=>") c.in-Some.first.now c.in-Some.second.now c.in-Some.first.now c.in-Some.second.now
    c.args.found.now.items c.add_of_implication.new.found.items c.in-Some.ensures refl refl c.add_of_implication.ensures

pub returns-in-Some-two_parts : goal.returns-in-Some-two_parts
returns-in-Some-two_parts c =
    faults_of c.add_of_equivalence.result c.args.located.now.place c.args.located.now.form (codes "<=>") c.in-Some-two_parts.first.now c.in-Some-two_parts.second.now
    c.in-Some-two_parts.first.now c.in-Some-two_parts.second.now
    c.args.found.now.items c.add_of_equivalence.new.found.items c.in-Some-two_parts.ensures refl refl c.add_of_equivalence.ensures
